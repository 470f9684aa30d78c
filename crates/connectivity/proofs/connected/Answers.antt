use mathlib.Core.Path.{sym, ◌∙◌}
use borrow.Author.Tests.{eq-eqb}
use Rattle.connectivity.proofs.CrossedLaws.{not_crossed}
use Rattle.connectivity.proofs.Laws.{connected_none, connected_by}
use Rattle.connectivity.proofs.PartedLaws.{own_parted, merge_parted}
use Rattle.definition.specs.Connected.{connected}
use Rattle.connectivity.proofs.connected.Goals as goal

pub returns-then-a-eq0 : goal.returns-then-a-eq0
unfolding connected
returns-then-a-eq0 c = rw (eq-eqb _ _ c.if-a-eq0.true)

pub returns-then-b-eq0 : goal.returns-then-b-eq0
returns-then-b-eq0 c =
    let a = c.args in
    sym (connected_none a.edges.now.left.now a.edges.now.right.now a.a a.b a.skip c.if-b-eq0.true)

pub returns-then-not-is_crossed : goal.returns-then-not-is_crossed
returns-then-not-is_crossed c =
    let a = c.args in
    sym (not_crossed a.edges.now.left.now a.edges.now.right.now a.a a.b a.skip c.if-a-eq0.false c.if-b-eq0.false
    (sym c.is_disjoint.ensures ∙ c.if-is_disjoint.true) (sym c.is_crossed.ensures ∙ c.if-not-is_crossed.true))

-- the classes part the leaves at each step
pub merge-requires : goal.merge-requires
merge-requires c = rw c.own-classes.ensures own_parted

pub merge-requires-2 : goal.merge-requires-2
merge-requires-2 c = rw (c.merge.ensures, c.own-classes.ensures) (merge_parted _ _ own_parted)

pub settle-requires : goal.settle-requires
settle-requires c =
    rw (c.merge-2.ensures, c.merge.ensures, c.own-classes.ensures)
    (merge_parted _ _ (merge_parted _ _ own_parted))

pub returns : goal.returns
returns c =
    let a = c.args in
    c.is_one.ensures
    ∙ connected_by a.edges.now.left.now a.edges.now.right.now a.a a.b a.skip c.if-a-eq0.false c.if-b-eq0.false c.own-classes.ensures
    c.merge.ensures c.merge-2.ensures c.settle.ensures
