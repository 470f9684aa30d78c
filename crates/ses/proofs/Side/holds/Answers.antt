use mathlib.Core.Path.{sym, ap, ◌∙◌}
use Prim.Native.Nat.{ℕ}
use Rattle.nodeset.specs.Sets.{disjoint}
use Rattle.ses.specs.Laws.{not_held, held_by}
use Rattle.ses.proofs.Side.holds.Goals as goal

pub returns-then-is_disjoint : goal.returns-then-is_disjoint
returns-then-is_disjoint c =
    let a = c.args in
    let s = a.self.now in
    not_held s.set a.k _ c.requires.0
    (ap (λ (x : ℕ). disjoint x s.set) (sym c.nodeset_singleton.ensures) ∙ sym c.is_disjoint.ensures ∙ c.if-is_disjoint.true)

pub returns : goal.returns
returns c =
    let a = c.args in
    let s = a.self.now in
    c.has_column.ensures
    ∙ held_by s.set a.k c.requires.0
    (ap (λ (x : ℕ). disjoint x s.set) (sym c.nodeset_singleton.ensures) ∙ sym c.is_disjoint.ensures ∙ c.if-is_disjoint.false)
