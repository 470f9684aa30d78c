use mathlib.Core.Path.{sym, ◌∙◌}
use native.Mathlib.Omega.{arith}
use lib.ListN.{length}
use Rattle.definition.specs.EdgeView.{edges_of}
use Rattle.tes.specs.Views.{sides_of}
use Rattle.tes.specs.Laws.{widen_on, widen_end}
use Rattle.tes.proofs.NewJoin.widen.Goals as goal

pub loop-j-preserved : goal.loop-j-preserved
loop-j-preserved c =
    let a = c.args in
    let n = a.self in
    let l = a.edges.now.left.now in
    let o = c.loop-j in
    λ p s k.
    widen_on (edges_of (length l) l a.edges.now.right.now p s k) n.join_type n.whole.left n.whole.right a.joins.now o.j-index _
    (sides_of o.s) (sides_of c.widened-s.result) (omega arith) (c.widened-s.ensures p s k)
    ∙ o.invariant p s k

pub returns : goal.returns
returns c =
    let a = c.args in
    let n = a.self in
    let l = a.edges.now.left.now in
    let o = c.loop-j in
    λ p s k.
    sym (widen_end (edges_of (length l) l a.edges.now.right.now p s k) n.join_type n.whole.left n.whole.right a.joins.now o.j-index
    (sides_of o.s) (omega arith))
    ∙ o.invariant p s k
