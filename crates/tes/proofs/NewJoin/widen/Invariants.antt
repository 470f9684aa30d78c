-- The joins from j on widen what is there to what all of them make of the start.
use mathlib.Core.Path.{◌≡◌}
use lib.ListN.{drop}
use Rattle.definition.specs.Edges.{widen}
use Rattle.tes.specs.Views.{sides_of, joins_of, OfEdges}
use Rattle.tes.proofs.NewJoin.widen.Given as goal

abbrev pub invariant-loop-j : goal.invariant-loop-j
invariant-loop-j l =
    let n = l.self in
    OfEdges l.edges.left.now l.edges.right.now
    (λ es. widen es n.join_type n.whole.left n.whole.right (joins_of (drop l.j-index l.joins)) (sides_of l.s)
    ≡ widen es n.join_type n.whole.left n.whole.right (joins_of l.joins) (sides_of l.initial.s))
