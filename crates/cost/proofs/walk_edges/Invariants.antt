use mathlib.Core.Path.{◌≡◌}
use mathlib.Core.List.{List}
use Prim.Native.Nat.{ℕ}
use Rattle.std.proofs.Common.{◌<◌, length, IfSome}
use Rattle.definition.specs.EdgeView.{edges_of}
use Rattle.definition.specs.EdgeWalk.{edge_walk}
use Rattle.definition.proofs.EdgeWalkLaws.{edge_walk_on}
use Rattle.cost.specs.View.{gathered_of}
use Rattle.cost.proofs.walk_edges.Given as goal

abbrev pub invariant-loop-i : goal.invariant-loop-i
invariant-loop-i l = record {
  value : (s t : List ℕ)
      → edge_walk_on (length l.edges.left.now) l.edges.left.now l.edges.right.now l.edges.predicate.now l.selectivities l.a l.b s t l.i (gathered_of l.g)
      ≡ edge_walk (edges_of (length l.edges.left.now) l.edges.left.now l.edges.right.now l.edges.predicate.now s t) l.selectivities l.a l.b l.product;
  lead : IfSome l.g.lead (λ k. k < l.i);
}
