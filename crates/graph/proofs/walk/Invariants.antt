use Rattle.std.proofs.Common.{◌≡◌, length, drop, bit_or}
use Rattle.definition.specs.Hypergraph.{neighborhood}
use Rattle.graph.specs.View.{edges_with}
use Rattle.graph.proofs.walk.Given as goal

abbrev pub invariant-loop-l : goal.invariant-loop-l
invariant-loop-l l =
    bit_or l.found (neighborhood (drop (length l.yielded) (edges_with l.edges)) l.s l.x) ≡ neighborhood (edges_with l.edges) l.s l.x
