use Rattle.std.proofs.Common.{length, drop}
use Rattle.graph.specs.View.{edges_with}
use Rattle.graph.proofs.NeighborLaws.{Grown}
use Rattle.graph.proofs.enter_sides.Given as goal

abbrev pub invariant-loop-l : goal.invariant-loop-l
invariant-loop-l l = let es = edges_with l.edges in Grown es (drop (length l.yielded) es) l.neighbors
