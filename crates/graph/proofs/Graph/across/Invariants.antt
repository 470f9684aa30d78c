use Rattle.std.proofs.Common.{◌≡◌, ◌<◌, ◌^◌, bit_or}
use Rattle.graph.specs.View.{edges_with}
use Rattle.graph.specs.Neighbors.{across}
use Rattle.graph.proofs.Graph.across.Given as goal

abbrev pub invariant-loop-rest : goal.invariant-loop-rest
invariant-loop-rest l =
    let es = edges_with l.self.edges in
    record { set : l.rest < 2 ^ 64; value : bit_or l.found (across es l.rest) ≡ across es l.s }

abbrev pub decreases-loop-rest : goal.decreases-loop-rest
decreases-loop-rest l = l.rest
