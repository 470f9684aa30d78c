use Rattle.std.proofs.Common.{sym, ap, ◌∙◌, arith}
use Rattle.std.proofs.lemmas.Nat.{or_lt}
use Rattle.std.specs.Int.Bits.{bit_or}
use Rattle.nodeset.specs.Sets.{difference}
use Rattle.graph.specs.View.{edges_with}
use Rattle.graph.proofs.NeighborLaws.{neighborhood_simple}
use Rattle.graph.proofs.neighborhood.Goals as goal

pub returns-then-graph : goal.returns-then-graph
returns-then-graph c =
    let a = c.args in
    let g = a.graph.now in
    c.difference.ensures ∙ ap (λ z. difference z (bit_or a.s a.x)) c.across.ensures
    ∙ neighborhood_simple (edges_with g.edges) (sym g.tested ∙ c.if-graph.true) a.s a.x (or_lt 64 a.s a.x (omega arith) (omega arith))
