use Rattle.std.proofs.Common.{sym, ap, ◌∙◌}
use Rattle.std.specs.Int.Bits.{bit_or, or_zero_r}
use Rattle.graph.specs.View.{edges_with}
use Rattle.graph.specs.Neighbors.{across}
use Rattle.graph.proofs.NeighborLaws.{lowest_below, rest_below, across_turn, across_none}
use Rattle.graph.proofs.Graph.across.Goals as goal

pub bounds-self-leaf : goal.bounds-self-leaf
bounds-self-leaf c =
    let o = c.loop-rest in
    rw c.nodeset_min-leaf.ensures (lowest_below o.rest c.loop-rest-test.true o.invariant.set)

pub loop-rest-smaller : goal.loop-rest-smaller
loop-rest-smaller c =
    let o = c.loop-rest in
    rw (c.difference-rest.ensures, c.nodeset_singleton.ensures, c.nodeset_min-leaf.ensures) (rest_below o.rest c.loop-rest-test.true o.invariant.set)

pub loop-rest-preserved : goal.loop-rest-preserved
loop-rest-preserved c =
    let g = c.args.self.now in
    let o = c.loop-rest in
    record {
      set = c.difference-rest.type_inv;
      value = rw (c.difference-rest.ensures, c.nodeset_singleton.ensures, c.nodeset_min-leaf.ensures)
          (across_turn o.rest c.loop-rest-test.true o.invariant.set (edges_with g.edges) g.neighbors o.found (g.adjacent c.requires) ∙ o.invariant.value);
    }

pub returns : goal.returns
returns c =
    let o = c.loop-rest in
    let es = edges_with c.args.self.now.edges in
    sym (or_zero_r o.found) ∙ ap (bit_or o.found) (sym (ap (across es) c.loop-rest-test.false ∙ across_none es)) ∙ o.invariant.value
