use Rattle.std.specs.Prelude.{◌≡◌}
use Rattle.graph.specs.View.{edges_with}
use Rattle.enumeration.specs.Store.{HasLeaves}
use Rattle.enumeration.specs.Lent.{store_of, SameLists, Indexed}
use Rattle.enumeration.specs.Walks.{solve_from}
use Rattle.enumeration.proofs.solve.Given as goal

abbrev pub invariant-loop-j : goal.invariant-loop-j
invariant-loop-j l =
    let from = solve_from (edges_with l.graph.edges) l.b in
    (from l.j (store_of l.l) ≡ from l.b.leaves (store_of l.initial.l))
    × SameLists l.initial.l l.l
    × Indexed l.b l.l
    × HasLeaves l.b (store_of l.l)
