use Rattle.stepping.specs.Next.{subsets_left}
use Rattle.stepping.proofs.Stepping.{Loop}
use Rattle.graph.specs.View.{edges_with}
use Rattle.enumeration.specs.Store.{stop_of}
use Rattle.enumeration.specs.Lent.{store_of, SameLists, Indexed}
use Rattle.enumeration.specs.Walks.{visit_emit, visit_emits}
use Rattle.enumeration.proofs.csg.visit_emits.Given as goal

abbrev pub invariant-loop-t : goal.invariant-loop-t
invariant-loop-t l =
    let es = edges_with l.graph.edges in
    Loop stop_of (visit_emit es l.b l.s1) (visit_emits es l.b l.s1 l.m (store_of l.initial.l))
    (subsets_left l.t-iterator) (store_of l.l)
    × SameLists l.initial.l l.l
    × Indexed l.b l.l
