use Rattle.stepping.specs.Next.{subsets_left}
use Rattle.stepping.proofs.Stepping.{Loop}
use Rattle.graph.specs.View.{edges_with}
use Rattle.enumeration.specs.Store.{stop_of}
use Rattle.enumeration.specs.Lent.{store_of, SameLists, Ready}
use Rattle.enumeration.specs.Walks.{visit_try, visit_tries}
use Rattle.enumeration.proofs.cmp.visit_tries.Given as goal

abbrev pub invariant-loop-t : goal.invariant-loop-t
invariant-loop-t l =
    let es = edges_with l.graph.edges in
    Loop stop_of (visit_try es l.b l.s1.set l.s2) (visit_tries es l.b l.s1.set l.s2 l.m (store_of l.initial.l))
    (subsets_left l.t-iterator) (store_of l.l)
    × SameLists l.initial.l l.l
    × Ready l.b l.l l.s1
