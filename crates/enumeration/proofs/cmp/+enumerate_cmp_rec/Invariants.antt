use Rattle.stepping.specs.Next.{subsets_left}
use Rattle.stepping.proofs.Stepping.{Loop}
use Rattle.graph.specs.View.{edges_with}
use Rattle.enumeration.specs.Store.{stop_of}
use Rattle.enumeration.specs.Lent.{store_of, SameLists, Ready}
use Rattle.enumeration.specs.Walks.{enumerate_cmp_rec, visit_cmp}
use Rattle.enumeration.proofs.cmp.+enumerate_cmp_rec.Given as goal

abbrev pub invariant-loop-t : goal.invariant-loop-t
invariant-loop-t l =
    let es = edges_with l.graph.edges in
    Loop stop_of (visit_cmp es l.b l.deeper l.s1.set l.s2 l.y) (enumerate_cmp_rec es l.b l.d l.s1.set l.s2 l.x (store_of l.fn.l))
    (subsets_left l.t-iterator) (store_of l.l)
    × SameLists l.fn.l l.l
    × Ready l.b l.l l.s1

abbrev pub decreases-enumerate_cmp_rec : goal.decreases-enumerate_cmp_rec
decreases-enumerate_cmp_rec l = l.d
