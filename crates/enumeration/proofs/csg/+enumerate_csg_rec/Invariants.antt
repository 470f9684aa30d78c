use Rattle.stepping.specs.Next.{subsets_left}
use Rattle.stepping.proofs.Stepping.{Loop}
use Rattle.graph.specs.View.{edges_with}
use Rattle.enumeration.specs.Store.{stop_of}
use Rattle.enumeration.specs.Lent.{store_of, SameLists, Indexed}
use Rattle.enumeration.specs.Walks.{enumerate_csg_rec, visit_csg}
use Rattle.enumeration.proofs.csg.+enumerate_csg_rec.Given as goal

abbrev pub invariant-loop-t : goal.invariant-loop-t
invariant-loop-t l =
    let es = edges_with l.graph.edges in
    Loop stop_of (visit_csg es l.b l.deeper l.s1 l.y) (enumerate_csg_rec es l.b l.d l.s1 l.x (store_of l.fn.l))
    (subsets_left l.t-iterator) (store_of l.l)
    × SameLists l.fn.l l.l
    × Indexed l.b l.l

abbrev pub decreases-enumerate_csg_rec : goal.decreases-enumerate_csg_rec
decreases-enumerate_csg_rec l = l.d
