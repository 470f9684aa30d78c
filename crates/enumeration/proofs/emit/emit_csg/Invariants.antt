use Rattle.stepping.specs.Next.{leaves_left}
use Rattle.stepping.proofs.Stepping.{Loop}
use Rattle.graph.specs.View.{edges_with}
use Rattle.enumeration.specs.Store.{stop_of}
use Rattle.enumeration.specs.Lent.{store_of, SameLists, Ready}
use Rattle.enumeration.specs.Walks.{emit_csg, try_neighbor}
use Rattle.enumeration.proofs.emit.emit_csg.Given as goal

abbrev pub invariant-loop-v : goal.invariant-loop-v
invariant-loop-v l =
    let es = edges_with l.graph.edges in
    Loop stop_of (try_neighbor es l.b l.s1.set l.x) (emit_csg es l.b l.s1.set (store_of l.initial.l))
    (leaves_left l.v-iterator) (store_of l.l)
    × SameLists l.initial.l l.l
    × Ready l.b l.l l.s1
