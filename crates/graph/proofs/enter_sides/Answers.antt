use Rattle.std.proofs.Common.{sym, ◌∙◌, arith, length}
use Rattle.std.proofs.lemmas.List.{length_push}
use Rattle.std.proofs.lemmas.Slice.Zip.{zip_turn, zip_end}
use Rattle.graph.proofs.SetLaws.{sides_below}
use Rattle.graph.proofs.NeighborLaws.{grown_first, grown_next, grown_other, simple_last, adjacent_last}
use Rattle.graph.proofs.enter_sides.Goals as goal

pub loop-l-init : goal.loop-l-init
loop-l-init c = let e = c.args.edges.now in rw c.requires (grown_first (length e.left.now) e.left.now e.right.now)

pub loop-l-preserved : goal.loop-l-preserved
loop-l-preserved c =
    let e = c.args.edges.now in
    let o = c.loop-l in
    let t =
    zip_turn e.left.now e.right.now o.yielded c.into_iter-l-iterator.result o.l-iterator c.next.new.self c.next.result (cc) (cc)
    o.yielded_by (c.in-Some.l, c.in-Some.r) c.in-Some.is c.next.ensures.steps in
    rw length_push
    (grown_next (length e.left.now) e.left.now e.right.now (length o.yielded) c.in-Some.l.now c.in-Some.r.now o.neighbors t.0 (t.2 0) (t.3 0) o.invariant _ _
    (sym c.is_simple.ensures ∙ c.if-not-is_simple.false) c.nodeset_min-u.ensures c.nodeset_min-v.ensures)

pub returns-then-not-is_simple : goal.returns-then-not-is_simple
returns-then-not-is_simple c =
    let e = c.args.edges.now in
    let o = c.loop-l in
    let t =
    zip_turn e.left.now e.right.now o.yielded c.into_iter-l-iterator.result o.l-iterator c.next.new.self c.next.result (cc) (cc)
    o.yielded_by (c.in-Some.l, c.in-Some.r) c.in-Some.is c.next.ensures.steps in
    record {
      tested = sym (grown_other (length e.left.now) e.left.now e.right.now (length o.yielded) c.in-Some.l.now c.in-Some.r.now o.neighbors t.0 (t.2 0) (t.3 0)
          o.invariant (sym c.is_simple.ensures ∙ c.if-not-is_simple.true));
      adjacent = λ h. cc;
    }

pub returns : goal.returns
returns c =
    let e = c.args.edges.now in
    let o = c.loop-l in
    let t =
    zip_end e.left.now e.right.now o.yielded c.into_iter-l-iterator.result o.l-iterator c.next.new.self c.next.result (cc) (cc)
    o.yielded_by c.in-None.is c.next.ensures.steps in
    record {
      tested = simple_last (length e.left.now) e.left.now e.right.now (length o.yielded) o.neighbors (omega (arith, t, e.same)) o.invariant;
      adjacent = λ h. adjacent_last (length e.left.now) e.left.now e.right.now (length o.yielded) o.neighbors (omega (arith, t, e.same)) o.invariant;
    }

pub bounds-neighbors-u : goal.bounds-neighbors-u
bounds-neighbors-u c = rw c.nodeset_min-u.ensures (sides_below _ _ (sym c.is_simple.ensures ∙ c.if-not-is_simple.false)).0

pub bounds-neighbors-u-in-loop-l : goal.bounds-neighbors-u-in-loop-l
bounds-neighbors-u-in-loop-l c = rw c.nodeset_min-u.ensures (sides_below _ _ (sym c.is_simple.ensures ∙ c.if-not-is_simple.false)).0

pub bounds-neighbors-v : goal.bounds-neighbors-v
bounds-neighbors-v c = rw c.nodeset_min-v.ensures (sides_below _ _ (sym c.is_simple.ensures ∙ c.if-not-is_simple.false)).1

pub bounds-neighbors-v-in-loop-l : goal.bounds-neighbors-v-in-loop-l
bounds-neighbors-v-in-loop-l c = rw c.nodeset_min-v.ensures (sides_below _ _ (sym c.is_simple.ensures ∙ c.if-not-is_simple.false)).1
