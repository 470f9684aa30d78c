use mathlib.Core.Path.{refl, sym, ◌∙◌}
use mathlib.Core.Bool.{true, false}
use native.Mathlib.Omega.{arith}
use lib.ListN.{length}
use Rattle.std.proofs.lemmas.List.{length_push}
use Rattle.std.proofs.lemmas.Slice.Zip.{zip_turn, zip_end}
use Rattle.std.specs.Int.Bits.{bit_or}
use Rattle.connectivity.proofs.Laws.{round_one, round_done}
use Rattle.connectivity.proofs.PartedLaws.{merge_parted}
use Rattle.connectivity.proofs.Classes.pass.Goals as goal

pub merge-requires : goal.merge-requires
merge-requires c = c.loop-l.invariant.2

pub loop-l-preserved-then-merges : goal.loop-l-preserved-then-merges
loop-l-preserved-then-merges c =
    let a = c.args in
    let e = a.edges.now in
    let o = c.loop-l in
    let t =
    zip_turn e.left.now e.right.now o.yielded c.into_iter-l-iterator.result o.l-iterator c.next.new.self c.next.result (cc) (cc)
    o.yielded_by (c.in-Some.l, c.in-Some.r) c.in-Some.is c.next.ensures.steps in
    let one = round_one a.skip e.left.now e.right.now (length o.yielded) t.0 t.1 o.self.0 c.merge.new.self.0 true (t.2 0) (t.3 0) in (
      rw length_push (one (sym c.merges.ensures ∙ c.if-merges.true) c.merge.ensures ∙ o.invariant.0),
      (λ f. absurd (cc)),
      rw c.merge.ensures (merge_parted (bit_or c.in-Some.l.now c.in-Some.r.now) o.self.0 o.invariant.2),
    )

pub loop-l-preserved : goal.loop-l-preserved
loop-l-preserved c =
    let a = c.args in
    let e = a.edges.now in
    let o = c.loop-l in
    let t =
    zip_turn e.left.now e.right.now o.yielded c.into_iter-l-iterator.result o.l-iterator c.next.new.self c.next.result (cc) (cc)
    o.yielded_by (c.in-Some.l, c.in-Some.r) c.in-Some.is c.next.ensures.steps in
    let one = round_one a.skip e.left.now e.right.now (length o.yielded) t.0 t.1 o.self.0 o.self.0 false (t.2 0) (t.3 0) in
    (rw length_push (one (sym c.merges.ensures ∙ c.if-merges.false) refl ∙ o.invariant.0), o.invariant.1, o.invariant.2)

pub returns-clause-after : goal.returns-clause-after
returns-clause-after c =
    let e = c.args.edges.now in
    let o = c.loop-l in
    let t =
    zip_end e.left.now e.right.now o.yielded c.into_iter-l-iterator.result o.l-iterator c.next.new.self c.next.result (cc) (cc)
    o.yielded_by c.in-None.is c.next.ensures.steps in
    sym (round_done c.args.skip (length o.yielded) e.left.now e.right.now o.self.0 (omega (arith, t, e.same))) ∙ o.invariant.0
