use mathlib.Core.Path.{sym, ◌∙◌}
use native.Mathlib.Omega.{arith}
use lib.ListN.{length}
use Rattle.std.specs.Prelude.{[]}
use Rattle.std.proofs.lemmas.List.{length_push}
use Rattle.std.proofs.lemmas.Slice.Zip.{zip_turn, zip_end}
use Rattle.graph.specs.Laws.{nbr_step, nbr_end}
use Rattle.graph.proofs.walk.Goals as goal

pub loop-l-preserved : goal.loop-l-preserved
loop-l-preserved c =
    let a = c.args in
    let e = a.edges.now in
    let o = c.loop-l in
    let i = length o.yielded in
    let t =
    zip_turn e.left.now e.right.now o.yielded c.into_iter-l-iterator.result o.l-iterator c.next.new.self c.next.result (cc) (cc)
    o.yielded_by (c.in-Some.l, c.in-Some.r) c.in-Some.is c.next.ensures.steps in
    rw (length_push, c.beyond-in-loop-l.ensures, c.beyond.ensures, t.2 0, t.3 0)
    (nbr_step (length e.left.now) e.left.now e.right.now [] [] [] a.s a.x o.found i t.0 ∙ o.invariant)

pub returns : goal.returns
returns c =
    let e = c.args.edges.now in
    let o = c.loop-l in
    let t =
    zip_end e.left.now e.right.now o.yielded c.into_iter-l-iterator.result o.l-iterator c.next.new.self c.next.result (cc) (cc)
    o.yielded_by c.in-None.is c.next.ensures.steps in
    sym (nbr_end (length e.left.now) e.left.now e.right.now [] [] [] c.args.s c.args.x o.found (length o.yielded) (omega (arith, t, e.same)))
    ∙ o.invariant
