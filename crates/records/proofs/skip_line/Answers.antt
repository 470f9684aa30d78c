use Rattle.std.proofs.Common.{◌≡◌, ◌+◌, ◌-◌, subst, arith}
use Rattle.records.proofs.ReadLaws.{Skipped, skipped_turn, skipped_end, skipped_all}
use Rattle.records.proofs.skip_line.Goals as goal

pub loop-preserved : goal.loop-preserved
loop-preserved g c =
    let read = c.in_ok-goes_on.ensures in
    let e : 4096 - c.loop.counter - 1 ≡ 4096 - (c.loop.counter + 1) = omega arith in
    subst (λ left. Skipped (g.R.Read.remaining c.args.input.now) (g.R.Read.remaining c.goes_on.new.input) left 4096) e
    (skipped_turn _ _ _ _ _ (omega arith) _ c.if-not-branch.false c.loop.invariant read.value read.rest)

pub returns-after-loop : goal.returns-after-loop
returns-after-loop g c = skipped_all _ _ _ _ (omega arith) c.loop.invariant

pub returns-then-not-branch : goal.returns-then-not-branch
returns-then-not-branch g c =
    let read = c.in_ok-goes_on.ensures in
    skipped_end _ _ _ (4096 - c.loop.counter) _ (omega arith) _ c.if-not-branch.true c.loop.invariant read.value read.rest
