use mathlib.Core.Path.{◌≡◌, sym, ap, ◌∙◌}
use Prim.Native.Nat.{ℕ, ◌+◌, ◌-◌}
use native.Mathlib.Omega.{arith}
use lib.ListN.{length}
use Rattle.definition.specs.Connected.{rounds}
use Rattle.connectivity.proofs.Laws.{rounds_still, rounds_step}
use Rattle.connectivity.proofs.PartedLaws.{round_parted}
use Rattle.connectivity.proofs.Classes.settle.Goals as goal

pub pass-requires : goal.pass-requires
pass-requires c = c.loop-round.invariant.1

pub loop-round-preserved : goal.loop-round-preserved
loop-round-preserved c =
    let a = c.args in
    let e = a.edges.now in
    let o = c.loop-round in
    let k = length e.left.now - o._round in
    let less : length e.left.now - (o._round + 1) ≡ k - 1 = omega arith in (
      ap (λ (m : ℕ). rounds m a.skip e.left.now e.right.now c.pass.new.self.0) less
          ∙ ap (rounds (k - 1) a.skip e.left.now e.right.now) c.pass.ensures.after
          ∙ rounds_step k a.skip e.left.now e.right.now o.self.0 (omega arith)
          ∙ o.invariant.0,
      rw c.pass.ensures.after (round_parted a.skip e.left.now e.right.now o.self.0 o.invariant.1),
    )

pub returns-then-not-pass : goal.returns-then-not-pass
returns-then-not-pass c =
    let e = c.args.edges.now in
    let o = c.loop-round in
    let p = c.pass.ensures in
    let still = p.same c.if-not-pass.true in
    still ∙ sym (rounds_still (length e.left.now - o._round) c.args.skip e.left.now e.right.now o.self.0 (sym p.after ∙ still)) ∙ o.invariant.0

pub returns : goal.returns
unfolding rounds
returns c =
    let e = c.args.edges.now in
    let o = c.loop-round in
    let z : length e.left.now - o._round ≡ 0 = omega arith in
    sym (ap (λ (k : ℕ). rounds k c.args.skip e.left.now e.right.now o.self.0) z) ∙ o.invariant.0
