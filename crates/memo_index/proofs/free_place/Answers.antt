use Rattle.std.proofs.Common.{◌+◌, sym, ◌∙◌, refl, arith, mod-lt}
use Rattle.memo_index.specs.Index.{home}
use Rattle.memo_index.proofs.WalkLaws.{home_in, run_step, free_step, free_vacant}
use Rattle.memo_index.proofs.IndexLaws.{vacant_ends}
use Rattle.memo_index.proofs.free_place.Goals as goal

pub loop-q-init : goal.loop-q-init
loop-q-init c =
    let a = c.args in
    record { inside = home_in a.s; ends = vacant_ends a.index.now (home a.s) c.requires.sized c.requires.ends (home_in a.s); value = refl }

pub loop-q-smaller : goal.loop-q-smaller
loop-q-smaller c = omega (arith, run_step c.args.index.now c.loop-q.q c.loop-q.invariant.ends c.loop-q-test.true)

pub loop-q-preserved : goal.loop-q-preserved
loop-q-preserved c =
    let i = c.args.index.now in
    let l = c.loop-q in
    let v = c.loop-q-test.true in
    record {
      inside = mod-lt (l.q + 1) (omega arith);
      ends = omega (arith, run_step i l.q l.invariant.ends v);
      value = free_step i l.q l.invariant.ends v ∙ l.invariant.value;
    }

pub returns : goal.returns
returns c = sym (free_vacant c.args.index.now 1023 c.loop-q.q c.loop-q-test.false) ∙ c.loop-q.invariant.value
