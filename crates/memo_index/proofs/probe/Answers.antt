use Rattle.std.proofs.Common.{◌+◌, sym, ◌∙◌, refl, arith, mod-lt}
use Rattle.memo_index.specs.Index.{home, lookup}
use Rattle.memo_index.proofs.WalkLaws.{home_in, run_step, probe_step, probe_vacant, probe_here}
use Rattle.memo_index.proofs.IndexLaws.{vacant_ends}
use Rattle.memo_index.proofs.probe.Goals as goal

pub loop-p-init : goal.loop-p-init
unfolding lookup
loop-p-init c =
    let a = c.args in
    record { inside = home_in a.s; ends = vacant_ends a.index.now (home a.s) c.requires.sized c.requires.ends (home_in a.s); value = refl }

pub loop-p-smaller : goal.loop-p-smaller
loop-p-smaller c = omega (arith, run_step c.args.index.now c.loop-p.p c.loop-p.invariant.ends c.loop-p-test.true)

pub loop-p-preserved : goal.loop-p-preserved
loop-p-preserved c =
    let a = c.args in
    let l = c.loop-p in
    let v = c.loop-p-test.true in
    record {
      inside = mod-lt (l.p + 1) (omega arith);
      ends = omega (arith, run_step a.index.now l.p l.invariant.ends v);
      value = probe_step a.index.now a.mset.now a.s l.p l.invariant.ends v c.if-mset-i.false ∙ l.invariant.value;
    }

pub returns-then-mset-i : goal.returns-then-mset-i
returns-then-mset-i c =
    let a = c.args in
    let l = c.loop-p in
    sym (probe_here a.index.now a.mset.now a.s 1023 l.p c.loop-p-test.true c.if-mset-i.true) ∙ l.invariant.value

pub returns : goal.returns
returns c =
    let a = c.args in
    let l = c.loop-p in
    sym (probe_vacant a.index.now a.mset.now a.s 1023 l.p c.loop-p-test.false) ∙ l.invariant.value
