use Rattle.std.specs.Prelude.{◌≤◌, length}
use mathlib.Core.Path.{sym, ◌∙◌}
use native.Mathlib.Omega.{arith}
use Rattle.ses.specs.View.{leaves_of}
use Rattle.ses.specs.Laws.{length_leaves, leaf_held, holder_hit, holder_miss, holder_none}
use Rattle.ses.proofs.Side.holder.Goals as goal

pub returns-then-holds : goal.returns-then-holds
returns-then-holds c =
    let s = c.args.self.now in
    let bs = s.sheet.bytes.now in
    let k = c.loop-k.k in
    c.nodeset_singleton.ensures
    ∙ holder_hit (leaves_of bs s.leaves.now) s.set c.args.c k (omega (arith, length_leaves bs s.leaves.now, c.loop-k-test.true))
    (sym c.if-holds.true ∙ c.holds.ensures ∙ leaf_held bs s.leaves.now s.set c.args.c k c.loop-k-test.true)
    ∙ c.loop-k.invariant

pub loop-k-preserved : goal.loop-k-preserved
loop-k-preserved c =
    let s = c.args.self.now in
    let bs = s.sheet.bytes.now in
    let k = c.loop-k.k in
    holder_miss (leaves_of bs s.leaves.now) s.set c.args.c k (omega (arith, length_leaves bs s.leaves.now, c.loop-k-test.true))
    (sym c.if-holds.false ∙ c.holds.ensures ∙ leaf_held bs s.leaves.now s.set c.args.c k c.loop-k-test.true)
    ∙ c.loop-k.invariant

pub returns : goal.returns
returns c =
    let s = c.args.self.now in
    let bs = s.sheet.bytes.now in
    let end : length (leaves_of bs s.leaves.now) ≤ c.loop-k.k = omega (arith, length_leaves bs s.leaves.now, c.loop-k-test.false) in
    holder_none (leaves_of bs s.leaves.now) s.set c.args.c c.loop-k.k end ∙ c.loop-k.invariant
