use Rattle.std.proofs.Common.{ap, ◌∙◌, rules}
use Rattle.std.specs.Int.Bits.{bit_or}
use Rattle.stepping.specs.Next.{leaves_left}
use Rattle.stepping.proofs.Stepping.{loop_start, loop_next, loop_stopped}
use Rattle.enumeration.proofs.Laws.{neighbor_keeps, frozen, grown, emit_is, ready_on}
use Rattle.enumeration.proofs.emit.emit_csg.Goals as goal

pub loop-v-init : goal.loop-v-init
loop-v-init c =
    let all = ap leaves_left c.into_iter-v-iterator.ensures.into_iter_gives ∙ c.of-v-items.ensures in
    let whole = emit_is _ _ _ _ _ _ (ap (bit_or c.args.s1.set) c.b_min.ensures) c.neighborhood-m.ensures in
    (loop_start (neighbor_keeps _ _ (frozen _) _ _) all whole, search rules, c.requires)

pub loop-v-preserved : goal.loop-v-preserved
loop-v-preserved c =
    let o = c.loop-v.invariant in
    let r = c.try_neighbor.ensures in (
      loop_next o.0 c.in-Some.ensures.steps r.value,
      search rules,
      ready_on o.2 r.value (neighbor_keeps _ _ (grown _) _ _ _ _) r.index,
    )

pub returns-then-is_some-clause-value : goal.returns-then-is_some-clause-value
returns-then-is_some-clause-value c = loop_stopped c.loop-v.invariant.0 c.if-is_some.ensures
