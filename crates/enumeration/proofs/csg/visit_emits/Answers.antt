use Rattle.std.specs.Prelude.{refl}
use Rattle.std.proofs.Common.{ap, ◌∙◌, rules}
use Rattle.stepping.specs.Next.{subsets_left}
use Rattle.stepping.proofs.Stepping.{loop_start, loop_stopped}
use Rattle.enumeration.proofs.Laws.{visit_emit_keeps, frozen}
use Rattle.enumeration.proofs.csg.visit_emits.Goals as goal

pub loop-t-init : goal.loop-t-init
loop-t-init c =
    let all = ap subsets_left c.into_iter-t-iterator.ensures.into_iter_gives ∙ c.of-t-items.ensures in
    (loop_start (visit_emit_keeps _ _ (frozen _) _) all refl, search rules, c.requires)

pub returns-then-is_some-clause-value : goal.returns-then-is_some-clause-value
returns-then-is_some-clause-value c = loop_stopped c.loop-t.invariant.0 c.if-is_some.ensures
