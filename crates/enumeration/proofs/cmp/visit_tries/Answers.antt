use Rattle.std.specs.Prelude.{refl}
use Rattle.std.proofs.Common.{ap, ◌∙◌, rules}
use Rattle.stepping.specs.Next.{subsets_left}
use Rattle.stepping.proofs.Stepping.{loop_start, loop_next, loop_stopped}
use Rattle.enumeration.specs.Walks.{try_connected}
use Rattle.enumeration.proofs.Laws.{connected_keeps, visit_try_keeps, frozen, grown, visit_grown, ready_on}
use Rattle.enumeration.proofs.cmp.visit_tries.Goals as goal

pub loop-t-init : goal.loop-t-init
loop-t-init c =
    let all = ap subsets_left c.into_iter-t-iterator.ensures.into_iter_gives ∙ c.of-t-items.ensures in
    (loop_start (visit_try_keeps _ _ (frozen _) _ _) all refl, search rules, c.requires)

pub emit_csg_cmp-requires : goal.emit_csg_cmp-requires
emit_csg_cmp-requires c = ready_on c.loop-t.invariant.2 c.visit.ensures.value (visit_grown _ _) c.visit.ensures.index

pub loop-t-preserved : goal.loop-t-preserved
loop-t-preserved c =
    let o = c.loop-t.invariant in
    let v = c.visit.ensures in
    let r = c.emit_csg_cmp.ensures in (
      loop_next o.0 c.in-Some.ensures.steps (r.value ∙ ap (try_connected _ _ _ _) v.value),
      search rules,
      ready_on (ready_on o.2 v.value (visit_grown _ _) v.index) r.value (connected_keeps _ _ (grown _) _ _ _) r.index,
    )

pub returns-then-is_some-clause-value : goal.returns-then-is_some-clause-value
returns-then-is_some-clause-value c = loop_stopped c.loop-t.invariant.0 c.if-is_some.ensures
