use Rattle.std.specs.Prelude.{refl, ◌-◌}
use Rattle.std.proofs.Common.{ap, ◌∙◌, arith, rules}
use Rattle.std.specs.Int.Bits.{bit_or}
use Rattle.stepping.specs.Next.{subsets_left}
use Rattle.stepping.proofs.Stepping.{loop_start, loop_next, loop_stopped}
use Rattle.enumeration.specs.Walks.{enumerate_cmp_rec}
use Rattle.enumeration.proofs.SubsetPasses.{two_none, two_both, again_empty}
use Rattle.enumeration.proofs.Laws.{cmp_two, tries_keep, cmp_keeps, visit_cmp_keeps, frozen, grown, visit_grown, ready_on}
use Rattle.enumeration.proofs.cmp.+enumerate_cmp_rec.Goals as goal

pub returns-then-d-eq0-clause-value : goal.returns-then-d-eq0-clause-value
returns-then-d-eq0-clause-value t c = two_none _ _ (cmp_two _ _ _) _ _ _ _ c.if-d-eq0.true

pub loop-t-init : goal.loop-t-init
loop-t-init t c =
    let all = ap subsets_left c.into_iter-t-iterator.ensures.into_iter_gives ∙ c.of-t-items.ensures in
    let first = c.visit_tries.ensures in
    let both = two_both _ _ (cmp_two _ _ _) _ _ _ _ _ _ _ c.if-d-eq0.false c.requires.neighbors refl first.value in (
      loop_start (visit_cmp_keeps _ _ (frozen _) _ _ _ _) all both,
      search rules,
      ready_on c.requires.ready first.value (tries_keep _ _ (grown _) _ _ _ _) first.index,
    )

pub loop-t-preserved-then-n-eq0 : goal.loop-t-preserved-then-n-eq0
loop-t-preserved-then-n-eq0 t c =
    let a = c.args in
    let o = c.loop-t.invariant in
    let v = c.visit.ensures in
    let same = again_empty _ _ (cmp_two _ _ a.s1.set) (a.d - 1) a.s2 (bit_or a.x a.m) c.in-Some.t _ v.value c.neighborhood-n.ensures c.if-n-eq0.true in
    (loop_next o.0 c.in-Some.ensures.steps same, search rules, ready_on o.2 v.value (visit_grown _ _) v.index)

pub enumerate_cmp_rec-requires : goal.enumerate_cmp_rec-requires
enumerate_cmp_rec-requires t c =
    let v = c.visit.ensures in
    (omega arith, (c.neighborhood-n.ensures, ready_on c.loop-t.invariant.2 v.value (visit_grown _ _) v.index))

pub loop-t-preserved : goal.loop-t-preserved
loop-t-preserved t c =
    let o = c.loop-t.invariant in
    let v = c.visit.ensures in
    let r = c.enumerate_cmp_rec.ensures in (
      loop_next o.0 c.in-Some.ensures.steps (r.value ∙ ap (enumerate_cmp_rec _ _ _ _ _ _) v.value),
      search rules,
      ready_on (ready_on o.2 v.value (visit_grown _ _) v.index) r.value (cmp_keeps _ _ (grown _) _ _ _ _ _) r.index,
    )

pub returns-then-is_some-clause-value : goal.returns-then-is_some-clause-value
returns-then-is_some-clause-value t c = loop_stopped c.loop-t.invariant.0 c.if-is_some.ensures
