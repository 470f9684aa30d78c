use Rattle.std.specs.Prelude.{refl, ◌-◌}
use Rattle.std.proofs.Common.{ap, ◌∙◌, rules}
use Rattle.stepping.specs.Next.{subsets_left}
use Rattle.stepping.proofs.Stepping.{loop_start, loop_next, loop_stopped}
use Rattle.std.specs.Int.Bits.{bit_or}
use Rattle.enumeration.proofs.SubsetPasses.{two_none, two_both, again_empty}
use Rattle.enumeration.proofs.Laws.{csg_two, visit_csg_keeps, frozen}
use Rattle.enumeration.proofs.csg.+enumerate_csg_rec.Goals as goal

pub returns-then-d-eq0-clause-value : goal.returns-then-d-eq0-clause-value
returns-then-d-eq0-clause-value t c = two_none _ _ (csg_two _ _) _ _ _ _ c.if-d-eq0.true

pub loop-t-init : goal.loop-t-init
loop-t-init t c =
    let all = ap subsets_left c.into_iter-t-iterator.ensures.into_iter_gives ∙ c.of-t-items.ensures in
    let both = two_both _ _ (csg_two _ _) _ _ _ _ _ _ _ c.if-d-eq0.false c.requires.neighbors refl c.visit_emits.ensures.value in
    (loop_start (visit_csg_keeps _ _ (frozen _) _ _ _) all both, search rules, c.visit_emits.ensures.index)

pub loop-t-preserved-then-n-eq0 : goal.loop-t-preserved-then-n-eq0
loop-t-preserved-then-n-eq0 t c =
    let a = c.args in
    let v = c.visit.ensures in
    let same = again_empty _ _ (csg_two _ _) (a.d - 1) a.s1 (bit_or a.x a.m) c.in-Some.t _ v.value c.neighborhood-n.ensures c.if-n-eq0.true in
    (loop_next c.loop-t.invariant.0 c.in-Some.ensures.steps same, search rules, v.index)

pub returns-then-is_some-clause-value : goal.returns-then-is_some-clause-value
returns-then-is_some-clause-value t c = loop_stopped c.loop-t.invariant.0 c.if-is_some.ensures
