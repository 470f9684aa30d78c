use Rattle.std.proofs.Common.{◌∙◌, ap, sym, length, arith}
use Rattle.sheet.proofs.ItemLaws.{leaf_first, join_first, few_first, none_left}
use Rattle.sheet.proofs.Sheet.ends_with_one.Goals as goal

pub overflow_add-height : goal.overflow_add-height
overflow_add-height c = omega (arith, c.loop-item.invariant.0)

pub loop-item-preserved-then-item-eq-LEAF : goal.loop-item-preserved-then-item-eq-LEAF
loop-item-preserved-then-item-eq-LEAF c =
    let e = c.in-Some.ensures.steps in
    (omega (arith, ap length e, c.loop-item.invariant.0), sym (leaf_first c.loop-item.height e c.if-item-eq-LEAF.true) ∙ c.loop-item.invariant.1)

pub returns-then-height-lt2 : goal.returns-then-height-lt2
returns-then-height-lt2 c =
    sym (few_first c.loop-item.height c.in-Some.ensures.steps c.if-item-eq-LEAF.false c.if-height-lt2.true) ∙ c.loop-item.invariant.1

pub loop-item-preserved : goal.loop-item-preserved
loop-item-preserved c =
    let e = c.in-Some.ensures.steps in (
      omega (arith, ap length e, c.loop-item.invariant.0),
      sym (join_first c.loop-item.height e c.if-item-eq-LEAF.false c.if-height-lt2.false) ∙ c.loop-item.invariant.1,
    )

pub returns : goal.returns
returns c = sym (none_left c.loop-item.height c.in-None.ensures.steps.0) ∙ c.loop-item.invariant.1
