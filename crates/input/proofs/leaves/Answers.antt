use mathlib.Core.Path.{ap, ◌∙◌}
use mathlib.Core.List.{List, ◌++◌}
use native.Mathlib.Omega.{arith}
use Rattle.definition.specs.Search.{Leaf}
use Rattle.input.specs.View.{leaves_in}
use Rattle.input.specs.Laws.{leaf_more, leaf_taken, join_passed, leaf_counted, join_uncounted, no_leaves}
use Rattle.input.proofs.leaves.Goals as goal

pub push-requires : goal.push-requires
push-requires c = omega (arith, c.loop-item.invariant.1, leaf_counted c.in-Some.ensures.steps c.if-item-eq-LEAF.true)

pub loop-item-preserved-then-item-eq-LEAF : goal.loop-item-preserved-then-item-eq-LEAF
loop-item-preserved-then-item-eq-LEAF c =
    let o = c.loop-item in
    let e = c.in-Some.ensures.steps in
    let p = c.push.ensures in (
      leaf_taken e (leaves_in o.leaves.items) c.if-item-eq-LEAF.true (ap leaves_in p.items ∙ leaf_more o.leaves.items _) ∙ o.invariant.0,
      omega (arith, o.invariant.1, leaf_counted e c.if-item-eq-LEAF.true, p.len),
    )

pub loop-item-preserved : goal.loop-item-preserved
loop-item-preserved c =
    let o = c.loop-item in
    let e = c.in-Some.ensures.steps in (
      ap (λ (ls : List Leaf). leaves_in o.leaves.items ++ ls) (join_passed e c.if-item-eq-LEAF.false) ∙ o.invariant.0,
      omega (arith, o.invariant.1, join_uncounted e c.if-item-eq-LEAF.false),
    )

pub returns : goal.returns
returns c = no_leaves (leaves_in c.loop-item.leaves.items) c.in-None.ensures.steps.0 ∙ c.loop-item.invariant.0
