use Rattle.std.specs.Prelude.{◌≡◌}
use Rattle.std.proofs.Common.{arith, sym, ap, ◌∙◌, rules}
use Rattle.enumeration.specs.Store.{kept}
use Rattle.enumeration.specs.Lent.{store_of}
use Rattle.enumeration.proofs.Laws.{solve_step, solve_stopped, solve_end, leaf_keeps, grown, leaves_on}
use Rattle.enumeration.proofs.solve.Goals as goal

pub solve_leaf-requires-clause-leaf : goal.solve_leaf-requires-clause-leaf
solve_leaf-requires-clause-leaf c =
    let o = c.loop-j in
    ap (kept (store_of o.l)) c.nodeset_singleton-s1.ensures ∙ o.invariant.3.leaf _ (omega arith)

pub loop-j-preserved : goal.loop-j-preserved
loop-j-preserved c =
    let o = c.loop-j.invariant in
    let r = c.solve_leaf.ensures in (
      solve_step _ _ _ _ _ _ _ o.0 c.loop-j-test.true c.nodeset_singleton-s1.ensures c.all_nodes_mask-x.ensures r.value,
      search rules,
      r.index,
      leaves_on r.value (leaf_keeps _ _ (grown _) _ _ _) o.3,
    )

pub returns-after-loop-j-clause-value : goal.returns-after-loop-j-clause-value
returns-after-loop-j-clause-value c =
    let done : c.loop-j.j ≡ 0 = omega (arith, c.loop-j-test.false) in
    solve_end _ _ _ _ c.loop-j.invariant.0 done

pub returns-then-is_some-clause-value : goal.returns-then-is_some-clause-value
returns-then-is_some-clause-value c = solve_stopped _ _ _ _ c.loop-j.invariant.0 (sym c.is_some.ensures ∙ c.if-is_some.true)
