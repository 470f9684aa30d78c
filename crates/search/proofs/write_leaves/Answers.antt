use Rattle.std.specs.Prelude.{◌≤◌, length, map}
use Rattle.std.proofs.Common.{rules, arith}
use Rattle.std.proofs.lemmas.List.{length-map}
use Rattle.cost.specs.View.{leaf_of}
use Rattle.search.specs.SearchLaws.{remaining_next, remaining_end, lent_leaf}
use Rattle.search.proofs.write_leaves.Goals as goal

pub loop-k-preserved : goal.loop-k-preserved
loop-k-preserved c =
    let ls = c.args.leaves.now in
    let k = c.loop-k in (
      remaining_next (map leaf_of ls) _ _ k.k _ _ k.invariant.0 (lent_leaf ls k.k _ c.loop-k-test.true) c.leaf_estimate-e.ensures c.write_leaf.ensures.value,
      search rules,
    )

pub returns-clause-value : goal.returns-clause-value
returns-clause-value c =
    let ls = map leaf_of c.args.leaves.now in
    let past : length ls ≤ c.loop-k.k = omega (arith, length-map c.args.leaves.now leaf_of) in
    remaining_end ls _ c.loop-k.k c.loop-k.invariant.0 past
