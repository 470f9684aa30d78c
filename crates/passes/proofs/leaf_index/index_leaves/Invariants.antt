use Rattle.std.specs.Prelude.{◌≡◌, length}
use Rattle.memo_index.specs.Index.{Kept}
use Rattle.passes.specs.LeafSets.{leaf_sets}
use Rattle.passes.proofs.leaf_index.index_leaves.Given as goal

abbrev pub invariant-loop-k : goal.invariant-loop-k
invariant-loop-k l = Kept l.index (leaf_sets l.leaves) l.k × (length l.index ≡ 1024)
