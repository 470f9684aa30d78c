use Rattle.std.specs.Prelude.{ℕ}
use Rattle.std.proofs.lemmas.List.{length-replicate}
use Rattle.memo_index.proofs.IndexLaws.{length_noted}
use Rattle.memo_index.proofs.KeptLaws.{kept_room, kept_zeros}
use Rattle.passes.proofs.LeafIndexLaws.{leaves_next}
use Rattle.passes.specs.LeafSets.{leaf_sets}
use Rattle.passes.proofs.leaf_index.index_leaves.Goals as goal

pub loop-k-init : goal.loop-k-init
loop-k-init c = rw c.requires.vacant (kept_zeros (leaf_sets c.args.leaves), length-replicate {A = ℕ} 1024 0)

pub enter-requires : goal.enter-requires
enter-requires c = kept_room c.loop-k.invariant.0

pub loop-k-preserved : goal.loop-k-preserved
loop-k-preserved c =
    let l = c.loop-k in
    let next = leaves_next l.invariant.0 c.requires.few c.loop-k-test.true c.nodeset_singleton.result c.nodeset_singleton.ensures in
    rw c.enter.ensures (next, rw length_noted l.invariant.1)
