use Rattle.std.proofs.Common.{◌≤◌, length, arith}
use Rattle.enumeration.proofs.Laws.{leaves_first}
use Rattle.passes.proofs.LeafIndexLaws.{leaves_kept}
use Rattle.passes.proofs.enumerate.Goals as goal

pub solve-requires : goal.solve-requires
solve-requires c =
    let r = c.requires in
    let few : c.args.leaves ≤ length c.args.l.now.mset.now = omega (arith, r.memo, r.room) in
    record {
      index = record { kept = rw c.new.ensures (leaves_kept c.index_leaves.ensures.kept _ few r.sets); sized = c.index_leaves.ensures.sized; room = r.room };
      leaves = rw c.new.ensures (leaves_first _ _ (omega arith) few r.sets);
    }
