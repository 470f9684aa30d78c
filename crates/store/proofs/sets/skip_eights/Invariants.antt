use Rattle.std.proofs.Common.{◌≡◌, ◌≤◌, length, drop}
use Rattle.std.specs.Slice.Iter.{chunks_exact_rest, chunks_exact_size}
use Rattle.store.specs.Memo.{spot}
use Rattle.store.proofs.sets.skip_eights.Given as goal

abbrev pub invariant-loop-eight : goal.invariant-loop-eight
invariant-loop-eight l = record {
  inside : l.i ≤ length l.mset;
  size : chunks_exact_size l.eight-iterator ≡ 8;
  rest : chunks_exact_rest l.eight-iterator ≡ drop l.i l.mset;
  value : spot l.i (drop l.i l.mset) l.s ≡ spot 0 l.mset l.s;
}
