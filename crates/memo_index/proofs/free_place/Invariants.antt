use Rattle.std.proofs.Common.{◌≡◌, ◌<◌}
use Rattle.memo_index.specs.Index.{home, free}
use Rattle.memo_index.proofs.WalkLaws.{run}
use Rattle.memo_index.proofs.free_place.Given as goal

abbrev pub invariant-loop-q : goal.invariant-loop-q
invariant-loop-q l = record {
  inside : l.q < 1024;
  ends : run 1024 l.index l.q < 1024;
  value : free 1024 l.index l.q ≡ free 1024 l.index (home l.s);
}

abbrev pub decreases-loop-q : goal.decreases-loop-q
decreases-loop-q l = run 1024 l.index l.q
