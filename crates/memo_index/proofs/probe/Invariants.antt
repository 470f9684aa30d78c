use Rattle.std.proofs.Common.{◌≡◌, ◌<◌}
use Rattle.memo_index.specs.Index.{probe, lookup}
use Rattle.memo_index.proofs.WalkLaws.{run}
use Rattle.memo_index.proofs.probe.Given as goal

abbrev pub invariant-loop-p : goal.invariant-loop-p
invariant-loop-p l = record {
  inside : l.p < 1024;
  ends : run 1024 l.index l.p < 1024;
  value : probe 1024 l.index l.mset l.s l.p ≡ lookup l.index l.mset l.s;
}

abbrev pub decreases-loop-p : goal.decreases-loop-p
decreases-loop-p l = run 1024 l.index l.p
