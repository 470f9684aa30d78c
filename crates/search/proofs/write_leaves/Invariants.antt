use Rattle.std.specs.Prelude.{map}
use Rattle.cost.specs.View.{leaf_of}
use Rattle.candidate.specs.Lent.{lists_of, SameLists}
use Rattle.held.specs.LeavesHeld.{leaves_written}
use Rattle.search.specs.SearchLaws.{Remaining}
use Rattle.search.proofs.write_leaves.Given as goal

abbrev pub invariant-loop-k : goal.invariant-loop-k
invariant-loop-k l =
    let ls = map leaf_of l.leaves in
    Remaining ls (leaves_written 0 ls (lists_of l.initial.l)) l.k (lists_of l.l) × SameLists l.initial.l l.l
