use Rattle.connectivity.proofs.LeafLoops.{Merging}
use Rattle.connectivity.proofs.Classes.merge.Given as goal

abbrev pub invariant-loop-left : goal.invariant-loop-left
invariant-loop-left l = Merging l.s l.initial.self.0 l.left l.self.0

abbrev pub decreases-loop-left : goal.decreases-loop-left
decreases-loop-left l = l.left
