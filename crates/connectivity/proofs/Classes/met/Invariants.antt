use Rattle.connectivity.proofs.LeafLoops.{Meeting}
use Rattle.connectivity.proofs.Classes.met.Given as goal

abbrev pub invariant-loop-left : goal.invariant-loop-left
invariant-loop-left l = Meeting l.s l.self.0 l.left l.all

abbrev pub decreases-loop-left : goal.decreases-loop-left
decreases-loop-left l = l.left
