use mathlib.Core.Path.{◌≡◌}
use Prim.Native.Nat.{◌-◌, ◌≤◌}
use lib.Seq.{sets}
use Rattle.listing.specs.Text.{side_sets}
use Rattle.listing.proofs.side_sets.Given as goal

abbrev pub invariant-loop-k : goal.invariant-loop-k
invariant-loop-k l = (l.k - l.leaves ≤ l.plans - l.leaves) × (l.side ≡ sets l.initial.side 0 (side_sets l.pset l.pside l.leaves l.k))
