use mathlib.Core.Path.{◌≡◌}
use mathlib.Core.Bool.{false}
use lib.ListN.{length, drop}
use Rattle.definition.specs.Connected.{round}
use Rattle.connectivity.specs.Parted.{Parted}
use Rattle.connectivity.proofs.Classes.pass.Given as goal

abbrev pub invariant-loop-l : goal.invariant-loop-l
invariant-loop-l l = (round l.skip (drop (length l.yielded) l.edges.left.now) (drop (length l.yielded) l.edges.right.now) l.self.0
    ≡ round l.skip l.edges.left.now l.edges.right.now l.initial.self.0)
    × (l.changed ≡ false → l.self.0 ≡ l.initial.self.0)
    × Parted l.self.0
