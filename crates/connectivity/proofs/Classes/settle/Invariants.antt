use mathlib.Core.Path.{◌≡◌}
use mathlib.Core.List.{List}
use Prim.Native.Nat.{ℕ, ◌-◌}
use Rattle.definition.specs.Connected.{rounds}
use Rattle.connectivity.specs.Parted.{Parted}
use Rattle.connectivity.proofs.Classes.settle.Given as goal

abbrev pub invariant-loop-round : goal.invariant-loop-round
invariant-loop-round l =
    let after = λ (k : ℕ) (classes : List ℕ). rounds k l.skip l.edges.left.now l.edges.right.now classes in
    (after (l.n - l._round) l.self.0 ≡ after l.n l.initial.self.0) × Parted l.self.0
