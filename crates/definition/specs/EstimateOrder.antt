-- What it is for one cost to be at least another, and for a plan to be "the earliest of the least costly". Definitions only.
use Rattle.std.specs.Prelude.{◌≡◌, Bool, true, false, ℕ, ◌*◌, ◌≤◌, ◌<◌, Float}
use Rattle.std.specs.Float.{nan, inf, fin}
use Rattle.std.specs.Float.Ieee.Positive.{num, den}
use Rattle.definition.specs.Cost.{Estimate}

-- "All costs are finite and not negative."
abbrev pub NonNegative : Float → Type 0
NonNegative nan = ⊥
NonNegative (inf s) = ⊥
NonNegative (fin s m e) = s ≡ false

-- as numbers: a finite x that is not negative is the fraction num x / den x. Both are used of such numbers only, which `PlanRule`'s field
-- `finite` says of every plan's cost
abbrev pub AtLeast : Float → Float → Type 0
AtLeast x y = num y * den x ≤ num x * den y

abbrev pub MoreThan : Float → Float → Type 0
MoreThan x y = num y * den x < num x * den y

-- two are incomparable where neither is less
pub record StrictWeakOrder {A : Type 0} (In : A → Type 0) (less : A → A → Bool) : Type 0 where
  pub irreflexive : (x : A) → In x → less x x ≡ false
  pub transitive : (x y z : A) → In x → In y → In z → less x y ≡ true → less y z ≡ true → less x z ≡ true
  pub incomparable : (x y z : A) → In x → In y → In z → less x y ≡ false → less y x ≡ false → less y z ≡ false → less z y ≡ false
      → (less x z ≡ false) × (less z x ≡ false)

-- "the earliest of the least costly", among those of the first n candidates that `selected` selects: every other costs at least as much,
-- every earlier one more
pub record Earliest (candidate : ℕ → Estimate) (selected : ℕ → Bool) (n at : ℕ) : Type 0 where
  pub within : at < n
  pub chosen : selected at ≡ true
  pub least : (i : ℕ) → i < n → selected i ≡ true → AtLeast (candidate i).cost (candidate at).cost
  pub earliest : (i : ℕ) → i < at → selected i ≡ true → MoreThan (candidate i).cost (candidate at).cost
