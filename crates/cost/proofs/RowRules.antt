-- The table of row rules where the code asks in which range of numbers the kind lies. Assumes nothing.
use mathlib.Core.Path.{◌≡◌, refl, sym, ap}
use mathlib.Core.Logic.{inl, inr}
use Prim.Native.Nat.{ℕ, suc, ◌≤◌, ◌<◌}
use native.Mathlib.Nat.{eq-or-lt_of_le}
use native.Mathlib.Omega.{arith}
use lib.Ieee.{Float}
use Rattle.definition.specs.Cost.{RowRule, lesser, rows_by_kind}

-- two kinds that follow each other and have one rule
pub pair : (f : RowRule) (n k : ℕ) → f ≡ rows_by_kind n → f ≡ rows_by_kind (suc n) → n ≤ k → k < suc (suc n) → f ≡ rows_by_kind k
pair f n k p q h l =
    elim (eq-or-lt_of_le h) [
      | inl e ↦ rw (sym e) p
      | inr g ↦ let e : k ≡ suc n = omega arith in rw e q
    ]

pub semi : (k : ℕ) (e l r : Float) → 1 ≤ k → k < 3 → lesser e l ≡ rows_by_kind k e l r
semi k e l r h g = ap (λ (f : RowRule). f e l r) (pair (λ e l r. lesser e l) 1 k refl refl h g)
