-- Laws that stood before the structs, kept as they were; no proof needs them now. Assumes nothing.
use mathlib.Core.Path.{◌≡◌, refl, sym, ap, ◌∙◌}
use mathlib.Core.Bool.{true, false}
use mathlib.Core.Logic.{inl, inr}
use Prim.Native.Nat.{ℕ, ◌≤◌, ◌<◌}
use native.Mathlib.Nat.{eq-or-lt_of_le}
use lib.ListN.{get_or-eq_default}
use lib.Ieee.{Float, binary64, lt, of_bits}
use Rattle.definition.specs.Cost.{RowRule, inner_rows, row_rules, rows_by_kind, ceiling, capped}
use Rattle.cost.proofs.RowRules.{pair}
use Rattle.cost.proofs.Floats.{ceiling_bits}

pub single : (k : ℕ) (e l r : Float) → 6 ≤ k → k < 8 → l ≡ rows_by_kind k e l r
single k e l r h g = ap (λ (f : RowRule). f e l r) (pair (λ e l r. l) 6 k refl refl h g)

-- a cross product, and what is no join
pub past : (k : ℕ) (e l r : Float) → 8 ≤ k → e ≡ rows_by_kind k e l r
past k e l r h =
    elim (eq-or-lt_of_le h) [
      | inl q ↦ rw (sym q) refl
      | inr g ↦ sym (ap (λ (f : RowRule). f e l r) (get_or-eq_default row_rules inner_rows g))
    ]

-- ---- the ceiling, by the test that the source had

module _ (x : Float) where
  pub over : lt (of_bits binary64 0x5F30_0000_0000_0000) x ≡ true → of_bits binary64 0x5F30_0000_0000_0000 ≡ capped x
  over h = let k : lt ceiling x ≡ true = ap (λ (f : Float). lt f x) (sym ceiling_bits) ∙ h in ceiling_bits ∙ rw (k, capped)

  pub not_over : lt (of_bits binary64 0x5F30_0000_0000_0000) x ≡ false → x ≡ capped x
  not_over h = let k : lt ceiling x ≡ false = ap (λ (f : Float). lt f x) (sym ceiling_bits) ∙ h in rw (k, capped)
