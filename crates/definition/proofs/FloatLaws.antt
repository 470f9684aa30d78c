-- The operations on f64 that are finite and not negative, over their fractions num / den. Assumes nothing.
use Rattle.std.specs.Prelude.{◌≡◌, refl, true, false, ℕ, ◌+◌, ◌*◌, ltb, ℤ, Float}
use Rattle.std.proofs.Common.{sym, ◌∙◌, true≢false, mul-one}
use Rattle.std.specs.Float.{nan, inf, fin, binary64}
use Rattle.std.specs.Float.Ieee.{round, mul, add, lt}
use Rattle.std.specs.Float.Ieee.Exact.{HasValue}
use Rattle.std.specs.Float.Ieee.Positive.{num, den, value→cross}
use Rattle.definition.specs.EstimateOrder.{NonNegative}

-- such a float is written `fin false m e`
pub by_form : (P : Float → Type 0) → ((m : ℕ) (e : ℤ) → P (fin false m e)) → (x : Float) → NonNegative x → P x
by_form P f nan p = absurd p
by_form P f (inf s) p = absurd p
by_form P f (fin true m e) p = absurd (true≢false p)
by_form P f (fin false m e) p = f m e

by_forms : (P : Float → Float → Type 0) → ((m n : ℕ) (e d : ℤ) → P (fin false m e) (fin false n d)) → (x y : Float) → NonNegative x → NonNegative y → P x y
by_forms P f x y p q = by_form (λ x. P x y) (λ m e. by_form (P (fin false m e)) (λ n d. f m n e d) y q) x p

pub lt_is : (x y : Float) → NonNegative x → NonNegative y → lt x y ≡ ltb (num x * den y) (num y * den x)
unfolding lt
lt_is = by_forms (λ x y. lt x y ≡ ltb (num x * den y) (num y * den x)) (λ m n e d. refl)

pub mul_is : (x y : Float) → NonNegative x → NonNegative y → mul binary64 x y ≡ round binary64 false (num x * num y) (den x * den y)
unfolding mul
mul_is = by_forms (λ x y. mul binary64 x y ≡ round binary64 false (num x * num y) (den x * den y)) (λ m n e d. refl)

pub add_is : (x y : Float) → NonNegative x → NonNegative y → add binary64 x y ≡ round binary64 false (num x * den y + num y * den x) (den x * den y)
unfolding add
add_is = by_forms (λ x y. add binary64 x y ≡ round binary64 false (num x * den y + num y * den x) (den x * den y)) (λ m n e d. refl)

-- ---- a float that has the value n

pub value_sign : (x : Float) (n : ℕ) → HasValue x false n 1 → NonNegative x
value_sign nan n v = v
value_sign (inf s) n v = v
value_sign (fin s m e) n v = v.0

pub value_num : (x : Float) (n : ℕ) → HasValue x false n 1 → num x ≡ n * den x
value_num x n v = sym (mul-one (num x)) ∙ value→cross x n 1 v
