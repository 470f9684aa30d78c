-- Laws that stood before the structs, kept as they were; no proof needs them now. Assumes nothing.
use Rattle.std.proofs.Common.{◌≡◌, ℕ, ◌*◌, ◌%◌, ◌^◌, ◌<◌, ap, ◌∙◌, mod-eq_of_lt, one-mul}
use lib.Pow.{pow-lt}

-- `1 << i` at w bits, for an i below w
pub one_shl : (i w : ℕ) → i < w → 1 * 2 ^ i % 2 ^ w ≡ 2 ^ i
one_shl i w h = ap (λ (x : ℕ). x % 2 ^ w) (one-mul (2 ^ i)) ∙ mod-eq_of_lt (pow-lt h)
