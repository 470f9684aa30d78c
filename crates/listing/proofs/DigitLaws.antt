-- How many digits a number has, by the power of ten that it reaches. Assumes nothing.
use Rattle.std.specs.Prelude.{◌≡◌, ℕ, zero, suc, ◌+◌, ◌*◌, ◌/◌, ◌^◌, ◌≤◌, ◌<◌, Option, None, Some, IfNone, IfSome, unwrap_or, length}
use Rattle.std.proofs.Common.{ap, pow-suc, arith}
use Rattle.definition.specs.TriedList.{decimal}
use Rattle.listing.specs.Laws.{decimal_small, decimal_longer}

one_power : (k : ℕ) → 1 ≤ 10 ^ k
one_power zero = omega arith
one_power (suc k) = omega (arith, pow-suc 10 k, one_power k)

digits_at : (k n : ℕ) → 10 ^ k ≤ n → n < 10 * 10 ^ k → length (decimal n) ≡ k + 1
digits_at zero n h l = omega (arith, ap length (decimal_small n (omega arith)))
digits_at (suc k) n h l =
    let p : 10 ^ suc k ≡ 10 * 10 ^ k = omega (arith, pow-suc 10 k) in
    let g : 1 ≤ 10 ^ k = one_power k in
    omega (arith, decimal_longer n (omega (arith, p, g, h)), digits_at k (n / 10) (omega (arith, p, h)) (omega (arith, p, l)))

pub digits_counted : (n m : ℕ) (r : Option ℕ) → IfNone r (n ≡ 0) → IfSome r (λ k. 10 ^ k ≤ n) → IfSome r (λ k. n < 10 * 10 ^ k) → m ≡ unwrap_or r 0
    → m + 1 ≡ length (decimal n)
digits_counted n m None z h l e = omega (arith, e, z, ap length (decimal_small n (omega (arith, z))))
digits_counted n m (Some k) z h l e = omega (arith, e, digits_at k n h l)
