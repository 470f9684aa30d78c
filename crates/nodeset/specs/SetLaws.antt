-- Laws of sets, by their digits. Assumes nothing.
use Rattle.std.specs.Prelude.{◌≡◌, ℕ, zero, suc, ◌+◌, ◌-◌, ◌*◌, ◌/◌, ◌%◌, ◌^◌, ◌<◌, ◌≤◌, min, max, Bool, true, false, ◌⊎◌, ◌==◌, ◌≢◌, refl}
use Rattle.std.proofs.Common.{sym, ap, ◌∙◌, subst, inl, inr, zero-le, suc-le-suc, mod-lt, zero-lt-suc}
use Rattle.std.proofs.Common.{lt_of_le_of_lt, lt_of_lt_of_le, le-div_iff_mul-le, div-lt_iff_lt-mul, mul_comm, pow-suc, le_refl, one-mul}
use Rattle.std.proofs.Common.{div-one, le_of_suc-le-suc, not-suc-le-zero, lt_irrefl, one-add, arith, pow_pos, pow_mono, shr-shr, lt-ltb}
use Rattle.std.proofs.Common.{le-ltb, eq-eqb, ne_eqb, eqb-true}
use Rattle.std.proofs.Math.Nat.{min-le_left, min-le_right, min-eq_left, min-eq_right, min-zero, max-le, div-eq_of_lt}
use Rattle.std.proofs.Math.Arith.{digits_mod, lt-one, bin_ind}
use Rattle.std.proofs.Math.Pow.{pow-lt, ones_lt}
use Rattle.std.specs.Int.Bits.{bit_and, bit_or, and_step, or_step}
use Rattle.std.proofs.lemmas.Nat.{and_shr, or_shr, and_le_l, and_le_r, leading_top}
use Rattle.std.specs.Int.Count.{count_trailing_zeros, count_leading_zeros, under}
use Rattle.std.proofs.lemmas.Bool.{eqb-false}
use Rattle.nodeset.specs.Sets.{bit, singleton, lowest, highest, all_below}
pub use Rattle.nodeset.specs.Sets.{Apart, In}

two_pos : 0 < 2
two_pos = zero-lt-suc 1

pub bit-lt : (s i : ℕ) → bit s i < 2
unfolding bit
bit-lt s i = mod-lt (s / 2 ^ i) two_pos

pub bit-zero : (s : ℕ) → bit s 0 ≡ s % 2
unfolding bit
bit-zero s = ap (λ (x : ℕ). x % 2) (div-one s)

pub bit-suc : (s i : ℕ) → bit s (suc i) ≡ bit (s / 2) i
unfolding bit
bit-suc s i = ap (λ (x : ℕ). x % 2) (sym (shr-shr s 1 i ∙ ap (λ (x : ℕ). s / 2 ^ x) (one-add i)))

-- the empty set, and what lies past a number's digits
pub bit_high : (k s i : ℕ) → s < 2 ^ k → k ≤ i → bit s i ≡ 0
unfolding bit
bit_high k s i h l = ap (λ (x : ℕ). x % 2) (div-eq_of_lt (lt_of_lt_of_le h (pow_mono l)))

and_odd : (a b : ℕ) → bit_and a b % 2 ≡ min (a % 2) (b % 2)
and_odd a b =
    ap (λ (x : ℕ). x % 2) (and_step a b) ∙ digits_mod (bit_and (a / 2) (b / 2)) (lt_of_le_of_lt (min-le_left (a % 2) (b % 2)) (mod-lt a two_pos))

or_odd : (a b : ℕ) → bit_or a b % 2 ≡ max (a % 2) (b % 2)
or_odd a b =
    ap (λ (x : ℕ). x % 2) (or_step a b)
    ∙ digits_mod (bit_or (a / 2) (b / 2)) (suc-le-suc (max-le (le_of_suc-le-suc (mod-lt a two_pos)) (le_of_suc-le-suc (mod-lt b two_pos))))

pub bit-and : (a b i : ℕ) → bit (bit_and a b) i ≡ min (bit a i) (bit b i)
unfolding bit
bit-and a b i = ap (λ (x : ℕ). x % 2) (and_shr a b i) ∙ and_odd (a / 2 ^ i) (b / 2 ^ i)

pub bit-or : (a b i : ℕ) → bit (bit_or a b) i ≡ max (bit a i) (bit b i)
unfolding bit
bit-or a b i = ap (λ (x : ℕ). x % 2) (or_shr a b i) ∙ or_odd (a / 2 ^ i) (b / 2 ^ i)

-- `!s` at k digits
not_half : (p s : ℕ) → s < p * 2 → (p * 2 - 1 - s) / 2 ≡ p - 1 - s / 2
not_half p s h = omega arith

not_odd : (p s : ℕ) → s < p * 2 → (p * 2 - 1 - s) % 2 ≡ 1 - s % 2
not_odd p s h = omega arith

half_below : (p s : ℕ) → s < p * 2 → s / 2 < p
half_below p s h = omega arith

pub half_pow : (k s : ℕ) → s < 2 ^ suc k → s / 2 < 2 ^ k
half_pow k s h = half_below (2 ^ k) s (subst (λ (x : ℕ). s < x) (pow-suc 2 k) h)

pub bit_not : (k s i : ℕ) → s < 2 ^ k → i < k → bit (2 ^ k - 1 - s) i ≡ 1 - bit s i
bit_not zero s i h l = absurd (not-suc-le-zero l)
bit_not (suc k) s zero h l =
    let h2 : s < 2 ^ k * 2 = rw pow-suc at h in
    bit-zero (2 ^ suc k - 1 - s) ∙ ap (λ (x : ℕ). (x - 1 - s) % 2) (pow-suc 2 k) ∙ not_odd (2 ^ k) s h2 ∙ ap (λ (x : ℕ). 1 - x) (sym (bit-zero s))
bit_not (suc k) s (suc i) h l =
    let h2 : s < 2 ^ k * 2 = rw pow-suc at h in
    bit-suc (2 ^ suc k - 1 - s) i ∙ ap (λ (x : ℕ). bit ((x - 1 - s) / 2) i) (pow-suc 2 k) ∙ ap (λ (x : ℕ). bit x i) (not_half (2 ^ k) s h2)
    ∙ bit_not k (s / 2) i (half_pow k s h) (le_of_suc-le-suc l) ∙ ap (λ (x : ℕ). 1 - x) (sym (bit-suc s i))

-- two sets with the same leaves are the same number
digits_eq : (a b : ℕ) → a / 2 ≡ b / 2 → a % 2 ≡ b % 2 → a ≡ b
digits_eq a b p q = omega arith

pub ext : (k a b : ℕ) → a < 2 ^ k → b < 2 ^ k → ((i : ℕ) → i < k → bit a i ≡ bit b i) → a ≡ b
ext zero a b ha hb f = lt-one ha ∙ sym (lt-one hb)
ext (suc k) a b ha hb f =
    digits_eq a b
    (ext k (a / 2) (b / 2) (half_pow k a ha) (half_pow k b hb) (λ i l. sym (bit-suc a i) ∙ f (suc i) (suc-le-suc l) ∙ bit-suc b i))
    (sym (bit-zero a) ∙ f zero (zero-lt-suc k) ∙ bit-zero b)

-- a single leaf
pow_half : (p : ℕ) → p * 2 / 2 ≡ p
pow_half p = omega arith

pow_even : (p : ℕ) → p * 2 % 2 ≡ 0
pow_even p = omega arith

pub bit_one : (i : ℕ) → bit (2 ^ i) i ≡ 1
bit_one zero = bit-zero 1
bit_one (suc i) = bit-suc (2 ^ suc i) i ∙ ap (λ (x : ℕ). bit (x / 2) i) (pow-suc 2 i) ∙ ap (λ (x : ℕ). bit x i) (pow_half (2 ^ i)) ∙ bit_one i

pub bit_one_other : (i j : ℕ) → (i ≢ j) → bit (2 ^ i) j ≡ 0
bit_one_other zero zero f = absurd (f refl)
bit_one_other zero (suc j) f = bit_high 1 1 (suc j) (le_refl 2) (zero-lt-suc j)
bit_one_other (suc i) zero f = bit-zero (2 ^ suc i) ∙ ap (λ (x : ℕ). x % 2) (pow-suc 2 i) ∙ pow_even (2 ^ i)
bit_one_other (suc i) (suc j) f =
    bit-suc (2 ^ suc i) j ∙ ap (λ (x : ℕ). bit (x / 2) j) (pow-suc 2 i) ∙ ap (λ (x : ℕ). bit x j) (pow_half (2 ^ i)) ∙ bit_one_other i j (λ e. f (ap suc e))

-- the leaves below k
pub bit_ones : (k i : ℕ) → i < k → bit (2 ^ k - 1) i ≡ 1
bit_ones k i l =
    ap (λ (x : ℕ). bit x i) (sym (minus_zero (2 ^ k - 1))) ∙ bit_not k 0 i (pow_pos k) l ∙ ap (λ (x : ℕ). 1 - x) (bit_high 0 0 i (le_refl 1) zero-le)
  where
    minus_zero : (n : ℕ) → n - 0 ≡ n
    minus_zero n = omega arith

pub bit_ones_past : (k i : ℕ) → k ≤ i → bit (2 ^ k - 1) i ≡ 0
bit_ones_past k i l = bit_high k (2 ^ k - 1) i (ones_lt k) l

-- the lowest leaf
tz_even : (n k : ℕ) → n % 2 ≡ 0 → count_trailing_zeros (suc k) n ≡ suc (count_trailing_zeros k (n / 2))
unfolding count_trailing_zeros
tz_even n k e = ap (λ (x : ℕ). under x (count_trailing_zeros k (n / 2))) e

tz_odd : (n k : ℕ) → n % 2 ≡ 1 → count_trailing_zeros (suc k) n ≡ 0
unfolding count_trailing_zeros
tz_odd n k e = ap (λ (x : ℕ). under x (count_trailing_zeros k (n / 2))) e

pub record Lowest (k s r : ℕ) : Type 0 where
  pub inside : r < k
  pub has : bit s r ≡ 1
  pub least : (j : ℕ) → j < r → bit s j ≡ 0

pub parity : (n : ℕ) → (n % 2 ≡ 0) ⊎ (n % 2 ≡ 1)
parity n = go (n % 2) (mod-lt n two_pos)
  where
    go : (d : ℕ) → d < 2 → (d ≡ 0) ⊎ (d ≡ 1)
    go zero h = inl refl
    go (suc zero) h = inr refl
    go (suc (suc d)) h = absurd (not-suc-le-zero (le_of_suc-le-suc (le_of_suc-le-suc h)))

half_pos : (n : ℕ) → 0 < n → n % 2 ≡ 0 → 0 < n / 2
half_pos n p e = omega arith

step_even : (k s : ℕ) → s % 2 ≡ 0 → Lowest k (s / 2) (count_trailing_zeros k (s / 2)) → Lowest (suc k) s (count_trailing_zeros (suc k) s)
step_even k s e ih =
    subst (λ (r : ℕ). Lowest (suc k) s r) (sym (tz_even s k e))
    (record { inside = suc-le-suc ih.inside; has = bit-suc s (count_trailing_zeros k (s / 2)) ∙ ih.has; least = low })
  where
    low : (j : ℕ) → j < suc (count_trailing_zeros k (s / 2)) → bit s j ≡ 0
    low zero l = bit-zero s ∙ e
    low (suc j) l = bit-suc s j ∙ ih.least j (le_of_suc-le-suc l)

step_odd : (k s : ℕ) → s % 2 ≡ 1 → Lowest (suc k) s (count_trailing_zeros (suc k) s)
step_odd k s e =
    subst (λ (r : ℕ). Lowest (suc k) s r) (sym (tz_odd s k e))
    (record { inside = zero-lt-suc k; has = bit-zero s ∙ e; least = λ j l. absurd (not-suc-le-zero l) })

-- `u64::trailing_zeros` of a set that is not empty is its lowest leaf
pub lowest_is : (k s : ℕ) → 0 < s → s < 2 ^ k → Lowest k s (count_trailing_zeros k s)
lowest_is zero s p h = absurd (lt_irrefl 0 (subst (λ (x : ℕ). 0 < x) (lt-one h) p))
lowest_is (suc k) s p h =
    elim (parity s) [ inl e ↦ step_even k s e (lowest_is k (s / 2) (half_pos s p e) (half_pow k s h)) | inr e ↦ step_odd k s e ]

pub record Highest (k s r : ℕ) : Type 0 where
  pub inside : r < k
  pub has : bit s r ≡ 1
  pub most : (j : ℕ) → r < j → bit s j ≡ 0

one_digit : (q : ℕ) → 1 ≤ q → q < 2 → q % 2 ≡ 1
one_digit q a b = omega arith

-- k - 1 - `leading_zeros` of a set that is not empty is its highest leaf
pub highest_is : (k s : ℕ) → 0 < s → s < 2 ^ k → Highest k s (k - 1 - count_leading_zeros k s)
unfolding bit
highest_is k s p h =
    let t = leading_top k s p h in
    let e : t.0 ≡ k - 1 - count_leading_zeros k s = back (count_leading_zeros k s) t.0 k t.1 in
    subst (λ (r : ℕ). Highest k s r) e
    (record {
      inside = in_range (count_leading_zeros k s) t.0 k t.1;
      has = one_digit (s / 2 ^ t.0) ((le-div_iff_mul-le (pow_pos t.0)).1 (subst (λ (x : ℕ). x ≤ s) (sym (one-mul (2 ^ t.0))) t.2))
          ((div-lt_iff_lt-mul (pow_pos t.0)).1 (subst (λ (x : ℕ). s < x) (pow-suc 2 t.0 ∙ mul_comm (2 ^ t.0) 2) t.3));
      most = λ j l. bit_high (suc t.0) s j t.3 l;
    })
  where
    back : (l j k : ℕ) → l + suc j ≡ k → j ≡ k - 1 - l
    back l j k e = omega arith

    in_range : (l j k : ℕ) → l + suc j ≡ k → j < k
    in_range l j k e = omega arith

-- ---- taking leaves away: `v & !x`
split_digit : (p v x : ℕ) → x < p * 2 → (n l : ℕ) → n ≡ (p * 2 - 1 - x) % 2 → l ≡ v % 2 → min l (x % 2) + min l n ≡ l
split_digit p v x h n l e f = omega arith

pub and_split : (k v x : ℕ) → v < 2 ^ k → x < 2 ^ k → bit_and v x + bit_and v (2 ^ k - 1 - x) ≡ v
and_split zero v x hv hx = let e = lt-one hv in ap (λ (z : ℕ). bit_and z x + bit_and z (2 ^ 0 - 1 - x)) e ∙ sym e
and_split (suc k) v x hv hx =
    let p = 2 ^ k in
    let hx2 : x < p * 2 = rw pow-suc at hx in
    let n = p * 2 - 1 - x in
    let ih = and_split k (v / 2) (x / 2) (half_pow k v hv) (half_pow k x hx) in
    let a = and_step v x in
    let b : bit_and v n ≡ bit_and (v / 2) (p - 1 - x / 2) * 2 + min (v % 2) (n % 2) =
    and_step v n ∙ ap (λ (z : ℕ). bit_and (v / 2) z * 2 + min (v % 2) (n % 2)) (not_half p x hx2) in
    let d = split_digit p v x hx2 (n % 2) (v % 2) refl refl in
    ap (λ (z : ℕ). bit_and v x + bit_and v (z - 1 - x)) (pow-suc 2 k) ∙ omega arith

-- a leaf that v has, taken away
pub and_one : (k v i : ℕ) → v < 2 ^ k → i < k → bit v i ≡ 1 → bit_and v (2 ^ i) ≡ 2 ^ i
and_one k v i hv l e =
    ext k (bit_and v (2 ^ i)) (2 ^ i) (lt_of_le_of_lt (and_le_r v (2 ^ i)) (pow-lt l)) (pow-lt l) (λ j m. bit-and v (2 ^ i) j ∙ go j (dec_eq i j))
  where
    go : (j : ℕ) → (i ≡ j) ⊎ (i ≢ j) → min (bit v j) (bit (2 ^ i) j) ≡ bit (2 ^ i) j
    go j (inl q) =
        subst (λ (x : ℕ). min (bit v x) (bit (2 ^ i) x) ≡ bit (2 ^ i) x) q
        (ap (λ (x : ℕ). min x (bit (2 ^ i) i)) e ∙ ap (λ (x : ℕ). min 1 x) (bit_one i) ∙ sym (bit_one i))
    go j (inr f) = let z = bit_one_other i j f in ap (λ (x : ℕ). min (bit v j) x) z ∙ min-zero (bit v j) ∙ sym z

    dec_eq : (a b : ℕ) → (a ≡ b) ⊎ (a ≢ b)
    dec_eq zero zero = inl refl
    dec_eq zero (suc b) = inr (λ e. let z : ◌≡◌ {A = ℕ} 0 (suc b) = e in omega arith)
    dec_eq (suc a) zero = inr (λ e. let z : ◌≡◌ {A = ℕ} (suc a) 0 = e in omega arith)
    dec_eq (suc a) (suc b) = elim (dec_eq a b) [ inl e ↦ inl (ap suc e) | inr f ↦ inr (λ e. f (let z : suc a ≡ suc b = e in omega arith)) ]

pub remove_is : (k v i : ℕ) → v < 2 ^ k → i < k → bit v i ≡ 1 → bit_and v (2 ^ k - 1 - 2 ^ i) + 2 ^ i ≡ v
remove_is k v i hv l e =
    let s = and_split k v (2 ^ i) hv (pow-lt l) in
    let o = and_one k v i hv l e in
    omega arith

-- ---- the definitions, by their cases

pub singleton_is : (i : ℕ) → i < 64 → singleton i ≡ 2 ^ i
unfolding singleton
singleton_is i h = rw (lt-ltb i 64 h, singleton)

pub singleton_none : (i : ℕ) → 64 ≤ i → singleton i ≡ 0
unfolding singleton
singleton_none i h = rw (le-ltb i 64 h, singleton)

pub all_below_is : (n : ℕ) → n ≤ 64 → all_below n ≡ 2 ^ n - 1
unfolding all_below
all_below_is n h = ap (λ (x : ℕ). 2 ^ x - 1) (min-eq_left h)

pub all_below_all : (n : ℕ) → 64 ≤ n → all_below n ≡ 2 ^ 64 - 1
unfolding all_below
all_below_all n h = ap (λ (x : ℕ). 2 ^ x - 1) (min-eq_right h)

pub highest-at : (s : ℕ) → (s ≢ 0) → highest s ≡ 63 - count_leading_zeros 64 s
unfolding highest
highest-at s h = rw (ne_eqb s 0 h, highest)

pub highest_empty : (s : ℕ) → s ≡ 0 → highest s ≡ 64
unfolding highest
highest_empty s h = rw (eq-eqb s 0 h, highest)

-- the lowest and the highest leaf of a set that is not empty, in 64 digits
pub lowest_of : (s : ℕ) → 0 < s → s < 2 ^ 64 → Lowest 64 s (lowest s)
unfolding lowest
lowest_of s p h = lowest_is 64 s p h

pub highest_of : (s : ℕ) → 0 < s → s < 2 ^ 64 → Highest 64 s (highest s)
highest_of s p h = rw (highest-at s (λ e. omega arith)) (highest_is 64 s p h)

-- ---- Apart and In, by the tests

pub bit_empty : (i : ℕ) → bit 0 i ≡ 0
bit_empty i = bit_high 0 0 i (le_refl 1) zero-le

pub disjoint_apart : (a b : ℕ) → bit_and a b ≡ 0 → Apart a b
disjoint_apart a b e i = sym (bit-and a b i) ∙ ap (λ (x : ℕ). bit x i) e ∙ bit_empty i

pub within_in : (a s : ℕ) → bit_and a s ≡ a → In a s
within_in a s e i = subst (λ (x : ℕ). x ≤ bit s i) (sym (bit-and a s i) ∙ ap (λ (x : ℕ). bit x i) e) (min-le_right (bit a i) (bit s i))

pub in_within : (a s : ℕ) → a < 2 ^ 64 → In a s → bit_and a s ≡ a
in_within a s h w = ext 64 (bit_and a s) a (lt_of_le_of_lt (and_le_l a s) h) h (λ i l. bit-and a s i ∙ min-eq_left (w i))

pub apart_disjoint : (a b : ℕ) → a < 2 ^ 64 → Apart a b → bit_and a b ≡ 0
apart_disjoint a b h w = ext 64 (bit_and a b) 0 (lt_of_le_of_lt (and_le_l a b) h) (pow_pos 64) (λ i l. bit-and a b i ∙ w i ∙ sym (bit_empty i))

pub bit_one_cases : (i j : ℕ) → (bit (2 ^ i) j ≡ 0) ⊎ (i ≡ j)
bit_one_cases i j = go (i == j) refl
  where
    go : (b : Bool) → (i == j) ≡ b → (bit (2 ^ i) j ≡ 0) ⊎ (i ≡ j)
    go true e = inr (eqb-true i j e)
    go false e = inl (bit_one_other i j (eqb-false i j e))

-- ---- union
pub or_assoc : (a b c : ℕ) → bit_or (bit_or a b) c ≡ bit_or a (bit_or b c)
or_assoc =
    bin_ind (λ (a : ℕ). (b c : ℕ) → bit_or (bit_or a b) c ≡ bit_or a (bit_or b c)) (λ b c. refl) (λ a ih b c. step a b c (ih (b / 2) (c / 2)))
  where
    half : (x y : ℕ) → bit_or x y / 2 ≡ bit_or (x / 2) (y / 2)
    half x y = omega (arith, or_step x y)

    step : (a b c : ℕ) → bit_or (bit_or (a / 2) (b / 2)) (c / 2) ≡ bit_or (a / 2) (bit_or (b / 2) (c / 2)) → bit_or (bit_or a b) c ≡ bit_or a (bit_or b c)
    step a b c e =
        let l = or_step (bit_or a b) c in
        let r = or_step a (bit_or b c) in
        let p = ap (λ (z : ℕ). bit_or z (c / 2)) (half a b) in
        let q = ap (λ (z : ℕ). bit_or (a / 2) z) (half b c) in
        omega (arith, or_odd a b, or_odd b c)
