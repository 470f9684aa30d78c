-- The step from a subset to the next goes through the list of the non-empty subsets, which holds each of them once, in rising order.
-- Assumes nothing.
use Rattle.std.specs.Prelude.{◌≡◌, ℕ, zero, suc, ◌+◌, ◌-◌, ◌*◌, ◌/◌, ◌%◌, ◌^◌, ◌<◌, ◌≤◌, min, List, [], ◌∷◌, bit_and, refl}
use Rattle.std.proofs.Common.{sym, ap, ap₂, ◌∙◌, subst, inl, inr, pow-suc, mod-lt, zero-lt-suc}
use mathlib.Core.List.Memᴰ
use mathlib.Core.List.{Memᴰ}
use native.Mathlib.Omega.{arith}
use Rattle.std.proofs.Math.Arith.{lt-one, bin_ind}
use Rattle.std.specs.Int.Bits.{and_step, and_zero_r}
use Rattle.std.proofs.lemmas.Nat.{and_le_r}
use Rattle.nodeset.specs.SetLaws.{In, within_in}
use Rattle.nodeset.specs.Subsets.{doubled, subsets_of, rest, non_empty_subsets, next_subset}
use Rattle.nodeset.specs.SubsetLaws.{All, Steps, Rising}

-- the subset of s after t, below s, in words of w digits
abbrev next : ℕ → ℕ → ℕ → ℕ
next w s t = bit_and (t + (2 ^ w - s)) s

-- u is followed by the list, step by step, up to s
abbrev Rises : ℕ → ℕ → ℕ → List ℕ → Type 0
Rises w s u [] = u ≡ s
Rises w s u (v ∷ r) = (u < s) × (u < v) × (next w s u ≡ v) × Rises w s v r

-- u is a subset of q: with all else of the word added, q cuts u out again
abbrev Fix : ℕ → ℕ → ℕ → Type 0
Fix w q u = (u ≤ q) × (bit_and (u + (2 ^ w - 1 - q)) q ≡ u)

and_of : (x s y q c b : ℕ) → x ≡ y * 2 + c → s ≡ q * 2 + b → c < 2 → b < 2 → bit_and x s ≡ bit_and y q * 2 + min c b
and_of x s y q c b e f C B =
    let x2 : x / 2 ≡ y = omega arith in
    let s2 : s / 2 ≡ q = omega arith in
    let xm : x % 2 ≡ c = omega arith in
    let sm : s % 2 ≡ b = omega arith in
    and_step x s ∙ ap₂ (λ (m n : ℕ). m * 2 + n) (ap₂ bit_and x2 s2) (ap₂ min xm sm)

module _ (w q b s : ℕ) (e : s ≡ q * 2 + b) (B : b < 2) (h : q < 2 ^ w) where
  fix_even : (u : ℕ) → Fix w q u → Fix (suc w) s (u * 2)
  fix_even u f =
      let p : 2 ^ suc w ≡ 2 ^ w * 2 = pow-suc 2 w in
      let l : u ≤ q = f.0 in (
        omega arith,
        and_of (u * 2 + (2 ^ suc w - 1 - s)) s (u + (2 ^ w - 1 - q)) q (1 - b) b (omega arith) e (omega arith) B ∙ omega (arith, f.1),
      )

  fix_odd : b ≡ 1 → (u : ℕ) → Fix w q u → Fix (suc w) s (u * 2 + 1)
  fix_odd o u f =
      let p : 2 ^ suc w ≡ 2 ^ w * 2 = pow-suc 2 w in
      let l : u ≤ q = f.0 in (
        omega arith,
        and_of (u * 2 + 1 + (2 ^ suc w - 1 - s)) s (u + (2 ^ w - 1 - q)) q 1 b (omega arith) e (omega arith) B ∙ omega (arith, f.1),
      )

  -- from the largest with these upper digits to the next upper digits
  up : (u v c : ℕ) → c ≡ b → u < q → next w q u ≡ v → next (suc w) s (u * 2 + c) ≡ v * 2
  up u v c k l n =
      let p : 2 ^ suc w ≡ 2 ^ w * 2 = pow-suc 2 w in
      and_of (u * 2 + c + (2 ^ suc w - s)) s (u + (2 ^ w - q)) q 0 b (omega arith) e (omega arith) B ∙ omega (arith, n)

  -- from an even one to the odd one
  by_one : (u : ℕ) → b ≡ 1 → Fix w q u → next (suc w) s (u * 2) ≡ u * 2 + 1
  by_one u o f =
      let p : 2 ^ suc w ≡ 2 ^ w * 2 = pow-suc 2 w in
      let l : u ≤ q = f.0 in
      and_of (u * 2 + (2 ^ suc w - s)) s (u + (2 ^ w - 1 - q)) q 1 b (omega arith) e (omega arith) B ∙ omega (arith, f.1)

  steps-even : b ≡ 0 → (u : ℕ) (r : List ℕ) → Rises w q u r → Rises (suc w) s (u * 2) (doubled 0 r)
  unfolding doubled
  steps-even o u [] t = omega arith
  steps-even o u (v ∷ r) t =
      (omega (arith, t.0), omega (arith, t.1), (ap (λ (k : ℕ). next (suc w) s k) (omega arith) ∙ up u v 0 (sym o) t.0 t.2), steps-even o v r t.3)

  steps_odd : b ≡ 1 → (u : ℕ) (r : List ℕ) → Fix w q u → All (Fix w q) r → Rises w q u r → Rises (suc w) s (u * 2) ((u * 2 + 1) ∷ doubled 1 r)
  unfolding doubled
  steps_odd o u [] f a t = (omega (arith, f.0), omega arith, by_one u o f, omega arith)
  steps_odd o u (v ∷ r) f a t = (
    omega (arith, f.0),
    omega arith,
    by_one u o f,
    (omega (arith, t.0), omega (arith, t.1), up u v 1 (sym o) t.0 t.2, steps_odd o v r a.0 a.1 t.3),
  )

  fix_all_even : b ≡ 0 → (r : List ℕ) → All (Fix w q) r → All (Fix (suc w) s) (doubled 0 r)
  unfolding doubled
  fix_all_even o [] a = tt
  fix_all_even o (u ∷ r) a = (fix_even u a.0, fix_all_even o r a.1)

  fix_all_odd : b ≡ 1 → (r : List ℕ) → All (Fix w q) r → All (Fix (suc w) s) (doubled 1 r)
  unfolding doubled
  fix_all_odd o [] a = tt
  fix_all_odd o (u ∷ r) a = (fix_even u a.0, (fix_odd o u a.0, fix_all_odd o r a.1))

-- the subsets of s: 0 first, then step by step
record Listed (w s : ℕ) (l : List ℕ) : Type 0 where
  pub more : List ℕ
  pub whole : l ≡ 0 ∷ more
  pub steps : Rises w s 0 more
  pub fixed : All (Fix w s) l

fix_zero : (w : ℕ) → Fix w 0 0
fix_zero w = (omega arith, and_zero_r (0 + (2 ^ w - 1 - 0)))

subsets_listed : (d s : ℕ) → s < 2 ^ d → Listed d s (subsets_of d s)
unfolding subsets_of doubled
subsets_listed zero s h = record { more = []; whole = refl; steps = sym (lt-one h); fixed = (subst (λ (x : ℕ). Fix 0 x 0) (sym (lt-one h)) (fix_zero 0), tt) }
subsets_listed (suc d) zero h = record { more = []; whole = refl; steps = refl; fixed = (fix_zero (suc d), tt) }
subsets_listed (suc d) (suc s) h = go (suc s % 2) refl (subsets_listed d (suc s / 2) low)
  where
    low : suc s / 2 < 2 ^ d
    low = omega (arith, pow-suc 2 d)

    go : (b : ℕ) → suc s % 2 ≡ b → Listed d (suc s / 2) (subsets_of d (suc s / 2)) → Listed (suc d) (suc s) (doubled b (subsets_of d (suc s / 2)))
    go zero e l =
        let f = subst (λ (x : List ℕ). All (Fix d (suc s / 2)) x) l.whole l.fixed in
        subst (λ (x : List ℕ). Listed (suc d) (suc s) (doubled 0 x)) (sym l.whole)
        (record {
          more = doubled 0 l.more;
          whole = refl;
          steps = steps-even d (suc s / 2) 0 (suc s) (omega arith) (omega arith) low refl 0 l.more l.steps;
          fixed = fix_all_even d (suc s / 2) 0 (suc s) (omega arith) (omega arith) low refl (0 ∷ l.more) f;
        })
    go (suc zero) e l =
        let f = subst (λ (x : List ℕ). All (Fix d (suc s / 2)) x) l.whole l.fixed in
        subst (λ (x : List ℕ). Listed (suc d) (suc s) (doubled 1 x)) (sym l.whole)
        (record {
          more = 1 ∷ doubled 1 l.more;
          whole = refl;
          steps = steps_odd d (suc s / 2) 1 (suc s) (omega arith) (omega arith) low refl 0 l.more f.0 f.1 l.steps;
          fixed = fix_all_odd d (suc s / 2) 1 (suc s) (omega arith) (omega arith) low refl (0 ∷ l.more) f;
        })
    go (suc (suc b)) e l = absurd (omega (arith, mod-lt (suc s) (zero-lt-suc 1)))

-- ---- the laws

next_below : (s t : ℕ) → s < 2 ^ 64 → t < s → next_subset s t ≡ next 64 s t
next_below s t h l =
    let e : (t + (2 ^ 64 - s)) % 2 ^ 64 ≡ t + (2 ^ 64 - s) = omega arith in
    ap (λ (x : ℕ). bit_and x s) e

steps_of : (s : ℕ) → s < 2 ^ 64 → (u : ℕ) (l : List ℕ) → Rises 64 s u l → Steps s u l
steps_of s h u [] r = r
steps_of s h u (v ∷ l) r =
    (r.1, subst (λ (x : ℕ). x ≤ s) r.2 (and_le_r (u + (2 ^ 64 - s)) s), next_below s u h r.0 ∙ r.2, steps_of s h v l r.3)

-- the steps from the empty set visit the list of the non-empty subsets, and the last of them is s
pub subsets_steps : (s : ℕ) → s < 2 ^ 64 → Steps s 0 (non_empty_subsets s)
unfolding non_empty_subsets
subsets_steps s h =
    let l = subsets_listed 64 s h in
    steps_of s h 0 (rest (subsets_of 64 s)) (subst (λ (x : List ℕ). Rises 64 s 0 (rest x)) (sym l.whole) l.steps)

-- and after the last the step gives the empty set
pub next_last : (s : ℕ) → s < 2 ^ 64 → next_subset s s ≡ 0
next_last s h =
    let e : (s + (2 ^ 64 - s)) % 2 ^ 64 ≡ 0 = omega arith in
    ap (λ (x : ℕ). bit_and x s) e

steps_rising : (s u : ℕ) (l : List ℕ) → Steps s u l → Rising u l
steps_rising s u [] r = tt
steps_rising s u (v ∷ l) r = (r.0, steps_rising s v l r.3)

pub subsets_rising : (s : ℕ) → s < 2 ^ 64 → Rising 0 (non_empty_subsets s)
subsets_rising s h = steps_rising s 0 (non_empty_subsets s) (subsets_steps s h)

-- every member is a subset
and-and : (x s : ℕ) → bit_and (bit_and x s) s ≡ bit_and x s
and-and = bin_ind (λ (x : ℕ). (s : ℕ) → bit_and (bit_and x s) s ≡ bit_and x s) (λ s. refl) (λ x ih s. step x s (ih (s / 2)))
  where
    step : (x s : ℕ) → bit_and (bit_and (x / 2) (s / 2)) (s / 2) ≡ bit_and (x / 2) (s / 2) → bit_and (bit_and x s) s ≡ bit_and x s
    step x s e =
        let q = and_step x s in
        let h : bit_and x s / 2 ≡ bit_and (x / 2) (s / 2) = omega arith in
        let l : bit_and x s % 2 ≡ min (x % 2) (s % 2) = omega arith in
        let r = and_step (bit_and x s) s in
        let k = ap (λ (z : ℕ). bit_and z (s / 2)) h in
        omega arith

all_map : {P Q : ℕ → Type 0} → ((t : ℕ) → P t → Q t) → (l : List ℕ) → All P l → All Q l
all_map f [] a = tt
all_map f (x ∷ l) a = (f x a.0, all_map f l a.1)

and_fixed : (w s u x : ℕ) → bit_and x s ≡ u → bit_and u s ≡ u
and_fixed w s u x e = subst (λ (z : ℕ). bit_and z s ≡ z) e (and-and x s)

steps-within : (s u : ℕ) (l : List ℕ) → Steps s u l → All (λ (t : ℕ). bit_and t s ≡ t) l
steps-within s u [] r = tt
steps-within s u (v ∷ l) r = (and_fixed 64 s v ((u + (2 ^ 64 - s)) % 2 ^ 64) r.2, steps-within s v l r.3)

pub subsets_within : (s : ℕ) → s < 2 ^ 64 → All (λ (t : ℕ). bit_and t s ≡ t) (non_empty_subsets s)
subsets_within s h = steps-within s 0 (non_empty_subsets s) (subsets_steps s h)

pub subsets_in : (s : ℕ) → s < 2 ^ 64 → All (λ (t : ℕ). In t s) (non_empty_subsets s)
subsets_in s h = all_map (λ t e. within_in t s e) (non_empty_subsets s) (subsets_within s h)

-- every non-empty subset is a member
doubled_has_even : (b t : ℕ) (ts : List ℕ) → Memᴰ t ts → Memᴰ (t * 2) (doubled b ts)
unfolding doubled
doubled_has_even zero t [] m = absurd (Memᴰ.not-nil m)
doubled_has_even zero t (u ∷ ts) m =
    elim (Memᴰ.cases_cons m) [ inl e ↦ Memᴰ.head (ap (λ (x : ℕ). x * 2) e) | inr k ↦ Memᴰ.tail (doubled_has_even zero t ts k) ]
doubled_has_even (suc b) t [] m = absurd (Memᴰ.not-nil m)
doubled_has_even (suc b) t (u ∷ ts) m =
    elim (Memᴰ.cases_cons m) [
      | inl e ↦ Memᴰ.head (ap (λ (x : ℕ). x * 2) e)
      | inr k ↦ Memᴰ.tail (Memᴰ.tail (doubled_has_even (suc b) t ts k))
    ]

doubled_has_odd : (b t : ℕ) (ts : List ℕ) → Memᴰ t ts → Memᴰ (t * 2 + 1) (doubled (suc b) ts)
unfolding doubled
doubled_has_odd b t [] m = absurd (Memᴰ.not-nil m)
doubled_has_odd b t (u ∷ ts) m =
    elim (Memᴰ.cases_cons m) [
      | inl e ↦ Memᴰ.tail (Memᴰ.head (ap (λ (x : ℕ). x * 2 + 1) e))
      | inr k ↦ Memᴰ.tail (Memᴰ.tail (doubled_has_odd b t ts k))
    ]

subsets_of_has : (d s n : ℕ) → s < 2 ^ d → bit_and n s ≡ n → Memᴰ n (subsets_of d s)
unfolding subsets_of
subsets_of_has zero s n h e = Memᴰ.head (sym e ∙ ap (bit_and n) (lt-one h) ∙ and_zero_r n)
subsets_of_has (suc d) zero n h e = Memᴰ.head (sym e ∙ and_zero_r n)
subsets_of_has (suc d) (suc s) n h e = go (n % 2) refl (suc s % 2) refl (subsets_of_has d (suc s / 2) (n / 2) low (omega (arith, st)))
  where
    st : bit_and n (suc s) ≡ bit_and (n / 2) (suc s / 2) * 2 + min (n % 2) (suc s % 2)
    st = and_step n (suc s)

    low : suc s / 2 < 2 ^ d
    low = omega (arith, pow-suc 2 d)

    go : (b : ℕ) → n % 2 ≡ b → (c : ℕ) → suc s % 2 ≡ c → Memᴰ (n / 2) (subsets_of d (suc s / 2)) → Memᴰ n (doubled c (subsets_of d (suc s / 2)))
    go zero p c q m =
        subst (λ (x : ℕ). Memᴰ x (doubled c (subsets_of d (suc s / 2)))) (let z : n / 2 * 2 ≡ n = omega arith in z)
        (doubled_has_even c (n / 2) (subsets_of d (suc s / 2)) m)
    go (suc b) p zero q m = absurd (omega (arith, st))
    go (suc b) p (suc c) q m =
        subst (λ (x : ℕ). Memᴰ x (doubled (suc c) (subsets_of d (suc s / 2)))) (let z : n / 2 * 2 + 1 ≡ n = omega (arith, mod-lt n (zero-lt-suc 1)) in z)
        (doubled_has_odd c (n / 2) (subsets_of d (suc s / 2)) m)

pub subsets_all : (s n : ℕ) → s < 2 ^ 64 → 0 < n → bit_and n s ≡ n → Memᴰ n (non_empty_subsets s)
unfolding non_empty_subsets
subsets_all s n h p e =
    let l = subsets_listed 64 s h in
    go (subsets_of 64 s) l.more l.whole (subsets_of_has 64 s n h e)
  where
    go : (xs more : List ℕ) → xs ≡ 0 ∷ more → Memᴰ n xs → Memᴰ n (rest xs)
    go xs more q m =
        subst (λ (ys : List ℕ). Memᴰ n (rest ys)) (sym q)
        (elim (Memᴰ.cases_cons (subst (λ (ys : List ℕ). Memᴰ n ys) q m)) [ inl z ↦ absurd (omega arith) | inr k ↦ k ])
