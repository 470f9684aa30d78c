-- Laws of unions, and of a set of one leaf: it lies in a set, or has no leaf of it. Assumes nothing.
use Rattle.std.specs.Prelude.{◌≡◌, ℕ, ◌+◌, ◌*◌, ◌/◌, ◌%◌, ◌^◌, ◌<◌, ◌≤◌, min, max, Bool, true, false, ◌&&◌, ◌==◌, not, ◌⊎◌, refl}
use Rattle.std.proofs.Common.{sym, ap, ap₂, ◌∙◌, inl, inr, ⊎_elim, arith, pow_pos, eq-eqb, ne_eqb, eqb-true}
use Rattle.std.proofs.Math.Arith.{bin_ind}
use Rattle.std.proofs.Math.Nat.{eq-zero-or-pos}
use Rattle.std.proofs.Math.Pow.{pow-lt}
use Rattle.std.proofs.lemmas.Bool.{cases_lt}
use Rattle.std.proofs.lemmas.Nat.{and_comm, or_comm, le_or_l}
use Rattle.std.specs.Int.Bits.{bit_and, bit_or, and_step, or_step}
use Rattle.nodeset.specs.Sets.{bit, within, disjoint, difference, singleton, lowest}
use Rattle.nodeset.specs.SetLaws.{or_assoc, and_split, bit_one_cases, bit-lt, singleton_is, singleton_none, in_within, apart_disjoint}
use Rattle.graph.specs.Neighbors.{one_leaf, one_leaf_each}

-- ---- unions

pub and_or : (a b m : ℕ) → bit_and (bit_or a b) m ≡ bit_or (bit_and a m) (bit_and b m)
and_or =
    bin_ind (λ (a : ℕ). (b m : ℕ) → bit_and (bit_or a b) m ≡ bit_or (bit_and a m) (bit_and b m)) (λ b m. refl)
    (λ a ih b m. step a b m (ih (b / 2) (m / 2)))
  where
    or_half : (x y : ℕ) → bit_or x y / 2 ≡ bit_or (x / 2) (y / 2)
    or_half x y = omega (arith, or_step x y)

    or_odd : (x y : ℕ) → bit_or x y % 2 ≡ max (x % 2) (y % 2)
    or_odd x y = omega (arith, or_step x y)

    and_half : (x y : ℕ) → bit_and x y / 2 ≡ bit_and (x / 2) (y / 2)
    and_half x y = omega (arith, and_step x y)

    and_odd : (x y : ℕ) → bit_and x y % 2 ≡ min (x % 2) (y % 2)
    and_odd x y = omega (arith, and_step x y)

    spread : (x y z : ℕ) → min (max x y) z ≡ max (min x z) (min y z)
    spread x y z = omega arith

    join : {p q u v : ℕ} → p ≡ q → u ≡ v → p * 2 + u ≡ q * 2 + v
    join e f = omega arith

    step : (a b m : ℕ) → bit_and (bit_or (a / 2) (b / 2)) (m / 2) ≡ bit_or (bit_and (a / 2) (m / 2)) (bit_and (b / 2) (m / 2))
        → bit_and (bit_or a b) m ≡ bit_or (bit_and a m) (bit_and b m)
    step a b m e =
        and_step (bit_or a b) m
        ∙ join
        (ap (λ (z : ℕ). bit_and z (m / 2)) (or_half a b) ∙ e ∙ sym (ap₂ bit_or (and_half a m) (and_half b m)))
        (ap (λ (z : ℕ). min z (m % 2)) (or_odd a b) ∙ spread (a % 2) (b % 2) (m % 2) ∙ sym (ap₂ max (and_odd a m) (and_odd b m)))
        ∙ sym (or_step (bit_and a m) (bit_and b m))

pub or_swap : (a b c d : ℕ) → bit_or (bit_or a b) (bit_or c d) ≡ bit_or (bit_or a c) (bit_or b d)
or_swap a b c d =
    or_assoc a b (bit_or c d) ∙ ap (bit_or a) (sym (or_assoc b c d) ∙ ap (λ (z : ℕ). bit_or z d) (or_comm b c) ∙ or_assoc c b d)
    ∙ sym (or_assoc a c (bit_or b d))

or_none : (u v : ℕ) → (bit_or u v == 0) ≡ (u == 0 && v == 0)
or_none u v =
    ⊎_elim (λ (e : u ≡ 0). rw e)
    (λ (h : 0 < u). rw (ne_eqb (bit_or u v) 0 (λ e. omega (arith, le_or_l u v)), ne_eqb u 0 (λ e. omega arith)))
    (eq-zero-or-pos u)

pub disjoint_or : (a b s : ℕ) → disjoint (bit_or a b) s ≡ (disjoint a s && disjoint b s)
disjoint_or a b s = ap (λ (z : ℕ). z == 0) (and_or a b s) ∙ or_none (bit_and a s) (bit_and b s)

disjoint_comm : (a b : ℕ) → disjoint a b ≡ disjoint b a
disjoint_comm a b = ap (λ (z : ℕ). z == 0) (and_comm a b)

pub disjoint_both : (a s x : ℕ) → disjoint a (bit_or s x) ≡ (disjoint a s && disjoint a x)
disjoint_both a s x = disjoint_comm a (bit_or s x) ∙ disjoint_or s x a ∙ ap₂ (λ (p q : Bool). p && q) (disjoint_comm s a) (disjoint_comm x a)

-- ---- one leaf

pub both : (a b : Bool) → (a && b) ≡ true → (a ≡ true) × (b ≡ true)
both true b e = (refl, e)
both false b e = cc

-- a set of one leaf is that of its lowest
pub leaf_is : (s : ℕ) → one_leaf s ≡ true → (lowest s < 64) × (s ≡ 2 ^ lowest s)
leaf_is s e =
    let t = both (not (s == 0)) (singleton (lowest s) == s) e in
    let is = eqb-true (singleton (lowest s)) s t.1 in
    ⊎_elim (λ (h : lowest s < 64). (h, sym is ∙ singleton_is (lowest s) h))
    (λ (h : 64 ≤ lowest s).
    let z : s ≡ 0 = sym is ∙ singleton_none (lowest s) h in
    absurd (let f = rw (eq-eqb s 0 z) at t.0 in cc))
    (cases_lt (lowest s) 64)

pub sides_below : (l r : ℕ) → one_leaf_each l r ≡ true → (lowest l < 64) × (lowest r < 64)
sides_below l r e = let t = both (one_leaf l) (one_leaf r) e in ((leaf_is l t.0).0, (leaf_is r t.1).0)

module _ (i s : ℕ) (h : i < 64) where
  leaf_has : bit s i ≡ 1 → bit_and (2 ^ i) s ≡ 2 ^ i
  leaf_has e =
      in_within (2 ^ i) s (pow-lt h)
      (λ j. ⊎_elim (λ z. omega arith) (λ (z : i ≡ j). let w : bit s j ≡ 1 = rw z at e in omega (arith, bit-lt (2 ^ i) j)) (bit_one_cases i j))

  leaf_lacks : bit s i ≡ 0 → bit_and (2 ^ i) s ≡ 0
  leaf_lacks e =
      apart_disjoint (2 ^ i) s (pow-lt h)
      (λ j. ⊎_elim (λ z. omega arith) (λ (z : i ≡ j). let w : bit s j ≡ 0 = rw z at e in omega arith) (bit_one_cases i j))

  -- it is in the set, or apart from it
  leaf_cases : (bit_and (2 ^ i) s ≡ 0) ⊎ (bit_and (2 ^ i) s ≡ 2 ^ i)
  leaf_cases = ⊎_elim (λ e. inl (leaf_lacks e)) (λ (e : 0 < bit s i). inr (leaf_has (omega (arith, bit-lt s i)))) (eq-zero-or-pos (bit s i))

  pub leaf_within : within (2 ^ i) s ≡ not (disjoint (2 ^ i) s)
  leaf_within =
      ⊎_elim (λ (e : bit_and (2 ^ i) s ≡ 0). rw (e, ne_eqb 0 (2 ^ i) (λ z. omega (arith, pow_pos i))))
      (λ (e : bit_and (2 ^ i) s ≡ 2 ^ i). rw (e, eq-eqb (2 ^ i) (2 ^ i) refl, ne_eqb (2 ^ i) 0 (λ z. omega (arith, pow_pos i))))
      leaf_cases

  -- what is left of it where the set is taken away
  pub leaf_without : s < 2 ^ 64 → difference (2 ^ i) s ≡ elim (disjoint (2 ^ i) s) [ true ↦ 2 ^ i | false ↦ 0 ]
  leaf_without k =
      let t = and_split 64 (2 ^ i) s (pow-lt h) k in
      ⊎_elim (λ (e : bit_and (2 ^ i) s ≡ 0). rw (eq-eqb (bit_and (2 ^ i) s) 0 e) (omega (arith, t)))
      (λ (e : bit_and (2 ^ i) s ≡ 2 ^ i). rw (ne_eqb (bit_and (2 ^ i) s) 0 (λ z. omega (arith, pow_pos i))) (omega (arith, t)))
      leaf_cases
