-- Laws of the crate's definitions, one for each way through a function. Assumes nothing.
use Rattle.std.specs.Prelude.{◌≡◌, refl, Bool, List, [], ◌∷◌, get_or, take, drop, ltb, None, Some, is_some, cond}
use Rattle.std.specs.List.{position, position_or_len}
use Rattle.std.specs.Option.{option_map}
use Rattle.std.proofs.Math.Path.{sym, ap, ap₂}
use Rattle.std.proofs.Common.{◌∙◌, le_of_lt, zero-add, suc-add, drop-cons, get_or-take, take_all}
use Rattle.std.proofs.Math.Bool.{true, false, not, ◌||◌, or-false, or_assoc}
use Rattle.std.proofs.lemmas.Bool.{false≢true}
use Prim.Native.Nat.{ℕ, zero, suc, ◌+◌, ◌<◌, ◌≤◌, min}
use Rattle.std.proofs.Math.Nat.{min-le_left, min-eq_left, min-eq_right, add-zero}
use Rattle.std.proofs.Math.Numerals.{add-one}
use native.Mathlib.Omega.{arith}
use Rattle.std.proofs.Math.ListN.{length, length-take}
use Rattle.std.proofs.Math.Seq.{take-length}
use Rattle.std.proofs.Math.Dec.{eqb}
use borrow.Author.Tests.{ne_eqb, lt-ltb, le-ltb, eqb-false, ltb-true, ltb-false}
use Rattle.store.specs.declared.DPhyp.{DPhyp}
use Rattle.store.specs.declared.Stop.TheVariants.{VisitsSpent}
use Rattle.store.specs.Counts.{counts, visit_of}
use Rattle.store.specs.Memo.{spot, holds}

pub get_d_any : {A : Type 0} (l : List A) (i : ℕ) (d e : A) → i < length l → get_or l i d ≡ get_or l i e
get_d_any [] i d e h = absurd (omega arith)
get_d_any (x ∷ l) zero d e h = refl
get_d_any (x ∷ l) (suc i) d e h = get_d_any l i d e (omega arith)

-- ---- the memo, one entry more

module _ (l : List ℕ) (n i s : ℕ) where
  pub front : i < min n (length l) → drop i (take n l) ≡ get_or l i 0 ∷ drop (suc i) (take n l)
  front h =
      let k : i < length (take n l) = omega (arith, length-take n l) in
      let m = min-le_left n (length l) in
      drop-cons (take n l) i 0 k ∙ ap (λ (x : ℕ). x ∷ drop (suc i) (take n l)) (get_or-take n l i 0 (omega arith))

  pub spot_on : i < min n (length l) → (get_or l i 0 ≡ s → ⊥) → spot (i + 1) (drop (i + 1) (take n l)) s ≡ spot i (drop i (take n l)) s
  unfolding spot
  spot_on h e = sym (rw (front h, ne_eqb (get_or l i 0) s e, spot, add-one))

-- the number of the first place with s, counted from the list's first
pub spot-position : (l : List ℕ) (s i : ℕ) → option_map (λ k. i + k) (position (λ x. eqb x s) l) ≡ spot i l s
unfolding spot
spot-position [] s i = refl
spot-position (x ∷ l) s i = go (eqb x s) (ltb (position_or_len (λ x. eqb x s) l) (length l)) refl (spot-position l s (suc i))
  where
    p : ℕ
    p = position_or_len (λ x. eqb x s) l

    go : (b q : Bool) → ltb p (length l) ≡ q → option_map (λ k. suc i + k) (cond q (Some p) None) ≡ spot (suc i) l s
        → option_map (λ k. i + k) (cond (ltb (cond (not b) (1 + p) 0) (suc (length l))) (Some (cond (not b) (1 + p) 0)) None)
        ≡ elim b [ true ↦ Some i | false ↦ spot (suc i) l s ]
    go true q e h = rw (lt-ltb 0 (suc (length l)) (omega arith)) (ap Some (add-zero i))
    go false true e h = rw (lt-ltb (1 + p) (suc (length l)) (omega (arith, ltb-true _ _ e))) (ap Some (omega arith) ∙ h)
    go false false e h = rw (le-ltb (1 + p) (suc (length l)) (omega (arith, ltb-false _ _ e))) h

-- ---- a set among some places

module _ (l : List ℕ) (s : ℕ) where
  pub holds-pair : (i : ℕ) → (eqb (get_or l i 0) s || eqb (get_or l (i + 1) 0) s) ≡ holds l i 2 s
  unfolding holds
  holds-pair i = rw (add-one, or-false)

  pub holds_more : {p q : Bool} (i k m : ℕ) → p ≡ holds l i k s → q ≡ holds l (i + k) m s → (p || q) ≡ holds l i (k + m) s
  unfolding holds
  holds_more i k m a b = ap₂ ◌||◌ a b ∙ go k i
    where
      go : (k i : ℕ) → (holds l i k s || holds l (i + k) m s) ≡ holds l i (k + m) s
      go zero i = rw (add-zero, zero-add)
      go (suc k) i =
          let e : i + suc k ≡ suc i + k = omega arith in
          rw (suc-add k m, e)
          (or_assoc (eqb (get_or l i 0) s) (holds l (suc i) k s) (holds l (suc i + k) m s)
          ∙ ap (λ (b : Bool). eqb (get_or l i 0) s || b) (go k (suc i)))

  pub holds_four : (i : ℕ)
      → (((eqb (get_or l i 0) s || eqb (get_or l (i + 1) 0) s) || eqb (get_or l (i + 2) 0) s) || eqb (get_or l (i + 3) 0) s) ≡ holds l i 4 s
  holds_four i =
      let q : i + 3 ≡ i + 2 + 1 = omega arith in
      let assoc = or_assoc (eqb (get_or l i 0) s || eqb (get_or l (i + 1) 0) s) (eqb (get_or l (i + 2) 0) s) (eqb (get_or l (i + 2 + 1) 0) s) in
      rw (q, assoc) (holds_more i 2 2 (holds-pair i) (holds-pair (i + 2)))

  -- k places without s are passed over
  pub spot_past : (n k i : ℕ) → holds l i k s ≡ false → i + k ≤ min n (length l) → spot (i + k) (drop (i + k) (take n l)) s ≡ spot i (drop i (take n l)) s
  unfolding holds
  spot_past n zero i e h = rw add-zero
  spot_past n (suc k) i e h =
      let q : i + suc k ≡ suc i + k = omega arith in
      let f = neither _ _ e in
      rw q (spot_past n k (suc i) f.1 (omega arith) ∙ rw add-one at (spot_on l n i s (omega arith) (eqb-false _ _ f.0)))
    where
      neither : (a b : Bool) → (a || b) ≡ false → (a ≡ false) × (b ≡ false)
      neither true b e = absurd (false≢true (sym e))
      neither false b e = (refl, e)

pub take_min : (n : ℕ) (l : List ℕ) → take (min n (length l)) l ≡ take n l
take_min n l = go (ltb n (length l)) refl
  where
    go : (b : Bool) → ltb n (length l) ≡ b → take (min n (length l)) l ≡ take n l
    go true e = rw (min-eq_left (le_of_lt (ltb-true _ _ e)))
    go false e = let h = ltb-false _ _ e in rw (min-eq_right h, take-length, take_all n l h)

-- ---- a visit

pub visit-stopped : (limit : ℕ) (p : DPhyp) → is_some p.stop ≡ true → p ≡ visit_of limit p
unfolding visit_of
visit-stopped limit p h = rw (h, visit_of)

pub visit_under : (limit : ℕ) (p : DPhyp) → is_some p.stop ≡ false → p.visits < limit → counts p.plans p.memo (p.visits + 1) p.stop ≡ visit_of limit p
unfolding visit_of
visit_under limit p h l = rw (h, visit_of, lt-ltb _ _ l)

pub visit_over : (limit : ℕ) (p : DPhyp) → is_some p.stop ≡ false → limit ≤ p.visits
    → counts p.plans p.memo p.visits (Some VisitsSpent) ≡ visit_of limit p
unfolding visit_of
visit_over limit p h l = rw (h, visit_of, le-ltb _ _ l)
