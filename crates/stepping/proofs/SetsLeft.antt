-- What the iterators have left: the step from a subset to the next gives the first of those above it, and the highest leaf comes before those of
-- the rest. Assumes nothing.
use Rattle.std.specs.Prelude.{◌≡◌, refl, ℕ, zero, suc, ◌^◌, ◌<◌, ◌≤◌, cond, List, [], ◌∷◌, bit_and, length, Some, ⊤}
use Rattle.std.specs.Iterator.{MakesProgress, item_count}
use Rattle.std.proofs.Common.{sym, ap, ◌∙◌, subst, inl, inr, ◌⊎◌, arith}
use Rattle.std.proofs.lemmas.Bool.{lt-ltb, le-ltb}
use Rattle.std.proofs.lemmas.Nat.{and_assoc}
use Rattle.std.specs.Int.Bits.{and_self}
use mathlib.Core.List.Memᴰ
use mathlib.Core.List.{Memᴰ}
use Rattle.nodeset.specs.Sets.{singleton, highest, difference}
use Rattle.nodeset.specs.Subsets.{non_empty_subsets, singletons, next_subset}
use Rattle.nodeset.specs.SubsetLaws.{Steps}
use Rattle.nodeset.proofs.SubsetLaws.{subsets_steps, subsets_all, next_last}
use Rattle.nodeset.proofs.SingletonLaws.{singletons_step}
use Rattle.stepping.specs.Next.{above}

above_more : (t x : ℕ) (l : List ℕ) → t < x → above t (x ∷ l) ≡ x ∷ above t l
above_more t x l h = ap (λ b. cond b (x ∷ above t l) (above t l)) (lt-ltb t x h)

above_less : (t x : ℕ) (l : List ℕ) → x ≤ t → above t (x ∷ l) ≡ above t l
above_less t x l h = ap (λ b. cond b (x ∷ above t l) (above t l)) (le-ltb t x h)

-- all of what follows u is above a t that is not above u
above_all : (s u t : ℕ) (l : List ℕ) → Steps s u l → t ≤ u → above t l ≡ l
above_all s u t [] p h = refl
above_all s u t (v ∷ l) p h =
    let up : t < v = omega (arith, p.0) in
    above_more t v l up ∙ ap (λ r. v ∷ r) (above_all s v t l p.3 (omega arith))

-- from one of the list on
above_steps : (s u t : ℕ) (l : List ℕ) → Steps s u l → (t ≡ u) ⊎ Memᴰ t l → (u ≤ t) × Steps s t (above t l)
above_steps s u t l p (inl e) = (omega (arith, e), rw (e, above_all s u u l p (omega arith)) p)
above_steps s u t [] p (inr m) = absurd (Memᴰ.not-nil m)
above_steps s u t (v ∷ l) p (inr m) =
    let q = above_steps s v t l p.3 (Memᴰ.cases_cons m) in
    (omega (arith, p.0, q.0), subst (λ r. Steps s t r) (sym (above_less t v l q.0)) q.1)

-- what follows t is one list
steps_one : (s t : ℕ) (l k : List ℕ) → Steps s t l → Steps s t k → l ≡ k
steps_one s t [] [] p q = refl
steps_one s t [] (v ∷ k) p q = absurd (omega (arith, p, q.0, q.1))
steps_one s t (v ∷ l) [] p q = absurd (omega (arith, q, p.0, p.1))
steps_one s t (v ∷ l) (w ∷ k) p q =
    let e : w ≡ v = sym q.2 ∙ p.2 in
    ap (λ x. x ∷ l) (sym e) ∙ ap (λ r. w ∷ r) (steps_one s w l k (subst (λ x. Steps s x l) (sym e) p.3) q.3)

-- all of them are above the empty set
pub left_all : (s : ℕ) → s < 2 ^ 64 → above 0 (non_empty_subsets s) ≡ non_empty_subsets s
left_all s h = above_all s 0 0 (non_empty_subsets s) (subsets_steps s h) (omega arith)

-- the next one is a subset
pub next_inside : (s t n : ℕ) → n ≡ next_subset s t → bit_and n s ≡ n
next_inside s t n e = rw e (and_assoc s _ s ∙ ap (bit_and _) (and_self s))

-- a subset t, with the subsets above it
module _ (s t : ℕ) (h : s < 2 ^ 64) (i : bit_and t s ≡ t) where
  subsets_from : Steps s t (above t (non_empty_subsets s))
  subsets_from = (above_steps s 0 t (non_empty_subsets s) (subsets_steps s h) (go t refl)).1
    where
      go : (n : ℕ) → n ≡ t → (t ≡ 0) ⊎ Memᴰ t (non_empty_subsets s)
      go zero e = inl (sym e)
      go (suc n) e = inr (subsets_all s t h (omega (arith, e)) i)

  -- after the last
  pub left_none : next_subset s t ≡ 0 → above t (non_empty_subsets s) ≡ []
  left_none z = go (above t (non_empty_subsets s)) refl subsets_from
    where
      go : (l : List ℕ) → l ≡ above t (non_empty_subsets s) → Steps s t l → above t (non_empty_subsets s) ≡ []
      go [] e p = sym e
      go (v ∷ l) e p = absurd (omega (arith, p.0, p.2, z))

  -- n: the next one
  pub left_next : (n : ℕ) → n ≡ next_subset s t → (n ≡ 0 → ⊥) → above t (non_empty_subsets s) ≡ n ∷ above n (non_empty_subsets s)
  left_next n en z = go (above t (non_empty_subsets s)) refl subsets_from
    where
      go : (l : List ℕ) → l ≡ above t (non_empty_subsets s) → Steps s t l → above t (non_empty_subsets s) ≡ n ∷ above n (non_empty_subsets s)
      go [] e p = absurd (z (en ∙ ap (next_subset s) p ∙ next_last s h))
      go (v ∷ l) e p =
          let m : n ≡ v = en ∙ p.2 in
          let q = above_steps s 0 n (non_empty_subsets s) (subsets_steps s h) (inr (subsets_all s n h (omega (arith, p.0, m)) (next_inside s t n en))) in
          sym e ∙ ap (λ x. x ∷ l) (sym m) ∙ ap (λ r. n ∷ r) (steps_one s n l (above n (non_empty_subsets s)) (subst (λ x. Steps s x l) (sym m) p.3) q.1)

-- the leaves: x the highest, r the rest
pub leaves_next : (v x r : ℕ) → (v ≡ 0 → ⊥) → v < 2 ^ 64 → x ≡ singleton (highest v) → r ≡ difference v x → singletons v ≡ x ∷ singletons r
leaves_next v x r p h ex er = singletons_step v (omega (arith, p)) h ∙ rw (er, ex) refl

-- an item lowers what is left, of an iterator that can always be called
pub taken : {S A : Type 0} (rest : S → List A) (s : S) (x : A) (t : S) → rest s ≡ x ∷ rest t
    → MakesProgress (λ _. ⊤) (item_count rest) s (Some x) t
taken rest s x t e = record { on = λ _. (tt, tt, omega (arith, ap length e)); keeps = tt; rests = λ _. tt }
