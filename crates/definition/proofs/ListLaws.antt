-- Laws of the lists of Lists.antt. Assumes nothing.
use Rattle.std.specs.Prelude.{◌≡◌, length, get_or, take, drop}
use Rattle.std.proofs.Math.Path.{refl, ap, ap₂}
use Rattle.std.proofs.Common.{sym, ◌∙◌, le_refl, le_trans, eq-or-lt_of_le, le_of_suc-le-suc, not-suc-le-zero, arith, take-suc, drop-cons}
use Rattle.std.proofs.Math.Logic.{inl, inr}
use mathlib.Core.List.{List, [], ◌∷◌, ◌++◌, map, map-append}
use Prim.Native.Nat.{ℕ, zero, suc, ◌+◌, ◌≤◌, ◌<◌}
use Rattle.std.proofs.Math.Nat.{le-suc}
use Rattle.std.proofs.Math.Numerals.{add-one}
use Rattle.std.proofs.Math.ListN.{length-append, get_or-append}
use Rattle.std.proofs.Math.Seq.{drop-length}
use Rattle.std.proofs.lemmas.List.{get_or_at}
use Rattle.definition.specs.Lists.{tabulate, concat_map}

module _ {A : Type 0} where
  pub length-tabulate : (n : ℕ) (f : ℕ → A) → length (tabulate n f) ≡ n
  unfolding tabulate
  length-tabulate zero f = refl
  length-tabulate (suc n) f = length-append (tabulate n f) (f n ∷ []) ∙ ap (λ (k : ℕ). k + 1) (length-tabulate n f) ∙ add-one n

  -- the list depends on the function's values below n alone
  pub tabulate_same : (n : ℕ) (f g : ℕ → A) → ((i : ℕ) → i < n → f i ≡ g i) → tabulate n f ≡ tabulate n g
  unfolding tabulate
  tabulate_same zero f g e = refl
  tabulate_same (suc n) f g e = ap₂ (λ (l : List A) (x : A). l ++ (x ∷ [])) (tabulate_same n f g (λ i h. e i (le_trans h (le-suc n)))) (e n (le_refl (suc n)))

  -- one more member, the others unchanged
  pub tabulate_more : (n : ℕ) (f g : ℕ → A) → ((i : ℕ) → i < n → f i ≡ g i) → tabulate (n + 1) f ≡ tabulate n g ++ (f n ∷ [])
  unfolding tabulate
  tabulate_more n f g e = ap (λ (k : ℕ). tabulate k f) (add-one n) ∙ ap (λ (l : List A). l ++ (f n ∷ [])) (tabulate_same n f g e)

  pub get_d_tabulate : (n : ℕ) (f : ℕ → A) (i : ℕ) (d : A) → i < n → get_or (tabulate n f) i d ≡ f i
  unfolding tabulate
  get_d_tabulate zero f i d h = absurd (not-suc-le-zero h)
  get_d_tabulate (suc n) f i d h =
      elim (eq-or-lt_of_le (le_of_suc-le-suc h)) [
        | inl e ↦ rw e (get_or_at (tabulate n f) (f n) [] d n (length-tabulate n f))
        | inr l ↦ get_or-append (tabulate n f) (f n ∷ []) d i (omega (arith, length-tabulate n f)) ∙ get_d_tabulate n f i d l
      ]

  -- the members from i on
  pub tabulate-at : (n : ℕ) (f : ℕ → A) (i : ℕ) → i < n → drop i (tabulate n f) ≡ f i ∷ drop (suc i) (tabulate n f)
  tabulate-at n f i h =
      drop-cons (tabulate n f) i (f i) (omega (arith, length-tabulate n f)) ∙ ap (λ (x : A). x ∷ drop (suc i) (tabulate n f)) (get_d_tabulate n f i (f i) h)

  pub tabulate_end : (n : ℕ) (f : ℕ → A) → drop n (tabulate n f) ≡ []
  tabulate_end n f = ap (λ (k : ℕ). drop k (tabulate n f)) (sym (length-tabulate n f)) ∙ drop-length (tabulate n f)

-- a function of each member
pub map-tabulate : {A B : Type 0} (h : A → B) (n : ℕ) (f : ℕ → A) → map h (tabulate n f) ≡ tabulate n (λ i. h (f i))
unfolding tabulate
map-tabulate h zero f = refl
map-tabulate h (suc n) f = map-append h (tabulate n f) (f n ∷ []) ∙ ap (λ l. l ++ (h (f n) ∷ [])) (map-tabulate h n f)

pub tabulate-take : (n : ℕ) (l : List ℕ) → n ≤ length l → tabulate n (λ i. get_or l i 0) ≡ take n l
unfolding tabulate
tabulate-take zero l h = refl
tabulate-take (suc n) l h = ap (λ k. k ++ (get_or l n 0 ∷ [])) (tabulate-take n l (le_trans (le-suc n) h)) ∙ sym (take-suc l n 0 h)

-- lists one after the other, by their members below n
pub concat_same : {A B : Type 0} (f g : A → List B) (n : ℕ) (a b : ℕ → A) → ((i : ℕ) → i < n → f (a i) ≡ g (b i)) → concat_map f (tabulate n a) ≡ concat_map g (tabulate n b)
unfolding concat_map
concat_same {A} {B} f g n a b e =
    mapped f (tabulate n a)
    ∙ ap (concat_map (λ (l : List B). l)) (map-tabulate f n a ∙ tabulate_same n _ _ e ∙ sym (map-tabulate g n b))
    ∙ sym (mapped g (tabulate n b))
  where
    mapped : (h : A → List B) (xs : List A) → concat_map h xs ≡ concat_map (λ (l : List B). l) (map h xs)
    mapped h [] = refl
    mapped h (x ∷ xs) = ap (λ (l : List B). h x ++ l) (mapped h xs)
