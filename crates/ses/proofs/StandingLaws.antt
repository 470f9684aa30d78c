-- Laws that stood before the structs, or before `has_column` searched by `any`, kept as they were; no proof needs them now. Assumes nothing.
use Rattle.std.specs.Prelude.{◌≡◌, ◌&&◌, [], ◌∷◌, ℕ, ◌+◌, ◌<◌, ◌≤◌, length, get_or, eqb}
use Rattle.std.proofs.Math.Path.{sym, ap}
use Rattle.std.proofs.Common.{◌∙◌, add-one, eq-eqb, ne_eqb}
use mathlib.Core.List.{List}
use Rattle.std.proofs.Math.Bool.{true, false}
use native.Mathlib.Omega.{arith}
use Rattle.std.proofs.Math.ListN.{drop}
use Rattle.nodeset.specs.Sets.{bit, singleton}
use Rattle.definition.specs.Lists.{tabulate, member}
use Rattle.definition.proofs.ListLaws.{tabulate-at, tabulate_end}
use Rattle.definition.specs.Edges.{holder}
use Rattle.ses.specs.View.{columns_at, Fit}

-- each leaf's columns, the leaves held as one list for each field, of which the first n places count
abbrev pub leaves_of : List ℕ → ℕ → List ℕ → List ℕ → List (List ℕ)
leaves_of sheet n first count = tabulate n (λ k. columns_at sheet (get_or first k 0) (get_or count k 0))

-- each of the n leaves has a place in both lists, and its range lies in the columns
pub record Fits (sheet : List ℕ) (n : ℕ) (first count : List ℕ) : Type 0 where
  pub few : n ≤ 64
  pub firsts : n ≤ length first
  pub counts : n ≤ length count
  pub inside : (k : ℕ) → k < n → Fit sheet (get_or first k 0) (get_or count k 0)

pub fits_fewer : (sheet : List ℕ) (n m : ℕ) (first count : List ℕ) → m ≤ n → Fits sheet n first count → Fits sheet m first count
fits_fewer sheet n m first count h f =
    record {
      few = omega (arith, f.few);
      firsts = omega (arith, f.firsts);
      counts = omega (arith, f.counts);
      inside = λ k l. f.inside k (omega arith);
    }

-- the lowest leaf with a column, from leaf k on
module _ (n : ℕ) (f : ℕ → List ℕ) (s c k : ℕ) where
  abbrev from_k : List (List ℕ)
  from_k = drop k (tabulate n f)

  next : k < n
      → holder k from_k s c ≡ elim (eqb (bit s k) 1 && member c (f k)) [ true ↦ singleton k | false ↦ holder (k + 1) (drop (k + 1) (tabulate n f)) s c ]
  unfolding holder
  next h =
      ap (λ (l : List (List ℕ)). holder k l s c) (tabulate-at n f k h)
      ∙ ap (λ (j : ℕ). elim (eqb (bit s k) 1 && member c (f k)) [ true ↦ singleton k | false ↦ holder j (drop j (tabulate n f)) s c ])
      (sym (add-one k))

  pub holder_hit : k < n → true ≡ (eqb (bit s k) 1 && member c (f k)) → singleton k ≡ holder k from_k s c
  holder_hit h m = sym (next h ∙ rw (sym m))

  pub holder_miss : k < n → false ≡ (eqb (bit s k) 1 && member c (f k))
      → holder (k + 1) (drop (k + 1) (tabulate n f)) s c ≡ holder k from_k s c
  holder_miss h m = sym (next h ∙ rw (sym m))

  pub holder_none : n ≤ k → k ≤ n → 0 ≡ holder k from_k s c
  unfolding holder
  holder_none h g =
      let e : k ≡ n = omega arith in
      sym (ap (λ (l : List (List ℕ)). holder k l s c) (ap (λ (j : ℕ). drop j (tabulate n f)) e ∙ tabulate_end n f))

-- ---- a column among others

pub member_hit : (c x : ℕ) (xs : List ℕ) → x ≡ c → true ≡ member c (x ∷ xs)
unfolding member
member_hit c x xs e = rw (eq-eqb _ _ e)

pub member_miss : (c x : ℕ) (xs : List ℕ) → (x ≡ c → ⊥) → member c xs ≡ member c (x ∷ xs)
unfolding member
member_miss c x xs e = rw (ne_eqb _ _ e)

pub member_none : (c : ℕ) (xs : List ℕ) → xs ≡ [] → false ≡ member c xs
unfolding member
member_none c xs e = sym (ap (member c) e)
