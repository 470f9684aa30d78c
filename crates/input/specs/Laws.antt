-- Arrays that are filled from the front. Assumes nothing.
use Rattle.std.specs.Prelude.{◌≡◌, refl, ℕ, zero, suc, ◌+◌, ◌≤◌, ◌<◌, length, get_or, take}
use Rattle.std.proofs.Math.Path.{sym, ap}
use Rattle.std.proofs.Common.{ap₂, ◌∙◌, arith, add-one}
use mathlib.Core.List.{List, [], ◌∷◌, ◌++◌, map, map-append, append-nil}
use Rattle.std.proofs.Math.Seq.{append_snoc}
use borrow.Author.Tests.{eq-eqb, ne_eqb}
use Rattle.definition.specs.Question.{Item, open_item, leaf, leaf_count}
use Rattle.definition.specs.Search.{Leaf}
use Rattle.definition.specs.Call.{leaves_of}
use Rattle.cost.specs.declared.Leaf as cost
use Rattle.cost.specs.View.{leaf_of}
use Rattle.input.specs.View.{leaves_in}

-- ---- one field of each entry of a table

pub filled : {A : Type 0} (f : A → ℕ) (xs : List A) (d : A) (l : List ℕ) (n : ℕ) → length xs ≡ n → n ≤ length l
    → ((i : ℕ) → i < n → get_or l i 0 ≡ f (get_or xs i d)) → take n l ≡ map f xs
filled f [] d l zero e h at = refl
filled f [] d l (suc n) e h at = absurd (omega arith)
filled f (x ∷ xs) d l zero e h at = absurd (omega arith)
filled f (x ∷ xs) d [] (suc n) e h at = absurd (omega arith)
filled f (x ∷ xs) d (y ∷ l) (suc n) e h at =
    ap₂ (λ (z : ℕ) (zs : List ℕ). z ∷ zs) (at 0 (omega arith)) (filled f xs d l n (omega arith) (omega arith) (λ i k. at (suc i) (omega arith)))

-- ---- the leaves

pub leaf_more : (ls : List cost.Leaf) (x : cost.Leaf) → leaves_in (ls ++ (x ∷ [])) ≡ leaves_in ls ++ (leaf_of x ∷ [])
leaf_more ls x = map-append leaf_of ls (x ∷ [])

module _ {ys zs : List Item} {x : Item} (e : ys ≡ x ∷ zs) where
  -- a leaf goes behind those before it
  pub leaf_taken : (ls : List Leaf) {ms : List Leaf} → x.kind ≡ leaf → ms ≡ ls ++ (record { rows = x.rows; columns = x.range.count } ∷ [])
      → ms ++ leaves_of zs ≡ ls ++ leaves_of ys
  unfolding leaves_of
  leaf_taken ls k f =
      ap (λ (l : List Leaf). l ++ leaves_of zs) f
      ∙ append_snoc ls (record { rows = x.rows; columns = x.range.count }) (leaves_of zs)
      ∙ ap (λ (l : List Leaf). ls ++ l) (sym (rw (e, eq-eqb x.kind leaf k, leaves_of)))

  pub join_passed : (x.kind ≡ leaf → ⊥) → leaves_of zs ≡ leaves_of ys
  unfolding leaves_of
  join_passed k = sym (rw (e, ne_eqb x.kind leaf k, leaves_of))

  pub leaf_counted : x.kind ≡ leaf → leaf_count (map open_item ys) ≡ leaf_count (map open_item zs) + 1
  unfolding leaf_count
  leaf_counted k = rw (e, eq-eqb x.kind leaf k, leaf_count) (sym (add-one (leaf_count (map open_item zs))))

  pub join_uncounted : (x.kind ≡ leaf → ⊥) → leaf_count (map open_item ys) ≡ leaf_count (map open_item zs)
  unfolding leaf_count
  join_uncounted k = rw (e, ne_eqb x.kind leaf k, leaf_count)

pub no_leaves : {ys : List Item} (ls : List Leaf) → ys ≡ [] → ls ≡ ls ++ leaves_of ys
unfolding leaves_of
no_leaves ls e = sym (append-nil ls) ∙ ap (λ (l : List Leaf). ls ++ l) (sym (rw e))
