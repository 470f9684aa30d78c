-- An item before those that are left of a walk. Assumes nothing.
use Rattle.std.specs.Prelude.{◌≡◌, ℕ, suc, ◌+◌, ◌-◌, ◌<◌, ◌≤◌, List, [], ◌∷◌, false, length, map, filter, drop, eqb}
use Rattle.std.proofs.Common.{refl, ap, inl, inr, eq-eqb, ne_eqb, lt-ltb, le-ltb, add-one, drop-cons, arith}
use Rattle.definition.specs.Question.{Item, item, open_item, leaf, leaf_count, ends_with_one}
use Rattle.definition.specs.Sheet.{item_count, question_of}
use Rattle.definition.proofs.SheetLaws.{length_items, true_or_false}

-- an item, and those behind it
pub item_left : (bs : List ℕ) (n : ℕ) {x : Item} → n < item_count bs → x ≡ item (question_of bs) n
    → drop n (question_of bs).items ≡ x ∷ drop (n + 1) (question_of bs).items
item_left bs n h e = rw (add-one, e) (drop-cons (question_of bs).items n _ (omega (arith, length_items bs)))

-- the leaves of a walk are those items that are
pub leaves_counted : (xs : List Item) → length (filter (λ (x : Item). eqb x.kind leaf) xs) ≡ leaf_count (map open_item xs)
unfolding leaf_count
leaves_counted [] = refl
leaves_counted (x ∷ xs) =
    elim (true_or_false (eqb x.kind leaf)) [
      | inl t ↦ rw (t, leaf_count) (ap suc (leaves_counted xs))
      | inr f ↦ rw (f, leaf_count) (leaves_counted xs)
    ]

module _ {ys zs : List Item} {x : Item} (n : ℕ) (e : ys ≡ x ∷ zs) where
  pub leaf_first : x.kind ≡ leaf → ends_with_one (map open_item ys) n ≡ ends_with_one (map open_item zs) (n + 1)
  unfolding ends_with_one
  leaf_first k = rw (e, eq-eqb x.kind leaf k, ends_with_one, add-one n)

  pub join_first : (x.kind ≡ leaf → ⊥) → 2 ≤ n → ends_with_one (map open_item ys) n ≡ ends_with_one (map open_item zs) (n - 1)
  unfolding ends_with_one
  join_first k l = rw (e, ne_eqb x.kind leaf k, le-ltb n 2 l, ends_with_one)

  pub few_first : (x.kind ≡ leaf → ⊥) → n < 2 → ends_with_one (map open_item ys) n ≡ false
  unfolding ends_with_one
  few_first k l = rw (e, ne_eqb x.kind leaf k, lt-ltb n 2 l, ends_with_one)

pub none_left : {ys : List Item} (n : ℕ) → ys ≡ [] → ends_with_one (map open_item ys) n ≡ eqb n 1
unfolding ends_with_one
none_left n e = rw e
