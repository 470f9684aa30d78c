-- Laws of a question apart from its bytes: parts of a table, the open question's tables, and the walk. Assumes nothing.
use Rattle.std.specs.Prelude.{◌≡◌, refl, ◌⊎◌, true, false, List, [], ◌∷◌, map, ℕ, zero, suc, ◌+◌, ◌-◌, ◌≤◌, ◌<◌, length, get_or, drop, eqb}
use Rattle.std.proofs.Common.{sym, ap₂, ◌∙◌, inl, inr, true≢false, le_of_suc-le-suc, not-suc-le-zero, le_trans, le_of_eq, arith, length-drop, drop_of_length-le, drop-cons, get_or-take, get_or-drop, length-take-le}
use Rattle.std.proofs.Math.Numerals.{add-one}
use Rattle.std.proofs.lemmas.List.{length-map}
use borrow.Author.Tests.{ne_eqb, eq-eqb, le-ltb, lt-ltb}
use Rattle.definition.specs.Question.{Range, part, Item, Predicate, Question, leaf, open_item, open_question, leaf_count, ends_with_one, is_walk, item, predicate}

-- ---- the part of a table that a range names, from the front

module _ {A : Type 0} (r : Range) (xs : List A) (fits : r.first + r.count ≤ length xs) where
  pub part_length : length (part r xs) ≡ r.count
  part_length = length-take-le r.count (drop r.first xs) (omega (arith, length-drop r.first xs))

  pub part_cons : (j : ℕ) (d : A) → j < r.count → drop j (part r xs) ≡ get_or xs (r.first + j) d ∷ drop (j + 1) (part r xs)
  part_cons j d h =
      drop-cons (part r xs) j d (omega (arith, part_length))
      ∙ ap₂ (λ (x : A) (k : ℕ). x ∷ drop k (part r xs)) (get_or-take r.count (drop r.first xs) j d h ∙ get_or-drop r.first xs j d) (sym (add-one j))

  pub part_end : (j : ℕ) → r.count ≤ j → drop j (part r xs) ≡ []
  part_end j h = drop_of_length-le (part r xs) (le_trans (le_of_eq part_length) h)

-- ---- the open question's tables

mapped : {A B : Type 0} (f : A → B) (xs : List A) (i : ℕ) (d : A) → i < length xs → drop i (map f xs) ≡ f (get_or xs i d) ∷ drop (suc i) (map f xs)
mapped f [] i d h = absurd (not-suc-le-zero h)
mapped f (x ∷ xs) zero d h = refl
mapped f (x ∷ xs) (suc i) d h = mapped f xs i d (le_of_suc-le-suc h)

pub length_open_items : (q : Question) → length (open_question q).items ≡ length q.items
length_open_items q = length-map q.items open_item

pub length_open_predicates : (q : Question) → length (open_question q).predicates ≡ length q.predicates
length_open_predicates q = length-map q.predicates (λ (p : Predicate). p.range)

pub open_predicate : (q : Question) (i : ℕ) → i < length q.predicates → drop i (open_question q).predicates ≡ (predicate q i).range ∷ drop (i + 1) (open_question q).predicates
open_predicate q i h = rw add-one (mapped (λ (p : Predicate). p.range) q.predicates i _ h)

pub open_predicate-at : (q : Question) (i : ℕ) → get_or (open_question q).predicates i (record { first = 0; count = 0 }) ≡ (predicate q i).range
open_predicate-at q i = from q.predicates i
  where
    from : (ps : List Predicate) (i : ℕ)
        → get_or (map (λ (p : Predicate). p.range) ps) i (record { first = 0; count = 0 }) ≡ (get_or ps i (record { selectivity = 0; range = record { first = 0; count = 0 } })).range
    from [] i = refl
    from (p ∷ ps) zero = refl
    from (p ∷ ps) (suc i) = from ps i

-- ---- the walk, one item after the other

few_or_two : (n : ℕ) → (n < 2) ⊎ (2 ≤ n)
few_or_two zero = inl (omega arith)
few_or_two (suc zero) = inl (omega arith)
few_or_two (suc (suc n)) = inr (omega arith)

module _ (q : Question) (i : ℕ) (h : i < length q.items) where
  pub open_item_lem : drop i (open_question q).items ≡ open_item (item q i) ∷ drop (i + 1) (open_question q).items
  open_item_lem = rw add-one (mapped open_item q.items i _ h)

  pub counts-leaf : (item q i).kind ≡ leaf → leaf_count (drop i (open_question q).items) ≡ leaf_count (drop (i + 1) (open_question q).items) + 1
  unfolding leaf_count
  counts-leaf k = rw (open_item_lem, eq-eqb (item q i).kind leaf k, leaf_count) (sym (add-one (leaf_count (drop (i + 1) (open_question q).items))))

  pub counts-join : ((item q i).kind ≡ leaf → ⊥) → leaf_count (drop i (open_question q).items) ≡ leaf_count (drop (i + 1) (open_question q).items)
  unfolding leaf_count
  counts-join k = rw (open_item_lem, ne_eqb (item q i).kind leaf k, leaf_count)

  pub puts_leaf : (n : ℕ) → (item q i).kind ≡ leaf → ends_with_one (drop i (open_question q).items) n ≡ ends_with_one (drop (i + 1) (open_question q).items) (n + 1)
  unfolding ends_with_one
  puts_leaf n k = rw (open_item_lem, eq-eqb (item q i).kind leaf k, ends_with_one, add-one n)

  pub takes_join : (n : ℕ) → ((item q i).kind ≡ leaf → ⊥) → 2 ≤ n → ends_with_one (drop i (open_question q).items) n ≡ ends_with_one (drop (i + 1) (open_question q).items) (n - 1)
  unfolding ends_with_one
  takes_join n k l = rw (open_item_lem, ne_eqb (item q i).kind leaf k, le-ltb n 2 l, ends_with_one)

  pub finds_few : (n : ℕ) → ((item q i).kind ≡ leaf → ⊥) → n < 2 → ends_with_one (drop i (open_question q).items) n ≡ false
  unfolding ends_with_one
  finds_few n k l = rw (open_item_lem, ne_eqb (item q i).kind leaf k, lt-ltb n 2 l, ends_with_one)

  -- where the rest of a walk is right, a join finds two
  pub finds_two : (n : ℕ) → ((item q i).kind ≡ leaf → ⊥) → ends_with_one (drop i (open_question q).items) n ≡ true → 2 ≤ n
  finds_two n k e = elim (few_or_two n) [ inl l ↦ absurd (true≢false (sym e ∙ finds_few n k l)) | inr g ↦ g ]

-- past the last item
module _ (q : Question) (i : ℕ) (h : length q.items ≤ i) where
  open_end : drop i (open_question q).items ≡ []
  open_end = drop_of_length-le (open_question q).items (le_trans (le_of_eq (length_open_items q)) h)

  pub counts_none : leaf_count (drop i (open_question q).items) ≡ 0
  unfolding leaf_count
  counts_none = rw open_end

  pub ends : (n : ℕ) → ends_with_one (drop i (open_question q).items) n ≡ eqb n 1
  unfolding ends_with_one
  ends n = rw open_end

pub walk_empty : (q : Question) → length q.items ≡ 0 → is_walk (open_question q).items ≡ true
walk_empty q h = from q.items h
  where
    from : (xs : List Item) → length xs ≡ 0 → is_walk (map open_item xs) ≡ true
    from [] h = refl
    from (x ∷ xs) h = absurd (omega arith)

pub walk_items : (q : Question) → 0 < length q.items → is_walk (open_question q).items ≡ ends_with_one (open_question q).items 0
walk_items q h = from q.items h
  where
    from : (xs : List Item) → 0 < length xs → is_walk (map open_item xs) ≡ ends_with_one (map open_item xs) 0
    from [] h = absurd (omega arith)
    from (x ∷ xs) h = refl
