-- The header's checks one after the other, over the sections read from it. Assumes nothing.
use Rattle.std.specs.Prelude.{ℕ, ◌+◌, ◌*◌, ◌≤◌, ◌<◌, true, false, not, ◌≡◌, length, drop, eqb}
use mathlib.Core.List.{List, []}
use Rattle.std.proofs.Common.{ap, ◌∙◌, le-ltb, lt-ltb, eq-eqb, ne_eqb}
use Rattle.definition.specs.Answers.{truncated, over_limit, misplaced}
use Rattle.definition.specs.Sheet.{item_count, predicate_count, column_count, first_failing, header_checks}
use Rattle.definition.proofs.SheetLaws.{header_answer, fails_here, fails_later}
use Rattle.sheet.specs.Views.{sections_of}
use Rattle.sheet.specs.declared.Sections.{Sections}

pub header_short : (bs : List ℕ) → length bs < 24 → header_answer bs ≡ truncated
header_short bs h = fails_here truncated _ (lt-ltb (length bs) 24 h)

-- a test of two numbers that are not equal, and of two that are
differ : {a b : ℕ} → (a ≡ b → ⊥) → not (eqb a b) ≡ true
differ {a} {b} n = ap not (ne_eqb a b n)

agree : {a b : ℕ} → a ≡ b → not (eqb a b) ≡ false
agree {a} {b} e = ap not (eq-eqb a b e)

module _ (bs : List ℕ) (s : Sections) (e : s ≡ sections_of bs) (long : 24 ≤ length bs) where
  past_length : {n : ℕ} → first_failing (drop 1 (header_checks bs)) ≡ n → header_answer bs ≡ n
  past_length t = fails_later truncated _ (le-ltb (length bs) 24 long) ∙ t

  pub over_items : 127 < s.items.count → header_answer bs ≡ over_limit
  over_items h = past_length (fails_here over_limit _ (lt-ltb 127 (item_count bs) (rw e at h)))

  module _ (items : s.items.count ≤ 127) where
    past_items : {n : ℕ} → first_failing (drop 2 (header_checks bs)) ≡ n → header_answer bs ≡ n
    past_items t = past_length (fails_later over_limit _ (le-ltb 127 (item_count bs) (rw e at items)) ∙ t)

    pub over_predicates : 256 < s.predicates.count → header_answer bs ≡ over_limit
    over_predicates h = past_items (fails_here over_limit _ (lt-ltb 256 (predicate_count bs) (rw e at h)))

    module _ (predicates : s.predicates.count ≤ 256) where
      past_predicates : {n : ℕ} → first_failing (drop 3 (header_checks bs)) ≡ n → header_answer bs ≡ n
      past_predicates t = past_items (fails_later over_limit _ (le-ltb 256 (predicate_count bs) (rw e at predicates)) ∙ t)

      pub over_columns : 4096 < s.columns.count → header_answer bs ≡ over_limit
      over_columns h = past_predicates (fails_here over_limit _ (lt-ltb 4096 (column_count bs) (rw e at h)))

      module _ (columns : s.columns.count ≤ 4096) where
        past_columns : {n : ℕ} → first_failing (drop 4 (header_checks bs)) ≡ n → header_answer bs ≡ n
        past_columns t = past_predicates (fails_later over_limit _ (le-ltb 4096 (column_count bs) (rw e at columns)) ∙ t)

        pub items_misplaced : (s.items.offset ≡ 24 → ⊥) → header_answer bs ≡ misplaced
        items_misplaced h = past_columns (fails_here misplaced _ (differ (rw e at h)))

        module _ (items_at : s.items.offset ≡ 24) where
          past_items_at : {n : ℕ} → first_failing (drop 5 (header_checks bs)) ≡ n → header_answer bs ≡ n
          past_items_at t = past_columns (fails_later misplaced _ (agree (rw e at items_at)) ∙ t)

          pub predicates_misplaced : (s.predicates.offset ≡ s.items.offset + 16 * s.items.count → ⊥) → header_answer bs ≡ misplaced
          predicates_misplaced h = past_items_at (fails_here misplaced _ (differ (rw e at h)))

          module _ (predicates_at : s.predicates.offset ≡ s.items.offset + 16 * s.items.count) where
            past_predicates_at : {n : ℕ} → first_failing (drop 6 (header_checks bs)) ≡ n → header_answer bs ≡ n
            past_predicates_at t = past_items_at (fails_later misplaced _ (agree (rw e at predicates_at)) ∙ t)

            pub columns_misplaced : (s.columns.offset ≡ s.predicates.offset + 12 * s.predicates.count → ⊥) → header_answer bs ≡ misplaced
            columns_misplaced h = past_predicates_at (fails_here misplaced _ (differ (rw e at h)))

            module _ (columns_at_lem : s.columns.offset ≡ s.predicates.offset + 12 * s.predicates.count) where
              past_columns_at : {n : ℕ} → first_failing (drop 7 (header_checks bs)) ≡ n → header_answer bs ≡ n
              past_columns_at t = past_predicates_at (fails_later misplaced _ (agree (rw e at columns_at_lem)) ∙ t)

              pub length-misplaced : (length bs ≡ s.columns.offset + 4 * s.columns.count → ⊥) → header_answer bs ≡ misplaced
              length-misplaced h = past_columns_at (fails_here misplaced _ (differ (rw e at h)))

              pub header_passes : length bs ≡ s.columns.offset + 4 * s.columns.count → header_answer bs ≡ 0
              unfolding first_failing
              header_passes h = past_columns_at (fails_later misplaced [] (agree (rw e at h)))
