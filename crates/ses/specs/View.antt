-- The columns of the leaves so far and of a join, as the leaves' ranges and the sheet have them.
use Rattle.std.specs.Prelude.{List, ℕ, ◌+◌, ◌<◌, ◌≤◌, length, get_or, map}
use Rattle.definition.specs.Lists.{concat_map}
use Rattle.definition.specs.Question.{Range, part, predicate, open_question}
use Rattle.definition.specs.Sheet.{question_of}
use Rattle.sheet.specs.declared.Range as range

-- the columns from `first` on, `count` of them
abbrev pub columns_at : List ℕ → ℕ → ℕ → List ℕ
columns_at sheet first count = part (record { first = first; count = count }) (question_of sheet).columns

-- each leaf's columns, of the leaves' ranges
abbrev pub leaves_of : List ℕ → List range.Range → List (List ℕ)
leaves_of sheet leaves = map (λ (r : range.Range). columns_at sheet r.first r.count) leaves

-- a range that lies in the columns
abbrev pub Fit : List ℕ → ℕ → ℕ → Type 0
Fit sheet first count = first + count ≤ length (question_of sheet).columns

-- range k of the leaves; past their end, one that names nothing
abbrev pub leaf_range : List range.Range → ℕ → range.Range
leaf_range leaves k = get_or leaves k (record { first = 0; count = 0 })

-- the leaves are no more than a set has places for, and each one's range lies in the columns
pub record Fits (sheet : List ℕ) (leaves : List range.Range) : Type 0 where
  pub few : length leaves ≤ 64
  pub inside : (k : ℕ) → k < length leaves → Fit sheet (leaf_range leaves k).first (leaf_range leaves k).count

-- a range that lies in the predicates, and whose predicates' ranges lie in the columns
pub record Named (sheet : List ℕ) (first count : ℕ) : Type 0 where
  pub inside : first + count ≤ length (question_of sheet).predicates
  pub ranges : (p : ℕ) → p < length (question_of sheet).predicates
      → Fit sheet (predicate (question_of sheet) p).range.first (predicate (question_of sheet) p).range.count

-- the columns of the predicates of a range, one predicate after the other
abbrev pub columns_of : List ℕ → Range → List ℕ
columns_of sheet r =
    let q = open_question (question_of sheet) in
    concat_map (λ (p : Range). part p q.columns) (part r q.predicates)
