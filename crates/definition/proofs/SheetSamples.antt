-- Sheets at the edge of each check, given by their words, and their answers, computed. Assumes nothing.
use Rattle.std.specs.Prelude.{◌≡◌, refl, List, [], ◌∷◌, ◌++◌, map, ℕ, ◌/◌, ◌%◌, replicate}
use Rattle.definition.specs.Answers.{truncated, over_limit, misplaced, unknown_kind, reserved_not_zero, range_past_table, selectivity_above_one, too_many_leaves, broken_walk}
use Rattle.definition.specs.Lists.{tabulate, concat_map}
use Rattle.definition.specs.Question.{Item, Question, cross_product, leaf, leaf_count, ends_with_one}
use Rattle.definition.specs.Sheet.{word, question_of, first_failing, question_answer, sheet_answer}

record Sample : Type 0 where
  words : List ℕ
  answer : ℕ

abbrev gives : List ℕ → ℕ → Sample
gives ws n = record { words = ws; answer = n }

abbrev bytes : List ℕ → List ℕ
bytes ws = concat_map (λ (w : ℕ). w % 256 ∷ w / 256 % 256 ∷ w / 65536 % 256 ∷ w / 16777216 % 256 ∷ []) ws

abbrev bare : ℕ → Item
bare kind = record { kind = kind; rows = 0; range = record { first = 0; count = 0 } }

-- leaves without rows and columns, then cross products
abbrev leaves_and_joins : ℕ → ℕ → Question
leaves_and_joins m n = record { items = replicate m (bare leaf) ++ replicate n (bare cross_product); predicates = []; columns = [] }

-- one item, one predicate that nothing is wrong with, two columns
abbrev one_item : ℕ → ℕ → ℕ → ℕ → List ℕ
one_item kind rows first count = 1 ∷ 24 ∷ 1 ∷ 40 ∷ 2 ∷ 52 ∷ kind ∷ rows ∷ first ∷ count ∷ 1 ∷ 0 ∷ 2 ∷ 7 ∷ 8 ∷ []

-- no items, one predicate, two columns
abbrev one_predicate : ℕ → ℕ → ℕ → List ℕ
one_predicate selectivity first count = 0 ∷ 24 ∷ 1 ∷ 24 ∷ 2 ∷ 36 ∷ selectivity ∷ first ∷ count ∷ 7 ∷ 8 ∷ []

unfoldable samples : List Sample
samples =
    -- document 01's sheet A
    gives (5 ∷ 24 ∷ 2 ∷ 104 ∷ 4 ∷ 128 ∷ 9 ∷ 4 ∷ 0 ∷ 1 ∷ 9 ∷ 8 ∷ 1 ∷ 2 ∷ 0 ∷ 0 ∷ 0 ∷ 1 ∷ 9 ∷ 16 ∷ 3 ∷ 1 ∷ 0 ∷ 0 ∷ 1 ∷ 1 ∷ 32768 ∷ 0 ∷ 2 ∷ 16384 ∷ 2 ∷ 2 ∷ 1 ∷ 2 ∷ 3 ∷ 4 ∷ []) 0
    -- lengths and counts
    ∷ gives [] truncated
    ∷ gives (0 ∷ 24 ∷ 0 ∷ 24 ∷ 0 ∷ []) truncated
    ∷ gives (0 ∷ 24 ∷ 0 ∷ 24 ∷ 0 ∷ 24 ∷ []) 0
    ∷ gives (127 ∷ 24 ∷ 0 ∷ 24 ∷ 0 ∷ 24 ∷ []) misplaced
    ∷ gives (128 ∷ 24 ∷ 0 ∷ 24 ∷ 0 ∷ 24 ∷ []) over_limit
    ∷ gives (0 ∷ 24 ∷ 256 ∷ 24 ∷ 0 ∷ 24 ∷ []) misplaced
    ∷ gives (0 ∷ 24 ∷ 257 ∷ 24 ∷ 0 ∷ 24 ∷ []) over_limit
    ∷ gives (0 ∷ 24 ∷ 0 ∷ 24 ∷ 4096 ∷ 24 ∷ []) misplaced
    ∷ gives (0 ∷ 24 ∷ 0 ∷ 24 ∷ 4097 ∷ 24 ∷ []) over_limit
    ∷ gives (0 ∷ 25 ∷ 0 ∷ 24 ∷ 4097 ∷ 24 ∷ []) over_limit
    -- offsets
    ∷ gives (0 ∷ 25 ∷ 0 ∷ 25 ∷ 0 ∷ 25 ∷ []) misplaced
    ∷ gives (0 ∷ 24 ∷ 0 ∷ 25 ∷ 0 ∷ 25 ∷ []) misplaced
    ∷ gives (0 ∷ 24 ∷ 0 ∷ 24 ∷ 0 ∷ 25 ∷ []) misplaced
    ∷ gives (0 ∷ 24 ∷ 0 ∷ 24 ∷ 0 ∷ 24 ∷ 0 ∷ []) misplaced
    -- kinds, words that should be 0, ranges
    ∷ gives (one_item 9 5 0 2) 0
    ∷ gives (one_item 9 5 0 3) range_past_table
    ∷ gives (one_item 9 5 2 0) 0
    ∷ gives (one_item 9 5 3 0) range_past_table
    ∷ gives (one_item 9 5 4294967295 2) range_past_table
    ∷ gives (one_item 10 5 9 9) unknown_kind
    ∷ gives (one_item 8 0 9 9) reserved_not_zero
    ∷ gives (one_item 8 0 0 0) broken_walk
    ∷ gives (one_item 0 1 0 1) reserved_not_zero
    ∷ gives (one_item 0 0 0 1) broken_walk
    ∷ gives (one_item 0 0 1 1) range_past_table
    ∷ gives (2 ∷ 24 ∷ 0 ∷ 56 ∷ 0 ∷ 56 ∷ 9 ∷ 0 ∷ 1 ∷ 0 ∷ 10 ∷ 0 ∷ 0 ∷ 0 ∷ []) range_past_table
    -- selectivities and a predicate's columns; items come before predicates, predicates before the walk
    ∷ gives (1 ∷ 24 ∷ 1 ∷ 40 ∷ 0 ∷ 52 ∷ 9 ∷ 0 ∷ 1 ∷ 0 ∷ 65537 ∷ 0 ∷ 0 ∷ []) range_past_table
    ∷ gives (1 ∷ 24 ∷ 1 ∷ 40 ∷ 0 ∷ 52 ∷ 0 ∷ 0 ∷ 0 ∷ 0 ∷ 65537 ∷ 0 ∷ 0 ∷ []) selectivity_above_one
    ∷ gives (one_predicate 65536 0 2) 0
    ∷ gives (one_predicate 65537 1 2) selectivity_above_one
    ∷ gives (one_predicate 65536 1 2) range_past_table
    ∷ []

-- each sheet has the answer written beside it
all_samples : map (λ (s : Sample). sheet_answer (bytes s.words)) samples ≡ map (λ (s : Sample). s.answer) samples
unfolding samples sheet_answer question_answer first_failing question_of tabulate concat_map word leaf_count ends_with_one
all_samples = refl

-- at most 64 leaves, and one thing remains at the end
walks :
    map question_answer (leaves_and_joins 64 63 ∷ leaves_and_joins 64 0 ∷ leaves_and_joins 65 0 ∷ leaves_and_joins 0 0 ∷ leaves_and_joins 1 0 ∷ leaves_and_joins 1 1 ∷ leaves_and_joins 2 2 ∷ [])
    ≡ 0 ∷ broken_walk ∷ too_many_leaves ∷ 0 ∷ 0 ∷ broken_walk ∷ broken_walk ∷ []
unfolding question_answer first_failing concat_map leaf_count ends_with_one
walks = refl
