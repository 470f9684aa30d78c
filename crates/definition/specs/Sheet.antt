-- Document 01, 'The question sheet': its bytes, and what the sheet check asks of them.
use Rattle.std.specs.Prelude.{ℕ, zero, suc, ◌+◌, ◌*◌, ◌<◌, Bool, true, false, ◌&&◌, ◌||◌, not, List, [], ◌∷◌, ◌++◌, length, get_or, eqb, ltb}
use Rattle.definition.specs.Answers.{truncated, over_limit, misplaced, unknown_kind, reserved_not_zero, range_past_table, selectivity_above_one, too_many_leaves, broken_walk}
use Rattle.definition.specs.Lists.{tabulate, concat_map}
use Rattle.definition.specs.Question.{Range, fits, Item, Predicate, Question, cross_product, leaf, open_question, leaf_count, is_walk}

-- ---- bytes

-- each number of a list is a byte
abbrev pub Bytes : List ℕ → Type 0
Bytes bs = (i : ℕ) → get_or bs i 0 < 256

-- "Words are 32-bit, little-endian." The word at byte `at`
unfoldable pub word : List ℕ → ℕ → ℕ
word bs at = get_or bs at 0 + 256 * get_or bs (at + 1) 0 + 65536 * get_or bs (at + 2) 0 + 16777216 * get_or bs (at + 3) 0

-- "Header, 6 words: item count, item offset, predicate count, predicate offset, column count, column offset."
abbrev pub item_count : List ℕ → ℕ
item_count bs = word bs 0

abbrev pub item_offset : List ℕ → ℕ
item_offset bs = word bs 4

abbrev pub predicate_count : List ℕ → ℕ
predicate_count bs = word bs 8

abbrev pub predicate_offset : List ℕ → ℕ
predicate_offset bs = word bs 12

abbrev pub column_count : List ℕ → ℕ
column_count bs = word bs 16

abbrev pub column_offset : List ℕ → ℕ
column_offset bs = word bs 20

abbrev pub range : List ℕ → ℕ → Range
range bs at = record { first = word bs at; count = word bs (at + 4) }

-- "Item, 4 words." Where item i starts, and where its rows stand
abbrev pub item_start : List ℕ → ℕ → ℕ
item_start bs i = item_offset bs + 16 * i

abbrev pub rows_at : List ℕ → ℕ → ℕ
rows_at bs i = item_start bs i + 4

abbrev pub item_at : List ℕ → ℕ → Item
item_at bs i = record { kind = word bs (item_start bs i); rows = word bs (rows_at bs i); range = range bs (item_start bs i + 8) }

-- "Predicate, 3 words." Where the selectivity of predicate i stands
abbrev pub selectivity_at : List ℕ → ℕ → ℕ
selectivity_at bs i = predicate_offset bs + 12 * i

abbrev pub predicate_at : List ℕ → ℕ → Predicate
predicate_at bs i = record { selectivity = word bs (selectivity_at bs i); range = range bs (selectivity_at bs i + 4) }

-- "Column, 1 word." Column i
abbrev pub column_at : List ℕ → ℕ → ℕ
column_at bs i = word bs (column_offset bs + 4 * i)

unfoldable pub question_of : List ℕ → Question
question_of bs =
    record {
      items = tabulate (item_count bs) (item_at bs);
      predicates = tabulate (predicate_count bs) (predicate_at bs);
      columns = tabulate (column_count bs) (column_at bs);
    }

-- ---- checks

-- a check, and the answer where it fails
pub record Check : Type 0 where
  pub fails : Bool
  pub answer : ℕ

abbrev pub check : Bool → ℕ → Check
check b n = record { fails = b; answer = n }

-- the answer of the first check that fails, and 0 where none does
unfoldable pub first_failing : List Check → ℕ
first_failing [] = 0
first_failing (c ∷ cs) = elim c.fails [ true ↦ c.answer | false ↦ first_failing cs ]

-- 1; then 2 for each count; then 3: "Offsets are in bytes: the first is 24, each section follows the one before, and the sheet ends with the
-- last. At most 127 items, 256 predicates, 4,096 columns"
abbrev pub header_checks : List ℕ → List Check
header_checks bs =
    check (ltb (length bs) 24) truncated
    ∷ check (ltb 127 (item_count bs)) over_limit
    ∷ check (ltb 256 (predicate_count bs)) over_limit
    ∷ check (ltb 4096 (column_count bs)) over_limit
    ∷ check (not (eqb (item_offset bs) 24)) misplaced
    ∷ check (not (eqb (predicate_offset bs) (item_offset bs + 16 * item_count bs))) misplaced
    ∷ check (not (eqb (column_offset bs) (predicate_offset bs + 12 * predicate_count bs))) misplaced
    ∷ check (not (eqb (length bs) (column_offset bs + 4 * column_count bs))) misplaced
    ∷ []

-- a word that should be 0 isn't: of a join the first after its kind, of a cross product any of the three
abbrev pub reserved_is_set : Item → Bool
reserved_is_set i =
    not (eqb i.kind leaf) && not (eqb i.rows 0)
    || eqb i.kind cross_product && (not (eqb i.range.first 0) || not (eqb i.range.count 0))

-- a leaf's range is one of columns, a join's one of predicates
abbrev pub table_length : Question → Item → ℕ
table_length q i = elim (eqb i.kind leaf) [ true ↦ length q.columns | false ↦ length q.predicates ]

-- "items in order (4, 5, 6)"
abbrev pub item_checks : Question → Item → List Check
item_checks q i =
    check (ltb leaf i.kind) unknown_kind
    ∷ check (reserved_is_set i) reserved_not_zero
    ∷ check (not (fits i.range (table_length q i))) range_past_table
    ∷ []

-- "predicates in order (7, 6)"
abbrev pub predicate_checks : Question → Predicate → List Check
predicate_checks q p =
    check (ltb 65536 p.selectivity) selectivity_above_one
    ∷ check (not (fits p.range (length q.columns))) range_past_table
    ∷ []

-- "then 8", over the whole walk, then 9
abbrev pub walk_checks : Question → List Check
walk_checks q =
    check (ltb 64 (leaf_count (open_question q).items)) too_many_leaves
    ∷ check (not (is_walk (open_question q).items)) broken_walk
    ∷ []

unfoldable pub question_answer : Question → ℕ
question_answer q =
    first_failing (concat_map (item_checks q) q.items ++ (concat_map (predicate_checks q) q.predicates ++ walk_checks q))

-- the sheet check's answer: 1 to 9, or 0 where the sheet passes
unfoldable pub sheet_answer : List ℕ → ℕ
sheet_answer bs = elim (first_failing (header_checks bs)) [ zero ↦ question_answer (question_of bs) | suc n ↦ suc n ]
