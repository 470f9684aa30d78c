-- What the crate's types say, in the definition's numbers.
use Rattle.std.specs.Prelude.{ℕ, true, false, eqb, Result, Ok, Err}
use Rattle.definition.specs.Answers.{truncated, over_limit, misplaced, unknown_kind, reserved_not_zero}
use Rattle.definition.specs.Answers.{range_past_table, selectivity_above_one, too_many_leaves, broken_walk}
use Rattle.definition.specs.Question.{leaf}
use Rattle.sheet.specs.declared.Sections.{Sections}
use Rattle.sheet_check.specs.declared.Fault.{Fault}
use Rattle.sheet_check.specs.declared.Fault.TheVariants.{Truncated, OverLimit, Misplaced, UnknownKind, ReservedNotZero}
use Rattle.sheet_check.specs.declared.Fault.TheVariants.{RangePastTable, SelectivityAboveOne, TooManyLeaves, BrokenWalk}

abbrev pub number_of : Fault → ℕ
number_of Truncated = truncated
number_of OverLimit = over_limit
number_of Misplaced = misplaced
number_of UnknownKind = unknown_kind
number_of ReservedNotZero = reserved_not_zero
number_of RangePastTable = range_past_table
number_of SelectivityAboveOne = selectivity_above_one
number_of TooManyLeaves = too_many_leaves
number_of BrokenWalk = broken_walk

-- the check, or a part of it: 0 where it passes
abbrev pub answer_number : {A : Type 0} → Result A Fault → ℕ
answer_number (Ok _) = 0
answer_number (Err f) = number_of f

-- the count of the table that an item's range is in: a leaf's are the columns, a join's the predicates
abbrev pub table_count : Sections → ℕ → ℕ
table_count s kind = elim (eqb kind leaf) [ true ↦ s.columns.count | false ↦ s.predicates.count ]
