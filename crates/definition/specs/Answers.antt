-- Document 01, 'What the mill says back': the answers' numbers, each under the mill's word for it.
use Rattle.std.specs.Prelude.{ℕ}

-- poured: search over, the set of all leaves has a plan
abbrev pub planned : ℕ
planned = 0

-- torn: under 24 bytes
abbrev pub truncated : ℕ
truncated = 1

-- overfull: a count above its limit
abbrev pub over_limit : ℕ
over_limit = 2

-- misplaced: a wrong offset or length
abbrev pub misplaced : ℕ
misplaced = 3

-- stranger: kind above 9; a type above 7 asked of a conflict table
abbrev pub unknown_kind : ℕ
unknown_kind = 4

-- smudge: a word that should be 0 isn't
abbrev pub reserved_not_zero : ℕ
reserved_not_zero = 5

-- stray: a range past its table
abbrev pub range_past_table : ℕ
range_past_table = 6

-- overpour: share above 65,536
abbrev pub selectivity_above_one : ℕ
selectivity_above_one = 7

-- crowded: a 65th leaf
abbrev pub too_many_leaves : ℕ
too_many_leaves = 8

-- broken row: a join finds fewer than two, or a non-empty walk doesn't end with one
abbrev pub broken_walk : ℕ
broken_walk = 9

-- tangle: more than 256 edges
abbrev pub too_many_edges : ℕ
too_many_edges = 10

-- small crate: edge store below the edge count, or plan or memo store below the leaf count
abbrev pub store_too_small : ℕ
store_too_small = 11

-- full hopper: a trial is due and the plan store is full
abbrev pub plans_full : ℕ
plans_full = 12

-- full shelf: a trial has a new set and the memo is full
abbrev pub memo_full : ℕ
memo_full = 13

-- spent shift: the next look would pass the limit
abbrev pub visits_spent : ℕ
visits_spent = 14

-- dry run: search over, the set of all leaves has no plan, or there are no leaves
abbrev pub no_plan : ℕ
no_plan = 15
