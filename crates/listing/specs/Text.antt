-- The tried list's text as it lies in a lent list, and the candidates' pairs as they lie in two. Definitions only.
use Rattle.std.specs.Prelude.{◌≡◌, true, false, Option, None, Some, List, ◌++◌, ℕ, zero, suc, ◌+◌, ◌-◌, length, get_or, drop, ltb}
use Rattle.std.proofs.lemmas.List.Edits.{sets}
use Rattle.definition.specs.Lists.{tabulate}
use Rattle.definition.specs.Search.{Pair}
use Rattle.definition.specs.TriedList.{decimal}

-- bytes written from the place `at` on, those past the list's end nowhere; `end` is the place behind them
pub record Puts (bytes before after : List ℕ) (at end : ℕ) : Type 0 where
  pub list : after ≡ sets before at bytes
  pub place : end ≡ at + length bytes

-- the first n pairs of two lists of sets; past a list's end a set is empty
abbrev pub pairs_of : List ℕ → List ℕ → ℕ → List Pair
pairs_of left right n = tabulate n (λ i. record { left = get_or left i 0; right = get_or right i 0 })

-- the text is written if it fits
unfoldable pub answer_for : List ℕ → List ℕ → Option ℕ
answer_for text out = elim (ltb (length out) (length text)) [ true ↦ None | false ↦ Some (length text) ]

unfoldable pub written_in : List ℕ → List ℕ → List ℕ
written_in text out = elim (ltb (length out) (length text)) [ true ↦ out | false ↦ text ++ drop (length text) out ]

-- the lengths of the first line and of the lines of n candidates
abbrev pub head_length : ℕ → ℕ → ℕ → ℕ
head_length answer n visits = length (decimal answer) + length (decimal n) + length (decimal visits) + 3

unfoldable pub lines_length : ℕ → ℕ
lines_length zero = 0
lines_length (suc n) = lines_length n + (length (decimal n) + 35)

-- the sets of the plans that the candidates' fields name on one side: n leaves, m plans
abbrev pub side_sets : List ℕ → List ℕ → ℕ → ℕ → List ℕ
side_sets pset pside n m = tabulate (m - n) (λ i. get_or pset (get_or pside (n + i) 0) 0)
