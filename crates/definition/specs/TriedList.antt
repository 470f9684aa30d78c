-- Document 01, 'The tried list': the bytes that the program prints. Definitions only.
use Rattle.std.specs.Prelude.{ℕ, zero, suc, ◌+◌, ◌/◌, ◌%◌, true, false, List, [], ◌∷◌, ◌++◌, length, ltb}
use Rattle.definition.specs.Search.{Pair}

-- Request 2026-06: "The tried list program counted on the old default, so it now states 1,000,000 and prints what it printed."
abbrev pub list_limit : ℕ
list_limit = 1000000

abbrev pub space : ℕ
space = 32

abbrev pub newline : ℕ
newline = 10

-- "Numbers are decimal.": the digits of n, without leading zeros. k: how many there may be
unfoldable pub decimal_digits : ℕ → ℕ → List ℕ
decimal_digits zero n = []
decimal_digits (suc k) n = elim (ltb n 10) [ true ↦ (48 + n) ∷ [] | false ↦ decimal_digits k (n / 10) ++ ((48 + n % 10) ∷ []) ]

unfoldable pub decimal : ℕ → List ℕ
decimal n = decimal_digits (suc n) n

-- "16 lowercase hexadecimal digits": 0 to 9, then a to f
abbrev pub hex_digit : ℕ → ℕ
hex_digit d = elim (ltb d 10) [ true ↦ 48 + d | false ↦ 87 + d ]

-- the last k hexadecimal digits of s
unfoldable pub hex_digits : ℕ → ℕ → List ℕ
hex_digits zero s = []
hex_digits (suc k) s = hex_digits k (s / 16) ++ (hex_digit (s % 16) ∷ [])

abbrev pub hex16 : ℕ → List ℕ
hex16 s = hex_digits 16 s

-- three fields with a space between them, and the line's end
unfoldable pub line : List ℕ → List ℕ → List ℕ → List ℕ
line a b c = a ++ (space ∷ []) ++ b ++ (space ∷ []) ++ c ++ (newline ∷ [])

-- "then per trial its number from 0, left and right set". n: the number of the list's first pair
unfoldable pub tried_lines : ℕ → List Pair → List ℕ
tried_lines n [] = []
tried_lines n (p ∷ ps) = line (decimal n) (hex16 p.left) (hex16 p.right) ++ tried_lines (suc n) ps

-- "answer number, trials, looks; then per trial .."; an answer that writes nothing has no trials and no looks
unfoldable pub tried_list : ℕ → ℕ → List Pair → List ℕ
tried_list answer visits ps = line (decimal answer) (decimal (length ps)) (decimal visits) ++ tried_lines 0 ps
