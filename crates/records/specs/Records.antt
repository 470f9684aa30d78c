-- A record's numbers and parts, from its bytes (oracle/README.md). Definitions only.
use Rattle.std.specs.Prelude.{ℕ, zero, suc, ◌+◌, ◌-◌, ◌*◌, ◌/◌, Bool, true, false, not, List, [], ◌∷◌, eqb, leb, min, length, take, drop}
use Rattle.definition.specs.Sheet.{word}

-- the word at byte `at`, and 0 past the end
unfoldable pub word_at : List ℕ → ℕ → ℕ
word_at bs at = elim (leb (at + 4) (length bs)) [ true ↦ word bs at | false ↦ 0 ]

-- the long at byte `at`, its low word first, and 0 past the end
unfoldable pub long_at : List ℕ → ℕ → ℕ
long_at bs at = elim (leb (at + 8) (length bs)) [ true ↦ word bs at + 4294967296 * word bs (at + 4) | false ↦ 0 ]

-- a record without its first word begins with the sheet's length: the sheet, and no bytes where it is not whole
unfoldable pub sheet_of : List ℕ → List ℕ
sheet_of bs = elim (leb (4 + word_at bs 0) (length bs)) [ true ↦ take (word_at bs 0) (drop 4 bs) | false ↦ [] ]

-- what follows the sheet, which is filled up to whole words
unfoldable pub after_sheet : List ℕ → List ℕ
after_sheet bs = drop (4 + (word_at bs 0 + 3) / 4 * 4) bs

-- ---- what is read of the stored bytes

-- the bytes begin with one of the line, which ends with a byte 10 or with the input
unfoldable pub line_goes_on : List ℕ → Bool
line_goes_on [] = false
line_goes_on (b ∷ bs) = not (eqb b 10)

-- what follows the line, of which at most so many bytes are read
unfoldable pub after_line : ℕ → List ℕ → List ℕ
after_line zero bs = bs
after_line (suc n) bs = elim (line_goes_on bs) [ true ↦ after_line n (drop 1 bs) | false ↦ drop 1 bs ]

-- the record that stands first, without its first word, which is its whole length; no bytes where it is not whole or longer than the room
unfoldable pub record_in : ℕ → List ℕ → List ℕ
record_in room bs = elim (leb (word_at bs 0) (min (room + 4) (length bs))) [ true ↦ take (word_at bs 0 - 4) (drop 4 bs) | false ↦ [] ]
