-- The front of a list. Definitions only.
use Rattle.std.specs.Prelude.{ℕ, true, false, List, Option, None, Some, leb, length, take}
use Rattle.std.specs.Int.{w32, from_le_bytes}

-- the first n elements, and none where there are fewer
unfoldable pub front_of : ℕ → List ℕ → Option (List ℕ)
front_of n bs = elim (leb n (length bs)) [ true ↦ Some (take n bs) | false ↦ None ]

-- the word of the first four bytes, the lowest first, and 0 where there are fewer
unfoldable pub first_word : List ℕ → ℕ
first_word bs = elim (leb 4 (length bs)) [ true ↦ from_le_bytes w32 (take 4 bs) | false ↦ 0 ]
