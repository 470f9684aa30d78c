-- Sets of leaves. Document 01: "A set is 64 bits, bit i for leaf i." A set is a number below 2 ^ 64; `bit_and` and `bit_or` of
-- lib.Bits are intersection and union.
use Rattle.std.specs.Prelude.{◌≡◌, ℕ, ◌+◌, ◌-◌, ◌/◌, ◌%◌, ◌^◌, ◌≤◌, min, Bool, true, false, ◌==◌, bit_and, nat_lt}
use Rattle.std.specs.Int.Count.{count_leading_zeros, count_trailing_zeros}

-- bit i of s: 1 where leaf i is in s, and 0 otherwise
unfoldable pub bit : ℕ → ℕ → ℕ
bit s i = s / 2 ^ i % 2

-- every leaf of a is in s
abbrev pub within : ℕ → ℕ → Bool
within a s = bit_and a s == a

-- no leaf is in both
abbrev pub disjoint : ℕ → ℕ → Bool
disjoint a b = bit_and a b == 0

-- the leaves of a that are not in b
abbrev pub difference : ℕ → ℕ → ℕ
difference a b = bit_and a (2 ^ 64 - 1 - b)

-- one leaf; a number of 64 or more gives the empty set
unfoldable pub singleton : ℕ → ℕ
singleton i = elim (nat_lt i 64) [ true ↦ 2 ^ i | false ↦ 0 ]

-- "`nodeset_min` uses the trailing zeros count, `emit_csg` the leading zeros; the empty set's lowest leaf is 64"
unfoldable pub lowest : ℕ → ℕ
lowest s = count_trailing_zeros 64 s

unfoldable pub highest : ℕ → ℕ
highest s = elim (s == 0) [ true ↦ 64 | false ↦ 63 - count_leading_zeros 64 s ]

-- all leaves below n; there are 64
unfoldable pub all_below : ℕ → ℕ
all_below n = 2 ^ min n 64 - 1

-- all leaves up to the lowest of s
unfoldable pub up_to_lowest : ℕ → ℕ
up_to_lowest s = all_below (lowest s + 1)

-- the same of single leaves: no leaf in common; every leaf of a in b
abbrev pub Apart : ℕ → ℕ → Type 0
Apart a b = (i : ℕ) → min (bit a i) (bit b i) ≡ 0

abbrev pub In : ℕ → ℕ → Type 0
In a b = (i : ℕ) → bit a i ≤ bit b i
