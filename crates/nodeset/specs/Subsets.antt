-- The subsets of a set, and its leaves. Document 01: "Neighbours come highest first, subsets in rising order."
use Rattle.std.specs.Prelude.{ℕ, zero, suc, ◌+◌, ◌-◌, ◌*◌, ◌/◌, ◌%◌, ◌^◌, List, [], ◌∷◌, bit_and}
use Rattle.nodeset.specs.Sets.{bit}

-- each set t of the list with one digit more below its own: 0 alone, or 0 and then 1
unfoldable pub doubled : ℕ → List ℕ → List ℕ
doubled zero [] = []
doubled zero (t ∷ ts) = (t * 2) ∷ doubled zero ts
doubled (suc b) [] = []
doubled (suc b) (t ∷ ts) = (t * 2) ∷ ((t * 2 + 1) ∷ doubled (suc b) ts)

-- the subsets of s, of d digits, in rising order: those of the digits above the lowest, each without and then with the lowest if s has it
unfoldable pub subsets_of : ℕ → ℕ → List ℕ
subsets_of zero s = 0 ∷ []
subsets_of (suc d) zero = 0 ∷ []
subsets_of (suc d) (suc s) = doubled (suc s % 2) (subsets_of d (suc s / 2))

abbrev pub rest : List ℕ → List ℕ
rest [] = []
rest (t ∷ ts) = ts

-- all but the empty set, which comes first
unfoldable pub non_empty_subsets : ℕ → List ℕ
non_empty_subsets s = rest (subsets_of 64 s)

-- the leaves of s below d, each as a set, highest first
unfoldable pub singletons_below : ℕ → ℕ → List ℕ
singletons_below zero s = []
singletons_below (suc d) s = elim (bit s d) [ zero ↦ singletons_below d s | suc _ ↦ 2 ^ d ∷ singletons_below d s ]

unfoldable pub singletons : ℕ → List ℕ
singletons s = singletons_below 64 s

-- the subset of s after t, in the arithmetic of 64-bit words: 0 after s itself
abbrev pub next_subset : ℕ → ℕ → ℕ
next_subset s t = bit_and ((t + (2 ^ 64 - s)) % 2 ^ 64) s
