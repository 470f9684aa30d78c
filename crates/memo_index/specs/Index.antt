-- The memo's index, by the rule of request 2026-14: "1,024 places, each a memo position plus one, or 0 if vacant". It is over the memo's first 512
-- entries; those past them are found by a scan. A list of any other length is no index. In each definition `sets` are the memo's sets, in its order.
-- Definitions only.
use Rattle.std.specs.Prelude.{◌≡◌, List, [], ◌∷◌, true, false, ℕ, zero, suc, ◌+◌, ◌-◌, ◌%◌, ◌<◌, ◌≤◌, length, get_or, set, replicate, eqb, ltb, Option}
use Rattle.std.specs.Prelude.{None, Some}

-- ---- where a set is looked for

-- "the set's remainder by 1,021"
abbrev pub home : ℕ → ℕ
home s = s % 1021

-- "upward .. and round at the end": the place after p
unfoldable pub next : ℕ → ℕ
next p = (p + 1) % 1024

-- the first vacant one of k places from p on
unfoldable pub free : ℕ → List ℕ → ℕ → ℕ
free zero index p = p
free (suc k) index p = elim (eqb (get_or index p 0) 0) [ true ↦ p | false ↦ free k index (next p) ]

-- the position of s, by the entries at k places from p on, up to the first vacant one
unfoldable pub probe : ℕ → List ℕ → List ℕ → ℕ → ℕ → Option ℕ
probe zero index sets s p = None
probe (suc k) index sets s p =
    elim (eqb (get_or index p 0) 0) [
      | true ↦ None
      | false ↦ elim (eqb (get_or sets (get_or index p 0 - 1) 0) s) [ true ↦ Some (get_or index p 0 - 1) | false ↦ probe k index sets s (next p) ]
    ]

-- the position of s, by the entries from its home on
unfoldable pub lookup : List ℕ → List ℕ → ℕ → Option ℕ
lookup index sets s = probe 1024 index sets s (home s)

-- ---- a new entry

-- "a new entry takes the first vacant place": s, which stands at position i, that from its home on
unfoldable pub entered : List ℕ → ℕ → ℕ → List ℕ
entered index s i = set index (free 1024 index (home s)) (suc i)

-- what a memo entry more, s at position i, makes of a list that is an index if it has 1,024 places: one of the first 512 is entered
unfoldable pub noted : List ℕ → ℕ → ℕ → List ℕ
noted index s i = elim (eqb (length index) 1024) [ true ↦ elim (ltb i 512) [ true ↦ entered index s i | false ↦ index ] | false ↦ index ]

-- the index of the first n sets: each of them entered, in the memo's order, into one that is vacant
unfoldable pub index_of : List ℕ → ℕ → List ℕ
index_of sets zero = replicate 1024 0
index_of sets (suc n) = noted (index_of sets n) (get_or sets n 0) n

-- ---- what the functions ask for

-- how many places are vacant
unfoldable pub vacant : List ℕ → ℕ
vacant [] = 0
vacant (x ∷ l) = elim (eqb x 0) [ true ↦ suc (vacant l) | false ↦ vacant l ]

-- of a search through an index: it ends, and each entry is a position of the memo
pub record Searched (index sets : List ℕ) : Type 0 where
  pub sized : length index ≡ 1024
  pub ends : 0 < vacant index
  pub entries : (p : ℕ) → get_or index p 0 ≤ length sets

-- of a new entry at position i: a place for it
abbrev pub Room : List ℕ → ℕ → Type 0
Room index i = length index ≡ 1024 → i < 512 → 0 < vacant index

-- no two of the first n sets are the same
abbrev pub Distinct : List ℕ → ℕ → Type 0
Distinct sets n = (i j : ℕ) → i < j → j < n → get_or sets i 0 ≡ get_or sets j 0 → ⊥

-- what the enumeration keeps from call to call: the memo's n sets are distinct, and a list of 1,024 places is their index
pub record Kept (index sets : List ℕ) (n : ℕ) : Type 0 where
  pub distinct : Distinct sets n
  pub within : n ≤ length sets
  pub made : length index ≡ 1024 → index ≡ index_of sets n
