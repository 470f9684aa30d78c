-- A lent list beside the values that a record has for it. Definitions only.
use Rattle.std.specs.Prelude.{ℕ, zero, suc, ◌+◌, Bool, true, false, ◌&&◌, List, [], ◌∷◌, eqb, Float, drop}
use Rattle.std.specs.List.{list_all}
use Rattle.std.specs.Float.{binary64}
use Rattle.std.specs.Float.Ieee.{to_bits}
use Rattle.records.specs.Records.{word_at, long_at}

-- ---- for any type of element

-- the list begins with n values, of which each passes the test at its place: the first at `at`, one each step bytes
unfoldable pub begins : {A : Type 0} → (ℕ → A → Bool) → ℕ → ℕ → ℕ → List A → Bool
begins is at step zero xs = true
begins is at step (suc n) [] = false
begins is at step (suc n) (x ∷ xs) = is at x && begins is (at + step) step n xs

-- every value of the list passes the test
abbrev pub every : {A : Type 0} → (A → Bool) → List A → Bool
every p xs = list_all p xs

-- all tests hold
abbrev pub all_of : List Bool → Bool
all_of bs = every (λ b. b) bs

-- the list has the n recorded values from byte `at` on, one each step bytes, and the pattern behind them
abbrev pub listed : {A : Type 0} → (ℕ → A → Bool) → (A → Bool) → ℕ → ℕ → ℕ → List A → Bool
listed is blank at step n xs = begins is at step n xs && every blank (drop n xs)

-- ---- the three types: the test against the record bs, and against the pattern

abbrev pub is_long : List ℕ → ℕ → ℕ → Bool
is_long bs at x = eqb x (long_at bs at)

abbrev pub blank_long : ℕ → Bool
blank_long x = eqb x 0xa5a5_a5a5_a5a5_a5a5

abbrev pub is_word : List ℕ → ℕ → ℕ → Bool
is_word bs at x = eqb x (word_at bs at)

abbrev pub blank_word : ℕ → Bool
blank_word x = eqb x 0xa5a5_a5a5

-- by the number's bits; those of a NaN, which no record has, are those of one
abbrev pub is_number : List ℕ → ℕ → Float → Bool
is_number bs at x = eqb (to_bits binary64 x) (long_at bs at)

-- the pattern is -1.5
abbrev pub blank_number : Float → Bool
blank_number x = eqb (to_bits binary64 x) 0xbff8_0000_0000_0000

abbrev pub longs_listed : List ℕ → ℕ → ℕ → ℕ → List ℕ → Bool
longs_listed bs at step n xs = listed (is_long bs) blank_long at step n xs

abbrev pub words_listed : List ℕ → ℕ → ℕ → ℕ → List ℕ → Bool
words_listed bs at step n xs = listed (is_word bs) blank_word at step n xs

abbrev pub numbers_listed : List ℕ → ℕ → ℕ → ℕ → List Float → Bool
numbers_listed bs at step n xs = listed (is_number bs) blank_number at step n xs
