-- The declared enums by document 01's numbers, and a table's rows of bits as the cells that they hold.
use Rattle.std.specs.Prelude.{◌≡◌, ℕ, zero, suc, ◌<◌, Bool, List, [], get_or, eqb, Result, Ok, Err, MatchResult}
use Rattle.nodeset.specs.Sets.{bit}
use Rattle.definition.specs.Answers.{unknown_kind}
use Rattle.definition.specs.Tables.{Asked, cell, refused, asked, assoc, l_asscom, r_asscom}
use Rattle.conflict.specs.declared.HyperedgeJoinType.{HyperedgeJoinType}
use Rattle.conflict.specs.declared.HyperedgeJoinType.TheVariants.{Inner, LeftSemi, LeftOuter, LeftOuterNullRejectingLeft, FullOuter}
use Rattle.conflict.specs.declared.HyperedgeJoinType.TheVariants.{FullOuterNullRejectingLeft, FullOuterNullRejectingRight, FullOuterNullRejectingBoth}
use Rattle.conflict.specs.declared.UnknownType.{UnknownType}
use Rattle.conflict.specs.declared.Table.{Table}
use Rattle.conflict.specs.declared.Table.TheVariants.{Assoc, LAsscom, RAsscom}

-- "Types: 0 Inner, 1 LeftSemi, 2 LeftOuter, 3 LeftOuterNullRejectingLeft, 4 FullOuter, 5, 6, 7 FullOuter rejecting left, right, both."
abbrev pub type_number : HyperedgeJoinType → ℕ
type_number Inner = 0
type_number LeftSemi = 1
type_number LeftOuter = 2
type_number LeftOuterNullRejectingLeft = 3
type_number FullOuter = 4
type_number FullOuterNullRejectingLeft = 5
type_number FullOuterNullRejectingRight = 6
type_number FullOuterNullRejectingBoth = 7

-- the result is the type with this number, or the number is above every type's
abbrev pub Numbered : ℕ → Result HyperedgeJoinType UnknownType → Type 0
Numbered n r = MatchResult r (λ t. type_number t ≡ n) (λ e. 7 < n)

-- what a table's answer is in document 01: its cell, or answer 4
abbrev pub asked_of : Result Bool UnknownType → Asked
asked_of (Ok b) = cell b
asked_of (Err e) = refused unknown_kind

-- a table's place
abbrev pub place : Table → ℕ
place Assoc = 0
place LAsscom = 1
place RAsscom = 2

-- Document 02, 2026-12: "bit j of row i for the pair i, j". t: the table's place; a bit of 1 is a yes cell
abbrev pub cells : List (List ℕ) → ℕ → ℕ → ℕ → Bool
cells tables t i j = eqb (bit (get_or (get_or tables t []) i 0) j) 1

-- x is what table t says of a and b
pub record Says (tables : List (List ℕ)) (t a b : ℕ) (x : Asked) : Type 0 where
  pub is : x ≡ asked (cells tables t) a b

-- document 01's tables by place: 0 assoc, 1 l_asscom, 2 r_asscom; no greater place is asked
abbrev pub table_at : ℕ → ℕ → ℕ → Bool
table_at zero = assoc
table_at (suc zero) = l_asscom
table_at (suc (suc t)) = r_asscom
