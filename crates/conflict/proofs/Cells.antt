-- Where one test finds every cell of the three tables of bits equal to document 01's, they say of every pair what document 01's tables say.
-- Assumes nothing.
use mathlib.Core.Path.{◌≡◌, refl, ap, ◌∙◌}
use mathlib.Core.Logic.{◌⊎◌, inl, inr}
use mathlib.Core.Bool.{Bool, true, false, ◌&&◌}
use mathlib.Core.List.{List}
use Prim.Native.Nat.{ℕ, zero, suc, ◌<◌, ◌≤◌}
use native.Mathlib.Nat.{not-suc-le-zero, le_of_suc-le-suc, eq-or-lt_of_le}
use native.Mathlib.Omega.{arith}
use lib.Dec.{T, leb}
use borrow.Author.Tests.{leb-true, le-leb}
use Rattle.definition.specs.Answers.{unknown_kind}
use Rattle.definition.specs.Tables.{Asked, cell, refused, asked}
use Rattle.std.proofs.Common.{lit<, lit≤}
use Rattle.conflict.specs.declared.HyperedgeJoinType.{HyperedgeJoinType}
use Rattle.conflict.specs.declared.HyperedgeJoinType.TheVariants.{Inner, LeftSemi, LeftOuter, LeftOuterNullRejectingLeft, FullOuter}
use Rattle.conflict.specs.declared.HyperedgeJoinType.TheVariants.{FullOuterNullRejectingLeft, FullOuterNullRejectingRight, FullOuterNullRejectingBoth}
use Rattle.conflict.specs.declared.Table.{Table}
use Rattle.conflict.specs.declared.Table.TheVariants.{Assoc, LAsscom, RAsscom}
use Rattle.conflict.specs.Views.{cells, Says, table_at, type_number, place}

-- the test passes at every number below n
abbrev pub every : ℕ → (ℕ → Bool) → Bool
every zero p = true
every (suc n) p = p n && every n p

pub every-at : (n : ℕ) (p : ℕ → Bool) → T (every n p) → (k : ℕ) → k < n → T (p k)
every-at zero p t k h = absurd (not-suc-le-zero h)
every-at (suc n) p t k h = go (p n) (every n p) t refl (λ l u. every-at n p u k l) (eq-or-lt_of_le (le_of_suc-le-suc h))
  where
    go : (a b : Bool) → T (a && b) → p n ≡ a → (k < n → T b → T (p k)) → (k ≡ n) ⊎ (k < n) → T (p k)
    go true b t e f (inl q) = rw (q, e) tt
    go true b t e f (inr l) = f l t
    go false b t e f d = absurd t

-- the two are equal
abbrev pub alike : Bool → Bool → Bool
alike true b = b
alike false true = false
alike false false = true

alike_eq : (a b : Bool) → T (alike a b) → a ≡ b
alike_eq true true t = refl
alike_eq true false t = absurd t
alike_eq false true t = absurd t
alike_eq false false t = refl

module _ (tables : List (List ℕ)) where
  -- the cell of table t at i, j is document 01's
  abbrev agrees : ℕ → ℕ → ℕ → Bool
  agrees t i j = alike (cells tables t i j) (table_at t i j)

  abbrev row_agrees : ℕ → ℕ → Bool
  row_agrees t i = every 8 (agrees t i)

  abbrev table_agrees : ℕ → Bool
  table_agrees t = every 8 (row_agrees t)

  -- the one test, over all three tables and all 64 pairs
  abbrev pub all_agree : Bool
  all_agree = every 3 table_agrees

  -- the rule that it gives, at each pair of each table
  agrees_at : T all_agree → (t i j : ℕ) → t < 3 → i ≤ 7 → j ≤ 7 → cells tables t i j ≡ table_at t i j
  agrees_at s t i j h k l =
      let table = every-at 3 table_agrees s t h in
      let row = every-at 8 (row_agrees t) table i (omega arith) in
      alike_eq (cells tables t i j) (table_at t i j) (every-at 8 (agrees t i) row j (omega arith))

-- two rules that agree on a, b where both are types say the same of a, b
asked-alike : (f g : ℕ → ℕ → Bool) (a b : ℕ) → (a ≤ 7 → b ≤ 7 → f a b ≡ g a b) → asked f a b ≡ asked g a b
asked-alike f g a b e = go (leb a 7) (leb b 7) (leb-true a 7) (leb-true b 7)
  where
    said : Bool → Bool → Asked
    said p x = elim p [ true ↦ cell x | false ↦ refused unknown_kind ]

    go : (p q : Bool) → (p ≡ true → a ≤ 7) → (q ≡ true → b ≤ 7) → said (p && q) (f a b) ≡ said (p && q) (g a b)
    go true true h k = ap cell (e (h refl) (k refl))
    go true false h k = refl
    go false q h k = refl

-- what a table says, where the one test passes
pub says_asked : {tables : List (List ℕ)} {t a b : ℕ} {x : Asked} → Says tables t a b x → T (all_agree tables) → t < 3 → x ≡ asked (table_at t) a b
says_asked {tables} {t} {a} {b} says s h = says.is ∙ asked-alike (cells tables t) (table_at t) a b (agrees_at tables s t a b h)

-- what a table says of types is its cell
pub asked_cell : (f : ℕ → ℕ → Bool) (a b : ℕ) → a ≤ 7 → b ≤ 7 → asked f a b ≡ cell (f a b)
asked_cell f a b h k = rw (le-leb a 7 h, le-leb b 7 k, asked)

-- what a table says of types, where the one test passes
pub says_cell : {tables : List (List ℕ)} {t a b : ℕ} {x : Bool} → Says tables t a b (cell x) → T (all_agree tables) → t < 3 → a ≤ 7 → b ≤ 7 → x ≡ table_at t a b
says_cell {tables} {t} {a} {b} {x} says s h k l =
    let e : cell x ≡ cell (table_at t a b) = says_asked says s h ∙ asked_cell (table_at t) a b k l in
    cc

pub few_types : (t : HyperedgeJoinType) → type_number t ≤ 7
few_types Inner = lit≤ tt
few_types LeftSemi = lit≤ tt
few_types LeftOuter = lit≤ tt
few_types LeftOuterNullRejectingLeft = lit≤ tt
few_types FullOuter = lit≤ tt
few_types FullOuterNullRejectingLeft = lit≤ tt
few_types FullOuterNullRejectingRight = lit≤ tt
few_types FullOuterNullRejectingBoth = lit≤ tt

pub few_tables : (t : Table) → place t < 3
few_tables Assoc = lit< tt
few_tables LAsscom = lit< tt
few_tables RAsscom = lit< tt
