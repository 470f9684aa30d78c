-- Document 01, 'Plans and memo': "Rows and cost are f64, each operation rounded once." With request 2026-01: rows by kind.
use Rattle.std.specs.Prelude.{ℕ, max, Bool, true, false, List, [], ◌∷◌, get_or, pos, Float}
use Rattle.std.specs.Float.{fin, binary64}
use Rattle.std.specs.Float.Ieee.{mul, add, div, lt, of_int}

-- a whole number as an f64
abbrev pub whole : ℕ → Float
whole n = of_int binary64 (pos n)

-- 2 ^ 500
abbrev pub ceiling : Float
ceiling = fin false 1 (pos 500)

-- 65,536, the selectivity that keeps every row pair
abbrev pub full : Float
full = fin false 1 (pos 16)

-- rows and cost of a plan
pub record Estimate : Type 0 where
  pub rows : Float
  pub cost : Float

-- "Leaf cost: rows times the column count, a count of 0 taken as 1."
abbrev pub leaf_estimate : ℕ → ℕ → Estimate
leaf_estimate rows columns = record { rows = whole rows; cost = mul binary64 (whole rows) (whole (max columns 1)) }

-- "p is left rows times right rows"
abbrev pub product : Estimate → Estimate → Float
product l r = mul binary64 l.rows r.rows

-- share / 65536: "that division comes first and is exact"
abbrev pub fraction : ℕ → Float
fraction s = div binary64 (whole s) full

-- "multiplied .. by share/65536"
abbrev pub selected : Float → ℕ → Float
selected x s = mul binary64 x (fraction s)

-- "for each connecting predicate in edge order". ss: the selectivities of the connecting predicates, in edge order
unfoldable pub filtered : Float → List ℕ → Float
filtered x [] = x
filtered x (s ∷ ss) = filtered (selected x s) ss

-- "and at the end 2^500 if it is greater than that"
abbrev pub capped : Float → Float
capped x = elim (lt ceiling x) [ true ↦ ceiling | false ↦ x ]

-- "the lesser of" two numbers, and "the greater"
abbrev pub lesser : Float → Float → Float
lesser x y = elim (lt x y) [ true ↦ x | false ↦ y ]

abbrev pub greater : Float → Float → Float
greater x y = elim (lt x y) [ true ↦ y | false ↦ x ]

-- rows from e, "the estimate after shares", and from "left rows" and "right rows"
abbrev pub RowRule : Type 0
RowRule = Float → Float → Float → Float

-- "Inner and cross products are as before"
abbrev pub inner_rows : RowRule
inner_rows e l r = e

-- request 2026-01: the rule of each kind, from 0 on
abbrev pub row_rules : List RowRule
row_rules =
    inner_rows
    -- "kinds 1 and 2 give the lesser of e and left rows"
    ∷ (λ e l r. lesser e l) ∷ (λ e l r. lesser e l)
    -- "3 the greater of e and left rows"
    ∷ (λ e l r. greater e l)
    -- "4 the greater of e and right rows"
    ∷ (λ e l r. greater e r)
    -- "5 the greater of e and the greater of both"
    ∷ (λ e l r. greater e (greater l r))
    -- "6 and 7 give left rows"
    ∷ (λ e l r. l) ∷ (λ e l r. l)
    -- 8, a cross product
    ∷ inner_rows
    ∷ []

-- no candidate's kind is above 8
abbrev pub rows_by_kind : ℕ → RowRule
rows_by_kind kind = get_or row_rules kind inner_rows

-- the rows of a candidate (document 01: trial) of this kind: "the 2^500 ceiling comes last"
abbrev pub candidate_rows : ℕ → Estimate → Estimate → Float → Float
candidate_rows kind l r e = capped (rows_by_kind kind e l.rows r.rows)

-- "Cost: p plus rows, plus left cost, plus right cost, in that order."
abbrev pub candidate_cost : Estimate → Estimate → Float → Float
candidate_cost l r rows = add binary64 (add binary64 (add binary64 (product l r) rows) l.cost) r.cost

-- rows and cost of a candidate of this kind, from e
unfoldable pub candidate_from : ℕ → Estimate → Estimate → Float → Estimate
candidate_from kind l r e =
    let rows = candidate_rows kind l r e in
    record { rows = rows; cost = candidate_cost l r rows }

-- "A trial replaces the memo's plan only if strictly cheaper."
abbrev pub cheaper : Estimate → Estimate → Bool
cheaper new kept = lt new.cost kept.cost
