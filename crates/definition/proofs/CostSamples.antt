-- Document 01, 'Sample sheets': the candidates' costs, by computation. Then numbers at which another order of operations, another ceiling or
-- another rule for a kind's rows would show.
use Rattle.std.specs.Prelude.{◌≡◌, refl, false, List, [], ◌∷◌, map, ℕ, ◌+◌, ◌^◌, get_or, leb, pos, negsuc, Float}
use Rattle.std.proofs.Math.Option.{some}
use Rattle.std.specs.Float.{fin}
use Rattle.std.specs.Float.Ieee.{mul, add, div, lt, of_int}
use Rattle.definition.specs.Cost.{Estimate, whole, filtered, capped, candidate_rows, candidate_cost, candidate_from}
use Rattle.definition.proofs.EstimateOrderLaws.{kept}
use Rattle.definition.specs.EstimateBounds.{JoinTree, scan, join, tree_estimate}

-- three leaves in a row, s between the first two and t between the last two: the candidates in document 01's order
abbrev chain : JoinTree → JoinTree → JoinTree → ℕ → ℕ → List JoinTree
chain x y z s t =
    join 0 y z (t ∷ [])
    ∷ join 0 x y (s ∷ [])
    ∷ join 0 x (join 0 y z (t ∷ [])) (s ∷ [])
    ∷ join 0 (join 0 x y (s ∷ [])) z (t ∷ [])
    ∷ []

abbrev pub costs : List JoinTree → List Float
costs = map (λ (t : JoinTree). (tree_estimate t).cost)

-- the number of the candidate kept for all three leaves: the last two are of that set
abbrev pub Chosen : List JoinTree → ℕ → Type 0
Chosen ts n = kept (λ (i : ℕ). tree_estimate (get_or ts i (scan 0 0))) (λ (i : ℕ). leb 2 i) 4 ≡ some n

abbrev pub sheet_a : List JoinTree
sheet_a = chain (scan 4 1) (scan 8 2) (scan 16 1) 32768 16384

-- "A with rows 4, 4, 4, shares 16384 and one column per leaf"
abbrev pub tie : List JoinTree
tie = chain (scan 4 1) (scan 4 1) (scan 4 1) 16384 16384

-- "plan 5" is candidate 2: the leaves are plans 0, 1 and 2
pub samples : (costs sheet_a ≡ map whole (192 ∷ 68 ∷ 388 ∷ 404 ∷ [])) × Chosen sheet_a 2 × (costs tie ≡ map whole (28 ∷ 28 ∷ 52 ∷ 52 ∷ [])) × Chosen tie 2
unfolding tree_estimate filtered candidate_from kept mul div of_int lt add
samples = (refl, refl, refl, refl)

-- a leaf without columns costs its rows
pub no_columns : costs (scan 7 0 ∷ []) ≡ map whole (7 ∷ [])
unfolding tree_estimate mul of_int
no_columns = refl

abbrev estimate : ℕ → ℕ → Estimate
estimate rows cost = record { rows = whole rows; cost = whole cost }

-- from 2 ^ 53 on a sum of whole numbers may round, so the order shows
pub sum_order : (candidate_cost (estimate (2 ^ 27) 3) (estimate (2 ^ 26) 2) (whole 7) ≡ whole (2 ^ 53 + 14))
    × (candidate_cost (estimate (2 ^ 27) 7) (estimate (2 ^ 26) 2) (whole 6) ≡ whole (2 ^ 53 + 14))
unfolding mul of_int add
sum_order = (refl, refl)

-- below 2 ^ -1022 a division after the product would round twice
pub division_first : filtered (fin false 4503599627370497 (negsuc 1072)) (21845 ∷ []) ≡ fin false 3002353938595841 (negsuc 1073)
unfolding filtered mul div of_int
division_first = refl

-- the next f64 below 2 ^ 500 stays, the next above does not
pub at-ceiling : (capped (fin false 9007199254740991 (pos 447)) ≡ fin false 9007199254740991 (pos 447))
    × (capped (fin false 4503599627370497 (pos 448)) ≡ fin false 1 (pos 500))
unfolding lt
at-ceiling = (refl, refl)

-- ---- rows by kind

abbrev kinds : List ℕ
kinds = 0 ∷ 1 ∷ 2 ∷ 3 ∷ 4 ∷ 5 ∷ 6 ∷ 7 ∷ 8 ∷ []

-- a candidate of each kind, over two leaves of one column with these rows, and this selectivity; of kind 8 too, which has none
abbrev each_kind : ℕ → ℕ → ℕ → List JoinTree
each_kind left right s = map (λ (kind : ℕ). join kind (scan left 1) (scan right 1) (s ∷ [])) kinds

abbrev rows : List JoinTree → List Float
rows = map (λ (t : JoinTree). (tree_estimate t).rows)

-- 2 ^ n
abbrev power : ℕ → Float
power n = fin false 1 (pos n)

-- e is 1, less than the rows of both sides, 4 and 16; 8, between them; 64, greater than both; then the same with the greater side on the left
pub by_kind : (rows (each_kind 4 16 1024) ≡ map power (0 ∷ 0 ∷ 0 ∷ 2 ∷ 4 ∷ 4 ∷ 2 ∷ 2 ∷ 0 ∷ []))
    × (rows (each_kind 4 16 8192) ≡ map power (3 ∷ 2 ∷ 2 ∷ 3 ∷ 4 ∷ 4 ∷ 2 ∷ 2 ∷ 3 ∷ []))
    × (rows (each_kind 4 16 65536) ≡ map power (6 ∷ 2 ∷ 2 ∷ 6 ∷ 6 ∷ 6 ∷ 2 ∷ 2 ∷ 6 ∷ []))
    × (rows (each_kind 16 4 1024) ≡ map power (0 ∷ 0 ∷ 0 ∷ 4 ∷ 2 ∷ 4 ∷ 4 ∷ 4 ∷ 0 ∷ []))
    × (rows (each_kind 16 4 8192) ≡ map power (3 ∷ 3 ∷ 3 ∷ 4 ∷ 3 ∷ 4 ∷ 4 ∷ 4 ∷ 3 ∷ []))
    × (rows (each_kind 16 4 65536) ≡ map power (6 ∷ 4 ∷ 4 ∷ 6 ∷ 6 ∷ 6 ∷ 4 ∷ 4 ∷ 6 ∷ []))
unfolding tree_estimate filtered candidate_from mul div of_int lt add
by_kind = (refl, refl, refl, refl, refl, refl)

-- 64 row pairs, the rows, and the costs 4 and 16 of the two leaves
pub cost_by_kind : costs (each_kind 4 16 1024) ≡ map whole (85 ∷ 85 ∷ 85 ∷ 88 ∷ 100 ∷ 100 ∷ 88 ∷ 88 ∷ 85 ∷ [])
unfolding tree_estimate filtered candidate_from mul div of_int lt add
cost_by_kind = refl

-- rows of each kind from powers of two: e, the left rows and the right rows
abbrev rows_from : ℕ → ℕ → ℕ → List Float
rows_from e left right =
    map (λ (kind : ℕ). candidate_rows kind (record { rows = power left; cost = power 0 }) (record { rows = power right; cost = power 0 }) (power e)) kinds

-- e, the left rows or the right rows above the ceiling, which comes after the greater
pub ceiling_last : (rows_from 501 0 0 ≡ map power (500 ∷ 0 ∷ 0 ∷ 500 ∷ 500 ∷ 500 ∷ 0 ∷ 0 ∷ 500 ∷ []))
    × (rows_from 0 501 0 ≡ map power (0 ∷ 0 ∷ 0 ∷ 500 ∷ 0 ∷ 500 ∷ 500 ∷ 500 ∷ 0 ∷ []))
    × (rows_from 0 0 501 ≡ map power (0 ∷ 0 ∷ 0 ∷ 0 ∷ 500 ∷ 500 ∷ 0 ∷ 0 ∷ 0 ∷ []))
unfolding lt
ceiling_last = (refl, refl, refl)
