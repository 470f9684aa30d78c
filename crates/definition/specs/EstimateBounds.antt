-- Bounds of rows and costs. Definitions only.
use Rattle.std.specs.Prelude.{ℕ, ◌+◌, ◌-◌, ◌*◌, ◌^◌, ◌≤◌, ◌<◌, List, [], ◌∷◌, Float}
use Rattle.std.specs.Float.Ieee.Positive.{num, den}
use Rattle.definition.specs.Cost.{Estimate, leaf_estimate, product, filtered, candidate_from}
use Rattle.definition.specs.EstimateOrder.{NonNegative}

-- finite, not negative, and at most n
pub record AtMost (n : ℕ) (x : Float) : Type 0 where
  pub sign : NonNegative x
  pub bound : num x ≤ n * den x

-- what holds of the estimate of a plan of k leaves
pub record Bounded (k : ℕ) (e : Estimate) : Type 0 where
  pub nonempty : 0 < k
  pub rows : AtMost (2 ^ 500) e.rows
  pub cost : AtMost ((2 * k - 1) * 2 ^ 1001) e.cost

-- "share (0 to 65,536 ..)"
abbrev pub Selectivities : List ℕ → Type 0
Selectivities [] = Unit {0}
Selectivities (s ∷ ss) = (s ≤ 65536) × Selectivities ss

-- a plan down to its leaves: a leaf's rows and columns; a join's kind, its two plans, and the selectivities of its connecting predicates
pub data JoinTree : Type 0 where
  scan : ℕ → ℕ → JoinTree
  join : ℕ → JoinTree → JoinTree → List ℕ → JoinTree

-- rows and cost of a join of two plans over these selectivities; a candidate's are one (KeptLaws.antt `bounded`)
abbrev pub join_estimate : ℕ → Estimate → Estimate → List ℕ → Estimate
join_estimate kind l r ss = candidate_from kind l r (filtered (product l r) ss)

unfoldable pub tree_estimate : JoinTree → Estimate
tree_estimate (scan rows columns) = leaf_estimate rows columns
tree_estimate (join kind l r ss) = join_estimate kind (tree_estimate l) (tree_estimate r) ss

abbrev pub leaves : JoinTree → ℕ
leaves (scan rows columns) = 1
leaves (join kind l r ss) = leaves l + leaves r

-- row counts up to 2 ^ 48, and "At most .. 4,096 columns"
abbrev pub Legal : JoinTree → Type 0
Legal (scan rows columns) = (rows ≤ 2 ^ 48) × (columns ≤ 4096)
Legal (join kind l r ss) = Legal l × Legal r × Selectivities ss
