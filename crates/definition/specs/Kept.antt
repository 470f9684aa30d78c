-- Document 01, 'Open list and kept plans': the plans kept, and what they join, over any list of candidates (document 01: trials) that qualify.
-- Definitions only. n: the number of leaves; ts: the candidates' pairs; ps: the plans, first the leaves', then the candidates'.
use Rattle.std.specs.Prelude.{◌≡◌, Bool, true, false, List, [], ◌∷◌, ◌++◌, ℕ, ◌+◌, ◌≤◌, ◌<◌, length, get_or, take, eqb}
use Rattle.std.proofs.Math.Option.{some}
use Rattle.std.specs.Int.Bits.{bit_or}
use Rattle.nodeset.specs.Sets.{bit, singleton, Apart}
use Rattle.definition.specs.Hypergraph.{Edge, no_edge, connects}
use Rattle.definition.specs.Cost.{Estimate, candidate_from}
use Rattle.definition.specs.Connection.{Connection}
use Rattle.definition.specs.EstimateOrder.{Earliest}
use Rattle.definition.specs.Search.{Plan, Pair, Input, plan_of, connection_for, leaf_plans}

abbrev pub pair_of : List Pair → ℕ → Pair
pair_of ts k = get_or ts k (record { left = 0; right = 0 })

-- "Plan n is leaf n; trials follow": candidate k is plan n + k
abbrev pub estimate_of : ℕ → List Plan → ℕ → Estimate
estimate_of n ps k = (plan_of ps (n + k)).estimate

abbrev pub union : Pair → ℕ
union t = bit_or t.left t.right

-- "those .. trials whose left and right set together are that set"
abbrev pub made_for : List Pair → ℕ → ℕ → Bool
made_for ts s k = eqb (union (pair_of ts k)) s

-- a set of two or more leaves
pub record Several (s : ℕ) : Type 0 where
  pub one : ℕ
  pub other : ℕ
  pub distinct : one ≡ other → ⊥
  pub has_one : bit s one ≡ 1
  pub has_other : bit s other ≡ 1

-- plan p is kept for the set s after k candidates: "After k trials the plan kept for a single leaf is that leaf. For a larger set it is the
-- earliest of the least costly among those of the first k trials whose left and right set together are that set; with no such trial there is
-- none."
pub data KeptAfter (n : ℕ) (ts : List Pair) (ps : List Plan) (k s p : ℕ) : Type 0 where
  single : p < n → s ≡ singleton p → KeptAfter n ts ps k s p
  larger : Several s → (j : ℕ) → p ≡ n + j → Earliest (estimate_of n ps) (made_for ts s) k j → KeptAfter n ts ps k s p

-- ---- the candidates

-- "An edge connects two sets if one of its sides lies in the one and its other side in the other, in either order": there is such an edge
pub record EdgeBetween (es : List Edge) (a b : ℕ) : Type 0 where
  pub edge : ℕ
  pub there : edge < length es
  pub between : connects a b (get_or es edge no_edge) ≡ true

-- what it takes for the pair t to be tried as q after k candidates: its sets have no leaf in common, a plan is kept for each, and an edge
-- connects them. "Trial k, counted from 0, has as its two plans those kept for its left and right set after k trials"
pub record Qualifies (es : List Edge) (n : ℕ) (ts : List Pair) (ps : List Plan) (k : ℕ) (t : Pair) (q : Plan) : Type 0 where
  pub apart : Apart t.left t.right
  pub left : KeptAfter n ts ps k t.left q.left
  pub right : KeptAfter n ts ps k t.right q.right
  pub edge : EdgeBetween es t.left t.right

-- "and takes rows and cost from them as above": the other fields of q, the pair t tried. taken: what the connecting edges give
pub record Made (i : Input) (ps : List Plan) (t : Pair) (q : Plan) : Type 0 where
  pub taken : Connection
  pub connection : connection_for i ps t.left t.right q.left q.right ≡ some taken
  pub set : q.set ≡ union t
  pub lead : q.lead ≡ taken.lead
  pub kind : q.kind ≡ taken.kind
  pub estimate : q.estimate ≡ candidate_from q.kind (plan_of ps q.left).estimate (plan_of ps q.right).estimate taken.rows

-- ts are the pairs of candidates that qualify one after the other, and ps the leaves and what was made of the pairs
pub record Candidates (i : Input) (ts : List Pair) (ps : List Plan) : Type 0 where
  pub count : length ps ≡ length i.leaves + length ts
  pub leaves : take (length i.leaves) ps ≡ leaf_plans 0 i.leaves
  pub qualify : (k : ℕ) → k < length ts → Qualifies i.edges (length i.leaves) ts ps k (pair_of ts k) (plan_of ps (length i.leaves + k))
  pub made : (k : ℕ) → k < length ts → Made i ps (pair_of ts k) (plan_of ps (length i.leaves + k))

-- ---- what a plan joins

-- the leaves met from plan p down, each as often as it is met: "A plan's joins are its own and those of its two plans, down to the leaves."
pub data Meets (n : ℕ) (ps : List Plan) : ℕ → List ℕ → Type 0 where
  at_leaf : {p : ℕ} {zs : List ℕ} → p < n → zs ≡ p ∷ [] → Meets n ps p zs
  at_join : {p : ℕ} {xs ys zs : List ℕ} → n ≤ p → p < length ps → Meets n ps (plan_of ps p).left xs → Meets n ps (plan_of ps p).right ys → zs ≡ xs ++ ys
      → Meets n ps p zs

-- how often i stands in a list
abbrev pub occurs : ℕ → List ℕ → ℕ
occurs i [] = 0
occurs i (x ∷ xs) = elim (eqb x i) [ true ↦ 1 | false ↦ 0 ] + occurs i xs

-- "It joins every leaf of its set once if the leaves met on the way are those of the set, each met once."
pub record JoinsOnce (n : ℕ) (ps : List Plan) (s p : ℕ) : Type 0 where
  pub leaves : List ℕ
  pub met : Meets n ps p leaves
  pub once : (i : ℕ) → occurs i leaves ≡ bit s i

-- "has a connecting edge at each join": between the sets of the join's two plans
pub data EdgeAtEachJoin (es : List Edge) (n : ℕ) (ps : List Plan) : ℕ → Type 0 where
  at_leaf : {p : ℕ} → p < n → EdgeAtEachJoin es n ps p
  at_join : {p : ℕ} → n ≤ p → p < length ps → EdgeBetween es (plan_of ps (plan_of ps p).left).set (plan_of ps (plan_of ps p).right).set
      → EdgeAtEachJoin es n ps (plan_of ps p).left
      → EdgeAtEachJoin es n ps (plan_of ps p).right
      → EdgeAtEachJoin es n ps p
