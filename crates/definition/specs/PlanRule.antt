-- Demand 3, the plan rule, and document 01's 'the memo holds exactly these sets and plans'. Definitions only.
use Rattle.std.specs.Prelude.{◌≡◌, true, false, List, [], ◌∷◌, ◌++◌, map, ℕ, ◌+◌, ◌^◌, ◌≤◌, ◌<◌, length, get_or, drop}
use Rattle.nodeset.specs.Sets.{singleton}
use Rattle.nodeset.specs.SubsetLaws.{All}
use Rattle.definition.specs.Lists.{tabulate, member}
use Rattle.definition.specs.EstimateOrder.{Earliest, NonNegative}
use Rattle.definition.specs.EstimateBounds.{AtMost, Selectivities}
use Rattle.definition.specs.Hypergraph.{Sided}
use Rattle.definition.specs.Search.{plan_of, Leaf, Plan, Entry, Pair, Input}
use Rattle.definition.specs.Sheet.{question_of}
use Rattle.definition.specs.Call.{Rooms, Outcome, input_of, call}
use Rattle.definition.specs.Kept.{estimate_of, union, made_for, Several, KeptAfter, Candidates, JoinsOnce, EdgeAtEachJoin}

-- what the search may be given: as many leaves, rows, columns and selectivities as document 01 and request 2026-10 allow, and edges with two sides
pub record WithinLimits (i : Input) : Type 0 where
  pub count : length i.leaves ≤ 64
  pub leaves : All (λ (l : Leaf). (l.rows ≤ 2 ^ 48) × (l.columns ≤ 4096)) i.leaves
  pub selectivities : Selectivities i.selectivities
  pub edges : All Sided i.edges

abbrev pub entry_of : List Entry → ℕ → Entry
entry_of m x = get_or m x (record { set = 0; plan = 0 })

-- each of these sets where it first comes, behind those seen before
unfoldable pub first_sets : List ℕ → List ℕ → List ℕ
first_sets seen [] = seen
first_sets seen (s ∷ ss) = elim (member s seen) [ true ↦ first_sets seen ss | false ↦ first_sets (seen ++ (s ∷ [])) ss ]

-- "A set has a plan if one is kept for it after all trials; the memo holds exactly these sets and plans", each set once, "in order of first
-- entry": the leaves, each with itself for its plan, then the sets of the candidates as they first come
pub record MemoHolds (n : ℕ) (ts : List Pair) (ps : List Plan) (m : List Entry) : Type 0 where
  pub kept : (x : ℕ) → x < length m → KeptAfter n ts ps (length ts) (entry_of m x).set (entry_of m x).plan
  pub every : (s p : ℕ) → KeptAfter n ts ps (length ts) s p → (x : ℕ) × (x < length m) × ((entry_of m x).set ≡ s) × ((entry_of m x).plan ≡ p)
  pub once : (x y : ℕ) → x < y → y < length m → (entry_of m x).set ≡ (entry_of m y).set → ⊥
  pub leaves : (p : ℕ) → p < n → (p < length m) × ((entry_of m p).set ≡ singleton p) × ((entry_of m p).plan ≡ p)
  pub order : map (λ (e : Entry). e.set) m ≡ first_sets (tabulate n singleton) (map union ts)

-- of the plan p that the memo keeps for the set s: it "joins every leaf of it once, has a connecting edge at each join, and is the earliest of
-- the least costly trials made for that set: every other trial made for it costs at least as much, every earlier one more"
pub record WellKept (i : Input) (ts : List Pair) (ps : List Plan) (s p : ℕ) : Type 0 where
  pub number : ℕ
  pub plan : p ≡ length i.leaves + number
  pub set : (plan_of ps p).set ≡ s
  pub leaves : JoinsOnce (length i.leaves) ps s p
  pub edge : EdgeAtEachJoin i.edges (length i.leaves) ps p
  pub earliest : Earliest (estimate_of (length i.leaves) ps) (made_for ts s) (length ts) number

-- "All costs are finite and not negative", and rows are at most 2 ^ 500
pub record Finite (q : Plan) : Type 0 where
  pub rows : AtMost (2 ^ 500) q.estimate.rows
  pub cost : NonNegative q.estimate.cost

-- the plan rule: "for each set of two or more leaves that has a plan, the one the memo keeps", and "each costed on the two plans kept when it
-- was tried" (`candidates`). `whole`: every plan, kept or not, joins every leaf of the set it names once; so the sets between which
-- `EdgeAtEachJoin` asks for an edge are those of the leaves met
pub record PlanRule (i : Input) (ts : List Pair) (ps : List Plan) (m : List Entry) : Type 0 where
  pub candidates : Candidates i ts ps
  pub memo : MemoHolds (length i.leaves) ts ps m
  pub kept : (x : ℕ) → x < length m → Several (entry_of m x).set → WellKept i ts ps (entry_of m x).set (entry_of m x).plan
  pub whole : (p : ℕ) → p < length ps → JoinsOnce (length i.leaves) ps (plan_of ps p).set p
  pub finite : (p : ℕ) → p < length ps → Finite (plan_of ps p)

-- a candidate's pair, read back from the plans: the sets of the two plans that its fields name
abbrev pub pair_in : List Plan → Plan → Pair
pair_in ps q = record { left = (plan_of ps q.left).set; right = (plan_of ps q.right).set }

-- those of all candidates
abbrev pub pairs_in : ℕ → List Plan → List Pair
pairs_in n ps = map (pair_in ps) (drop n ps)

-- ---- for a call

-- the plan rule for what a call on an accepted sheet leaves in the stores: "Whichever answer ends the search". The trials are those of the
-- definition's call
abbrev pub CallPlanRule : List ℕ → Rooms → ℕ → Outcome → Type 0
CallPlanRule bs rooms limit o = PlanRule (input_of (question_of bs) rooms limit) (call bs rooms limit).tried o.plans o.memo

-- "All costs are finite and not negative": of all that is written, whatever the answer
abbrev pub AllFinite : Outcome → Type 0
AllFinite o = (p : ℕ) → p < length o.plans → Finite (plan_of o.plans p)
