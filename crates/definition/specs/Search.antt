-- Document 01, 'Plans and memo': the state of the search, what a visit and a candidate (document 01: look, trial) do to it, and the search.
use Rattle.std.specs.Prelude.{ℕ, zero, suc, Bool, true, false, ◌||◌, List, [], ◌∷◌, ◌++◌, length, get_or, eqb, ltb, pos}
use Rattle.std.proofs.Math.Option.{Option, none, some}
use Rattle.std.specs.Int.Bits.{bit_or}
use Rattle.std.specs.Float.{fin}
use Rattle.nodeset.specs.Sets.{singleton, all_below}
use Rattle.definition.specs.Answers.{planned, plans_full, memo_full, visits_spent, no_plan}
use Rattle.definition.specs.Question.{leaf}
use Rattle.definition.specs.Hypergraph.{Edge, none32}
use Rattle.definition.specs.Cost.{Estimate, leaf_estimate, product, candidate_from, cheaper}
use Rattle.definition.specs.Connection.{Connection, connection}
use Rattle.definition.specs.Walk.{solve}

-- "Fields: set, left plan, right plan, lead edge (lowest connecting edge), kind, rows, cost."
pub record Plan : Type 0 where
  pub set : ℕ
  pub left : ℕ
  pub right : ℕ
  pub lead : ℕ
  pub kind : ℕ
  pub estimate : Estimate

-- "Memo entry: set, plan number"
pub record Entry : Type 0 where
  pub set : ℕ
  pub plan : ℕ

-- the left and the right set of a candidate
pub record Pair : Type 0 where
  pub left : ℕ
  pub right : ℕ

-- a leaf's row count and the number of its columns
pub record Leaf : Type 0 where
  pub rows : ℕ
  pub columns : ℕ

-- what the search is given: leaves, edges, the items' kinds, the predicates' selectivities, the lengths of the plan and the memo store, and
-- how many visits may be made
pub record Input : Type 0 where
  pub leaves : List Leaf
  pub edges : List Edge
  pub kinds : List ℕ
  pub selectivities : List ℕ
  pub plan_room : ℕ
  pub memo_room : ℕ
  pub limit : ℕ

-- the pairs tried so far, the plans and memo entries written, and the visits made; stop is 0 while the search goes on, and then 12, 13 or 14
pub record State : Type 0 where
  pub tried : List Pair
  pub plans : List Plan
  pub memo : List Entry
  pub visits : ℕ
  pub stop : ℕ

abbrev pub absent : Plan
absent =
    record { set = 0; left = 0; right = 0; lead = none32; kind = leaf; estimate = record { rows = fin false 0 (pos 0); cost = fin false 0 (pos 0) } }

-- plan number n of ps
abbrev pub plan_of : List Plan → ℕ → Plan
plan_of ps n = get_or ps n absent

abbrev pub plan_at : State → ℕ → Plan
plan_at st n = plan_of st.plans n

-- ---- the memo

-- the number of the plan that the memo has for s
unfoldable pub find : List Entry → ℕ → Option ℕ
find [] s = none
find (e ∷ m) s = elim (eqb e.set s) [ true ↦ some e.plan | false ↦ find m s ]

abbrev pub is_some : {A : Type 0} → Option A → Bool
is_some none = false
is_some (some a) = true

unfoldable pub replace : List Entry → ℕ → ℕ → List Entry
replace [] s n = []
replace (e ∷ m) s n = elim (eqb e.set s) [ true ↦ record { set = s; plan = n } ∷ m | false ↦ e ∷ replace m s n ]

abbrev pub kept : State → ℕ → Bool
kept st s = is_some (find st.memo s)

-- ---- one visit: "the next look would pass the limit" stops with 14

abbrev pub stopped : State → ℕ → State
stopped st n = record { tried = st.tried; plans = st.plans; memo = st.memo; visits = st.visits; stop = n }

unfoldable pub visit : Input → State → State
visit i st =
    elim (eqb st.stop 0) [
      | true ↦
          elim (ltb st.visits i.limit) [
            | true ↦ record { tried = st.tried; plans = st.plans; memo = st.memo; visits = suc st.visits; stop = 0 }
            | false ↦ stopped st visits_spent
          ]
      | false ↦ st
    ]

-- ---- one candidate

-- what the edges that connect a and b give for the plans l and r of ps; none where no edge does
abbrev pub connection_for : Input → List Plan → ℕ → ℕ → ℕ → ℕ → Option Connection
connection_for i ps a b l r =
    connection i.edges i.kinds i.selectivities a b (product (plan_of ps l).estimate (plan_of ps r).estimate)

-- the plans l and r, kept for a and b, joined; c: what the connecting edges give. Request 2026-01: "Left and right are the trial's own, as its
-- plan reads, also where its lead edge lies the other way round."
unfoldable pub candidate : State → ℕ → ℕ → ℕ → ℕ → Connection → Plan
candidate st a b l r c =
    record {
      set = bit_or a b;
      left = l;
      right = r;
      lead = c.lead;
      kind = c.kind;
      estimate = candidate_from c.kind (plan_at st l).estimate (plan_at st r).estimate c.rows;
    }

-- "A trial replaces the memo's plan only if strictly cheaper." n: the candidate's number; the last argument: the plan that the memo has for s
unfoldable pub memo_after : State → ℕ → ℕ → Plan → Option ℕ → List Entry
memo_after st s n p none = st.memo ++ (record { set = s; plan = n } ∷ [])
memo_after st s n p (some o) =
    elim (cheaper p.estimate (plan_at st o).estimate) [ true ↦ replace st.memo s n | false ↦ st.memo ]

-- every candidate made is written as a plan
abbrev pub added : State → ℕ → ℕ → Plan → State
added st a b p =
    record {
      tried = st.tried ++ (record { left = a; right = b } ∷ []);
      plans = st.plans ++ (p ∷ []);
      memo = memo_after st (bit_or a b) (length st.plans) p (find st.memo (bit_or a b));
      visits = st.visits;
      stop = 0;
    }

-- "12 comes before 13, and neither writes the trial"
abbrev pub stored : Input → State → ℕ → ℕ → Plan → State
stored i st a b p =
    elim (ltb (length st.plans) i.plan_room) [
      | true ↦
          elim (kept st (bit_or a b) || ltb (length st.memo) i.memo_room) [ true ↦ added st a b p | false ↦ stopped st memo_full ]
      | false ↦ stopped st plans_full
    ]

-- with the plans l and r; the last argument: what the connecting edges give, none where no edge connects a and b
unfoldable pub linked : Input → State → ℕ → ℕ → ℕ → ℕ → Option Connection → State
linked i st a b l r none = st
linked i st a b l r (some c) = stored i st a b (candidate st a b l r c)

-- the plans kept for a and for b, if any: "The two memo lookups that leave `emit_csg_cmp` early remain early exits"
unfoldable pub joined : Input → State → ℕ → ℕ → Option ℕ → Option ℕ → State
joined i st a b none r = st
joined i st a b (some l) none = st
joined i st a b (some l) (some r) = linked i st a b l r (connection_for i st.plans a b l r)

unfoldable pub attempt : Input → ℕ → ℕ → State → State
attempt i a b st = elim (eqb st.stop 0) [ true ↦ joined i st a b (find st.memo a) (find st.memo b) | false ↦ st ]

-- ---- the search

-- "Plan n is leaf n"; "A leaf names itself twice, lead edge 4,294,967,295, kind 9." n: the number of the list's first leaf
unfoldable pub leaf_plans : ℕ → List Leaf → List Plan
leaf_plans n [] = []
leaf_plans n (l ∷ ls) =
    record { set = singleton n; left = n; right = n; lead = none32; kind = leaf; estimate = leaf_estimate l.rows l.columns } ∷ leaf_plans (suc n) ls

unfoldable pub leaf_entries : ℕ → List Leaf → List Entry
leaf_entries n [] = []
leaf_entries n (l ∷ ls) = record { set = singleton n; plan = n } ∷ leaf_entries (suc n) ls

unfoldable pub start : Input → State
start i = record { tried = []; plans = leaf_plans 0 i.leaves; memo = leaf_entries 0 i.leaves; visits = 0; stop = 0 }

unfoldable pub search : Input → State
search i = solve i.edges State kept (visit i) (attempt i) (length i.leaves) (start i)

-- the plan kept for the set of all leaves
abbrev pub complete : Input → State → Option ℕ
complete i st = find st.memo (all_below (length i.leaves))

-- the answer's number: what stopped the search, or 0 or 15
abbrev pub ending : ℕ → Option ℕ → ℕ
ending zero none = no_plan
ending zero (some n) = planned
ending (suc k) m = suc k

-- the chosen plan, or none "if the answer isn't 0"
abbrev pub chosen_plan : ℕ → Option ℕ → ℕ
chosen_plan zero none = none32
chosen_plan zero (some n) = n
chosen_plan (suc k) m = none32
