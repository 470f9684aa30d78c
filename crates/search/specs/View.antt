-- What the search asks of its caller, and its result in the definition's terms. Definitions only.
use Rattle.std.specs.Prelude.{◌≡◌, ℕ, ◌≤◌, Option, None, Some, Result, Ok, Err}
use Rattle.nodeset.specs.SubsetLaws.{All}
use Rattle.nodeset.specs.declared.PlanId.{PlanId}
use Rattle.definition.specs.Answers.{planned, plans_full, memo_full, visits_spent, no_plan}
use Rattle.definition.specs.Hypergraph.{none32, Sided}
use Rattle.definition.specs.Search.{Input, search, complete, ending, chosen_plan}
use Rattle.store.specs.declared.Stop as declared
use Rattle.store.specs.declared.Stop.TheVariants as stop
use Rattle.candidate.specs.Store as store
use Rattle.candidate.specs.Store.{Given, Lists}
use Rattle.held.specs.Held.{Roomy}
use Rattle.search.specs.declared.Unplanned.{Unplanned}
use Rattle.search.specs.declared.Unplanned.TheVariants.{NoPlan, Stopped}

-- each edge has two sides; the leaves fit a set and both stores, and the lists are as long as their stores
pub record Ready (g : Given) (h : Lists) (n : ℕ) : Type 0 where
  pub sided : All Sided (store.edges g)
  pub leaves : n ≤ 64
  pub plans : n ≤ g.plan_room
  pub memo : n ≤ g.memo_room
  pub room : Roomy g h

-- ---- the ending

abbrev pub ending_number : Result PlanId Unplanned → ℕ
ending_number (Ok p) = planned
ending_number (Err NoPlan) = no_plan
ending_number (Err (Stopped stop.PlansFull)) = plans_full
ending_number (Err (Stopped stop.MemoFull)) = memo_full
ending_number (Err (Stopped stop.VisitsSpent)) = visits_spent
ending_number (Err (Stopped (stop.Other _))) = none32

abbrev pub chosen_of : Result PlanId Unplanned → ℕ
chosen_of (Ok p) = p.0
chosen_of (Err e) = none32

-- e: the answer's number and the chosen plan of the definition's search
abbrev pub Ends : Input → Result PlanId Unplanned → Type 0
Ends i e =
    let st = search i in
    (ending_number e ≡ ending st.stop (complete i st)) × (chosen_of e ≡ chosen_plan st.stop (complete i st))

-- where nothing stopped the search, from the plan kept for the set of all leaves
abbrev pub ending_for : Option PlanId → Result PlanId Unplanned
ending_for (Some p) = Ok p
ending_for None = Err NoPlan

abbrev pub unplanned_of : declared.Stop → Unplanned
unplanned_of s = Stopped s

-- from what stopped the search, if anything did, and that plan
abbrev pub ending_of : Option declared.Stop → Option PlanId → Result PlanId Unplanned
ending_of None k = ending_for k
ending_of (Some (stop.Other n)) k = ending_for k
ending_of (Some stop.PlansFull) k = Err (unplanned_of stop.PlansFull)
ending_of (Some stop.MemoFull) k = Err (unplanned_of stop.MemoFull)
ending_of (Some stop.VisitsSpent) k = Err (unplanned_of stop.VisitsSpent)
