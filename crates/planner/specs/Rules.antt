-- What a call promises of the answer r and of the lists, lent as h and left as l. Definitions only.
use Rattle.std.specs.Prelude.{◌≡◌, true, List, ℕ}
use Rattle.definition.specs.Answers.{visits_spent}
use Rattle.definition.specs.Call.{accepted, leaves_in, call}
use Rattle.definition.specs.VisitLimits.{SameUnderLimits, Spent}
use Rattle.definition.specs.OpenRule.{OpenListRule}
use Rattle.definition.specs.PlanRule.{CallPlanRule, AllFinite}
use Rattle.answer.specs.declared.Report.{Report}
use Rattle.answer.specs.Answers.{reported}
use Rattle.run.specs.Lent.{Lent, rooms_in, holds}
use Rattle.planner.specs.ReadBack.{read_back}

-- ---- demand 3, over what is read back from the answer and the lists

-- "Whatever row counts and shares within their limits replace those of an accepted sheet .. stay the same"
abbrev pub OpenList : List ℕ → ℕ → Lent → Report → Lent → Type 0
OpenList bs limit h r l = accepted bs (rooms_in h) ≡ true → OpenListRule bs (rooms_in h) limit (read_back (leaves_in bs) r l)

-- "Whichever answer ends the search, for each set of two or more leaves that has a plan"
abbrev pub KeptPlans : List ℕ → ℕ → Lent → Report → Lent → Type 0
KeptPlans bs limit h r l = accepted bs (rooms_in h) ≡ true → CallPlanRule bs (rooms_in h) limit (read_back (leaves_in bs) r l)

-- "All costs are finite and not negative": and all row counts
abbrev pub FiniteCosts : List ℕ → Report → Lent → Type 0
FiniteCosts bs r l = AllFinite (read_back (leaves_in bs) r l)

-- ---- other visit limits, over what is read back

-- request 2026-06, "for any two limits that such a run's looks don't pass": under any limit that the call ended within, and not with 14, it has
-- this outcome
abbrev pub OtherLimits : List ℕ → Lent → Report → Lent → Type 0
OtherLimits bs h r l = SameUnderLimits bs (rooms_in h) (read_back (leaves_in bs) r l)

-- after 14 the limit's visits were made, and under a greater limit there are more, and what was written is the beginning
abbrev pub SpentLimit : List ℕ → ℕ → Lent → Report → Lent → Type 0
SpentLimit bs limit h r l = r.answer ≡ visits_spent → Spent bs (rooms_in h) limit (read_back (leaves_in bs) r l)

-- ---- the whole contract, for a sheet's bytes and a visit limit

pub record Planned (bs : List ℕ) (limit : ℕ) (h : Lent) (r : Report) (l : Lent) : Type 0 where
  -- "These, the looks and the answer are proved equal, with any stores and look limit, to a definition": number, counts, visits, chosen plan
  pub answer : r ≡ reported (call bs (rooms_in h) limit)
  -- "its former bytes after answers 1 to 11, and after every other answer exactly the edges, plans and memo entries made so far, with the
  -- remaining places untouched"
  pub lists : l ≡ holds (call bs (rooms_in h) limit) h
  -- demand 3: the open-list rule, and the plan rule
  pub open_list : OpenList bs limit h r l
  pub kept_plans : KeptPlans bs limit h r l
  pub finite_costs : FiniteCosts bs r l
  -- request 2026-06: the call under other limits
  pub other_limits : OtherLimits bs h r l
  pub spent_limit : SpentLimit bs limit h r l
