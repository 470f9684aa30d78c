-- The ending that a stop and a memo lookup give. Assumes nothing.
use Rattle.std.specs.Prelude.{◌≡◌, ◌≢◌, refl, ℕ, Option, None, Some, Err}
use Rattle.std.proofs.Math.Option as math
use Rattle.std.proofs.Math.Option.{none, some}
use Rattle.nodeset.specs.declared.PlanId.{PlanId}
use Rattle.definition.specs.Search.{ending, chosen_plan}
use Rattle.definition.proofs.StopLaws.{Stop, goes_on, plans-full, memo_full_lem, visits_spent_lem}
use Rattle.store.specs.declared.Stop as declared
use Rattle.store.specs.declared.Stop.TheVariants as stop
use Rattle.store.specs.Counts.{stop_with}
use Rattle.held.specs.MemoHeld.{to_kept}
use Rattle.search.specs.declared.Unplanned.TheVariants.{Stopped}
use Rattle.search.specs.View.{ending_number, chosen_of, ending_for, ending_of}

-- ---- the ending, one law for each way through `ended`

pub ends_plans : (s : Option declared.Stop) (k : Option PlanId) → s ≡ Some stop.PlansFull → Err (Stopped stop.PlansFull) ≡ ending_of s k
ends_plans s k e = rw e

pub ends_memo : (s : Option declared.Stop) (k : Option PlanId) → s ≡ Some stop.MemoFull → Err (Stopped stop.MemoFull) ≡ ending_of s k
ends_memo s k e = rw e

pub ends_visits : (s : Option declared.Stop) (k : Option PlanId) → s ≡ Some stop.VisitsSpent → Err (Stopped stop.VisitsSpent) ≡ ending_of s k
ends_visits s k e = rw e

pub ends_so : (s : Option declared.Stop) (k : Option PlanId)
    → s ≢ Some stop.PlansFull → s ≢ Some stop.MemoFull → s ≢ Some stop.VisitsSpent → ending_for k ≡ ending_of s k
ends_so None k p m v = refl
ends_so (Some (stop.Other n)) k p m v = refl
ends_so (Some stop.PlansFull) k p m v = absurd (p refl)
ends_so (Some stop.MemoFull) k p m v = absurd (m refl)
ends_so (Some stop.VisitsSpent) k p m v = absurd (v refl)

-- ---- the ending is the definition's

pub ending_is : (stop : ℕ) (o : math.Option ℕ) → Stop stop
    → (ending_number (ending_of (stop_with stop) (to_kept o)) ≡ ending stop o)
    × (chosen_of (ending_of (stop_with stop) (to_kept o)) ≡ chosen_plan stop o)
ending_is stop none (goes_on e) = rw e (refl, refl)
ending_is stop (some n) (goes_on e) = rw e (refl, refl)
ending_is stop o (plans-full e) = rw e (refl, refl)
ending_is stop o (memo_full_lem e) = rw e (refl, refl)
ending_is stop o (visits_spent_lem e) = rw e (refl, refl)
