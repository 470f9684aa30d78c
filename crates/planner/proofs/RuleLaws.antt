-- A call that reports and leaves what the definition says meets its whole contract, both rules of demand 3 among it. Assumes nothing.
use Rattle.std.specs.Prelude.{◌≡◌, true, List, ℕ}
use Rattle.std.proofs.Common.{sym, ap, ap₂, ◌∙◌, subst}
use Rattle.definition.specs.Sheet.{Bytes}
use Rattle.definition.specs.Call.{Rooms, Outcome, accepted, leaves_in, call}
use Rattle.definition.specs.OpenRule.{OpenListRule, SameOpenBytes, SelectivitiesFit, open_part}
use Rattle.definition.proofs.OpenRuleLaws.{open_list_rule}
use Rattle.definition.specs.PlanRule.{CallPlanRule, AllFinite}
use Rattle.definition.proofs.PlanRuleLaws.{plan_rule, call_finite, call-pairs}
use Rattle.definition.specs.VisitLimits.{SameUnderLimits, Spent}
use Rattle.definition.proofs.VisitLimitLaws.{same_under_limits, call_spent}
use Rattle.answer.specs.declared.Report.{Report}
use Rattle.answer.specs.Answers.{reported}
use Rattle.run.specs.Lent.{Lent, rooms_in, holds}
use Rattle.planner.specs.ReadBack.{read_back}
use Rattle.planner.proofs.ReadBackLaws.{read_back_lem}
use Rattle.planner.specs.Rules.{OpenList, KeptPlans, FiniteCosts, OtherLimits, SpentLimit, Planned}

module _ (bs : List ℕ) (bytes : Bytes bs) (limit : ℕ) (h : Lent) (r : Report) (l : Lent)
    (answer : r ≡ reported (call bs (rooms_in h) limit)) (lists : l ≡ holds (call bs (rooms_in h) limit) h) where
  abbrev o : Outcome
  o = call bs (rooms_in h) limit

  pub reads : read_back (leaves_in bs) r l ≡ o
  reads = ap₂ (read_back (leaves_in bs)) answer lists ∙ read_back_lem (leaves_in bs) o h (call-pairs bs bytes (rooms_in h) limit)

  open_list : OpenList bs limit h r l
  open_list a = subst (OpenListRule bs (rooms_in h) limit) (sym reads) (open_list_rule bs bytes (rooms_in h) limit a)

  kept_plans : KeptPlans bs limit h r l
  kept_plans a = subst (CallPlanRule bs (rooms_in h) limit) (sym reads) (plan_rule bs bytes (rooms_in h) limit a)

  finite_costs : FiniteCosts bs r l
  finite_costs = subst AllFinite (sym reads) (call_finite bs bytes (rooms_in h) limit)

  other_limits : OtherLimits bs h r l
  other_limits = subst (SameUnderLimits bs (rooms_in h)) (sym reads) (same_under_limits bs (rooms_in h) limit)

  spent_limit : SpentLimit bs limit h r l
  spent_limit e =
      subst (Spent bs (rooms_in h) limit) (sym reads) (call_spent bs (rooms_in h) limit (sym (ap (λ (x : Report). x.answer) answer) ∙ e))

  pub planned : Planned bs limit h r l
  planned =
      record {
        answer = answer;
        lists = lists;
        open_list = open_list;
        kept_plans = kept_plans;
        finite_costs = finite_costs;
        other_limits = other_limits;
        spent_limit = spent_limit;
      }

-- two calls, on sheets that differ only in leaf rows and selectivities, with lists equally long and the same limit, whatever these held before
pub two_calls : (bs cs : List ℕ) → Bytes cs → SameOpenBytes bs cs → SelectivitiesFit cs → (limit : ℕ) (h k : Lent) → rooms_in h ≡ rooms_in k → accepted bs (rooms_in h) ≡ true
    → (r s : Report) (l m : Lent) → Planned bs limit h r l → Planned cs limit k s m
    → (accepted cs (rooms_in k) ≡ true) × (open_part (leaves_in bs) (read_back (leaves_in bs) r l) ≡ open_part (leaves_in cs) (read_back (leaves_in cs) s m))
two_calls bs cs bytes same fit limit h k rooms a r s l m first second =
    let rule = first.open_list a cs bytes same fit in (
      sym (ap (accepted cs) rooms) ∙ rule.0,
      rule.1
          ∙ ap (λ (x : Rooms). open_part (leaves_in cs) (call cs x limit)) rooms
          ∙ ap (open_part (leaves_in cs)) (sym (reads cs bytes limit k s m second.answer second.lists)),
    )
