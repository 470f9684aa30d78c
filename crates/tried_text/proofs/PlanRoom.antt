-- A call makes no more plans than its plan store has places. Assumes nothing.
use Rattle.std.specs.Prelude.{◌≡◌, List, [], ◌∷◌, ℕ, zero, suc, ◌≤◌, length, eqb}
use Rattle.std.proofs.Math.Path.{refl, ap}
use Rattle.std.proofs.Common.{zero-le, length-append, arith}
use Rattle.definition.specs.Search.{Input, State, kept, visit, candidate, attempt, start, search}
use Rattle.definition.specs.Sheet.{Bytes, question_of}
use Rattle.definition.specs.Call.{Rooms, Outcome, refused_with, refusal, input_of, searched, call}
use Rattle.definition.specs.PlanRule.{WithinLimits}
use Rattle.definition.proofs.WalkLaws.{solve_keeps}
use Rattle.definition.proofs.StepLaws.{visit_keeps, attempt_keeps}
use Rattle.definition.proofs.MemoLaws.{leaf_plans-length}
use Rattle.definition.proofs.InputLaws.{leaves-counted}
use Rattle.definition.proofs.PlanRuleLaws.{call_limits}
use Rattle.checks.specs.RoomLaws.{not_refused}

module _ (i : Input) where
  abbrev Few : State → Type 0
  Few st = length st.plans ≤ i.plan_room

  few_visit : (st : State) → Few st → Few (visit i st)
  few_visit st k = visit_keeps i Few st k k k

  few_attempt : (a b : ℕ) (st : State) → Few st → Few (attempt i a b st)
  few_attempt a b st k =
      attempt_keeps i Few st k a b k k (λ l r c x. omega (arith, length-append st.plans (candidate st a b l r c ∷ []), x.room))

  search_few : WithinLimits i → length i.leaves ≤ i.plan_room → Few (search i)
  unfolding search start
  search_few limits h =
      solve_keeps i.edges limits.edges State kept (visit i) (attempt i) Few few_visit (λ a b q. few_attempt a b) (length i.leaves) (start i)
      (omega (arith, h, leaf_plans-length 0 i.leaves))

-- whatever the answer
pub call_few : (bs : List ℕ) → Bytes bs → (rooms : Rooms) (limit : ℕ) → length (call bs rooms limit).plans ≤ rooms.plans
unfolding call searched
call_few bs bytes rooms limit = go (refused_with bs rooms) refl
  where
    input : Input
    input = input_of (question_of bs) rooms limit

    outcome : ℕ → Outcome
    outcome n = elim n [ zero ↦ searched input | suc k ↦ refusal (suc k) ]

    go : (n : ℕ) → refused_with bs rooms ≡ n → length (outcome n).plans ≤ rooms.plans
    go zero e =
        let limits = call_limits bs rooms (ap (λ (n : ℕ). eqb n 0) e) bytes limit in
        search_few input limits (omega (arith, leaves-counted (question_of bs).items, (not_refused bs rooms e).1.plans_fit))
    go (suc k) e = zero-le
