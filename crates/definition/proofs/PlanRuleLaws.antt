-- The plan rule for the whole call, from the sheet's bytes; and that every row count and cost written is finite and not negative, whatever the
-- answer. Assumes nothing.
use Rattle.std.proofs.Math.Path.{◌≡◌, refl}
use Rattle.std.proofs.Common.{sym, ap, ◌∙◌, subst, not-suc-le-zero, suc-ne-zero, drop_of_length-le, eqb-true}
use Rattle.std.specs.Prelude.{true, List, [], map, length, eqb}
use Prim.Native.Nat.{ℕ, zero, suc, zero-le}
use Rattle.nodeset.specs.Sets.{all_below}
use Rattle.definition.specs.Sheet.{Bytes, question_of, sheet_answer}
use Rattle.definition.specs.Accepted.{AcceptedSheet}
use Rattle.definition.proofs.SheetLaws.{accepted as sheet-accepted}
use Rattle.definition.specs.Search.{Input}
use Rattle.definition.specs.Call.{Rooms, Outcome, refused_with, accepted, refusal, leaves_in, input_of, searched, call}
use Rattle.definition.specs.Kept.{KeptAfter}
use Rattle.definition.specs.PlanRule.{WithinLimits, pair_in, pairs_in, CallPlanRule, AllFinite}
use Rattle.definition.proofs.InputLaws.{leaves-counted, accepted_limits}
use Rattle.definition.proofs.KeptSearch.{searched_rule, searched-pairs, chosen_kept}

-- ---- accepted calls

module _ (bs : List ℕ) (rooms : Rooms) (a : accepted bs rooms ≡ true) where
  not_refused : refused_with bs rooms ≡ 0
  not_refused = eqb-true (refused_with bs rooms) 0 a

  pub accepted-call : AcceptedSheet bs
  unfolding refused_with
  accepted-call = sheet-accepted bs (go (sheet_answer bs) _ not_refused)
    where
      go : (n m : ℕ) → ◌≡◌ {A = ℕ} (elim n [ zero ↦ m | suc k ↦ suc k ]) 0 → n ≡ 0
      go zero m e = refl
      go (suc n) m e = e

  pub call-searched : (limit : ℕ) → call bs rooms limit ≡ searched (input_of (question_of bs) rooms limit)
  unfolding call
  call-searched limit = rw (not_refused, call) refl

  pub call_limits : Bytes bs → (limit : ℕ) → WithinLimits (input_of (question_of bs) rooms limit)
  call_limits bytes limit = accepted_limits bs accepted-call bytes rooms limit

-- ---- whatever the answer

module _ (bs : List ℕ) (bytes : Bytes bs) (rooms : Rooms) (limit : ℕ) where
  abbrev input : Input
  input = input_of (question_of bs) rooms limit

  limits : refused_with bs rooms ≡ 0 → WithinLimits input
  limits e = call_limits bs rooms (ap (λ (n : ℕ). eqb n 0) e) bytes limit

  -- the pairs tried can be read back from the plans
  pub call-pairs : (call bs rooms limit).tried ≡ pairs_in (leaves_in bs) (call bs rooms limit).plans
  unfolding call
  call-pairs = go (refused_with bs rooms) refl
    where
      outcome : ℕ → Outcome
      outcome n = elim n [ zero ↦ searched input | suc k ↦ refusal (suc k) ]

      go : (n : ℕ) → refused_with bs rooms ≡ n → (outcome n).tried ≡ pairs_in (leaves_in bs) (outcome n).plans
      go zero e = searched-pairs input (limits e) ∙ ap (λ (n : ℕ). pairs_in n (searched input).plans) (leaves-counted (question_of bs).items)
      go (suc n) e = ap (map (pair_in [])) (sym (drop_of_length-le [] {i = leaves_in bs} zero-le))

  pub call_finite : AllFinite (call bs rooms limit)
  unfolding call
  call_finite = go (refused_with bs rooms) refl
    where
      go : (n : ℕ) → refused_with bs rooms ≡ n → AllFinite (elim n [ zero ↦ searched input | suc k ↦ refusal (suc k) ])
      go zero e = (searched_rule input (limits e)).finite
      go (suc n) e = λ p h. absurd (not-suc-le-zero h)

  -- ---- the plan rule

  pub plan_rule : accepted bs rooms ≡ true → CallPlanRule bs rooms limit (call bs rooms limit)
  plan_rule a = rw (call-searched bs rooms a limit) (searched_rule input (call_limits bs rooms a bytes limit))

  -- "the chosen plan's number, which is that of the plan kept for the set of all leaves", where the answer is 0
  pub call_chosen : let o = call bs rooms limit in
      o.answer ≡ 0 → KeptAfter (leaves_in bs) o.tried o.plans (length o.tried) (all_below (leaves_in bs)) o.chosen
  unfolding call
  call_chosen = go (refused_with bs rooms) refl
    where
      Chosen : ℕ → Outcome → Type 0
      Chosen n o = o.answer ≡ 0 → KeptAfter n o.tried o.plans (length o.tried) (all_below n) o.chosen

      go : (n : ℕ) → refused_with bs rooms ≡ n → Chosen (leaves_in bs) (elim n [ zero ↦ searched input | suc k ↦ refusal (suc k) ])
      go zero e = subst (λ (n : ℕ). Chosen n (searched input)) (leaves-counted (question_of bs).items) (chosen_kept input (limits e))
      go (suc n) e = λ h. absurd (suc-ne-zero n h)
