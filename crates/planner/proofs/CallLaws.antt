-- From the checks and the run to the whole call. Assumes nothing.
use Rattle.std.specs.Prelude.{◌≡◌, List, Result, Ok, Err}
use Rattle.std.proofs.Math.Path.{sym, ap}
use Rattle.std.proofs.Common.{◌∙◌, arith}
use Prim.Native.Nat.{ℕ, zero, suc, ◌<◌}
use Rattle.definition.specs.Sheet.{Bytes, question_of}
use Rattle.definition.specs.Call.{Rooms, Outcome, refused_with, refusal, input_of, searched, call}
use Rattle.sheet_check.specs.AnswerLaws.{positive}
use Rattle.checks.specs.declared.Refusal.{Refusal}
use Rattle.checks.specs.declared.Refusal.TheVariants.{Sheet, TooManyEdges, StoreTooSmall}
use Rattle.checks.specs.declared.question.Question.{Question}
use Rattle.checks.specs.Answers.{refusal_number, checked_number}
use Rattle.answer.specs.declared.Report.{Report}
use Rattle.answer.specs.Answers.{reported, reported_of}
use Rattle.run.specs.Lent.{Lent, rooms_in, holds}
use Rattle.planner.specs.Rules.{Planned}
use Rattle.planner.proofs.RuleLaws.{planned}

refusal_positive : (f : Refusal) → 0 < refusal_number f
refusal_positive (Sheet f) = positive f
refusal_positive TooManyEdges = omega arith
refusal_positive StoreTooSmall = omega arith

module _ (bs : List ℕ) (bytes : Bytes bs) (limit : ℕ) (x : Result Question Refusal) (h : Lent) (rooms : Rooms) (same : rooms ≡ rooms_in h) (number : checked_number x ≡ refused_with bs rooms) where
  abbrev o : Outcome
  o = call bs (rooms_in h) limit

  -- a refusal
  module _ {f : Refusal} (e : x ≡ Err f) where
    refused : refusal_number f ≡ refused_with bs (rooms_in h)
    refused = sym (ap checked_number e) ∙ number ∙ ap (refused_with bs) same

    call_refused : o ≡ refusal (refusal_number f)
    unfolding call
    call_refused = go (refused_with bs (rooms_in h)) (sym refused)
      where
        go : (n : ℕ) → n ≡ refusal_number f → (elim n [ zero ↦ searched (input_of (question_of bs) (rooms_in h) limit) | suc k ↦ refusal (suc k) ]) ≡ refusal (refusal_number f)
        go zero z = absurd (omega (arith, refusal_positive f))
        go (suc k) z = ap refusal z

    pub call_refuses : Planned bs limit h (reported_of (Err f)) h
    call_refuses =
        planned bs bytes limit h (reported_of (Err f)) h (sym (ap reported call_refused)) (sym (ap (λ (y : Outcome). holds y h) call_refused))

  -- an accepted sheet
  module _ {q : Question} (e : x ≡ Ok q) where
    pub call-accepted : refused_with bs rooms ≡ 0
    call-accepted = sym number ∙ ap checked_number e

    call-searched : searched (input_of (question_of bs) rooms limit) ≡ o
    unfolding call
    call-searched =
        ap (λ (r : Rooms). searched (input_of (question_of bs) r limit)) same
        ∙ sym (rw (sym (ap (refused_with bs) same) ∙ call-accepted, call))

    -- from the run's answer r and the lists l that it leaves
    module _ (r : Report) (l : Lent) (answers : r ≡ reported (searched (input_of (question_of bs) rooms limit)))
        (leaves : l ≡ holds (searched (input_of (question_of bs) rooms limit)) h) where
      pub call_runs : Planned bs limit h r l
      call_runs = planned bs bytes limit h r l (answers ∙ ap reported call-searched) (leaves ∙ ap (λ (y : Outcome). holds y h) call-searched)
