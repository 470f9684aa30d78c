-- An answer is of one kind. Assumes nothing.
use Rattle.std.specs.Prelude.{◌≡◌, ℕ, ◌<◌, Result, Ok, Err, IsErrAnd}
use Rattle.std.proofs.Common.{sym, ap, ◌∙◌, arith}
use Rattle.std.proofs.lemmas.Result.{err_from_is_err_and}
use Rattle.sheet.specs.declared.Sections.{Sections}
use Rattle.sheet_check.specs.Views.{answer_number, number_of}
use Rattle.sheet_check.specs.AnswerLaws.{positive}
use Rattle.sheet_check.specs.declared.Fault.{Fault}
use Rattle.checks.specs.Answers.{checked_number, refusal_number, IsSheetFault}
use Rattle.checks.specs.declared.Refusal.{Refusal}
use Rattle.checks.specs.declared.question.Question.{Question}

pub never_accepted : {f : Refusal} {q : Question} {A : Type 0} → ◌≡◌ {A = Result Question Refusal} (Err f) (Ok q) → A
never_accepted e = let z : ◌≡◌ {A = ℕ} 0 1 = cc in absurd (omega arith)

-- an accepted question is the one that was made
pub same_question : {q r : Question} {s : Sections} {n : ℕ} → ◌≡◌ {A = Result Question Refusal} (Ok q) (Ok r) → q.sheet.sections ≡ s → q.leaves ≡ n
    → (r.sheet.sections ≡ s) × (r.leaves ≡ n)
same_question {q} {r} e a b =
    let same : q ≡ r = cc in
    (sym (ap (λ (x : Question). x.sheet.sections) same) ∙ a, sym (ap (λ (x : Question). x.leaves) same) ∙ b)

pub accepted_is : {x : Result Sections Fault} {s : Sections} {n : ℕ} → x ≡ Ok s → answer_number x ≡ n → n ≡ 0
accepted_is e f = sym f ∙ ap answer_number e

-- where a `?` hands a fault or a refusal on, the answer is its number
pub fault_exits : {A : Type 0} (r : Result A Refusal) (f : Fault) {n m : ℕ} → IsErrAnd r (IsSheetFault f)
    → number_of f ≡ n → (0 < n → n ≡ m) → checked_number r ≡ m
fault_exits r f e h k =
    let exit = err_from_is_err_and r e in
    rw (exit.1, exit.2) (h ∙ k (omega (arith, positive f)))

pub refusal_exits : {A : Type 0} (r : Result A Refusal) (f : Refusal) {n : ℕ} → IsErrAnd r (λ y. y ≡ f) → refusal_number f ≡ n → checked_number r ≡ n
refusal_exits r f e h =
    let exit = err_from_is_err_and r e in
    rw (exit.1, exit.2) h
