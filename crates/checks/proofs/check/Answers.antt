use mathlib.Core.Path.{refl, sym}
use Rattle.sheet.specs.Placing.{placed-accepted}
use Rattle.checks.specs.Answers.{rooms_of}
use Rattle.checks.specs.RoomLaws.{sheet_refused, sheet_passes}
use Rattle.checks.specs.AnswerLaws.{fault_exits, refusal_exits}
use Rattle.checks.proofs.check.Goals as goal

pub returns-in_err-sections-clause-number : goal.returns-in_err-sections-clause-number
returns-in_err-sections-clause-number c =
    let a = c.args in
    let e = c.in_err-sections in
    fault_exits c.from_residual.result e.field-0.0 c.from_residual.ensures.1 e.ensures.answer (λ p. sheet_refused a.bytes.now (rooms_of a.rooms) refl p)

pub invariant_of-sheet : goal.invariant_of-sheet
invariant_of-sheet c =
    let o = c.in_ok-sections.ensures in
    record { placed = placed-accepted c.args.bytes.now _ (sym o.answer) (o.sections _ refl) }

pub returns-in_err-leaves-clause-number : goal.returns-in_err-leaves-clause-number
returns-in_err-leaves-clause-number c =
    let a = c.args in
    let e = c.in_err-leaves in
    let x = c.from_residual-in_err-leaves in
    refusal_exits x.result e.field-0.0 x.ensures.1 (sheet_passes a.bytes.now (rooms_of a.rooms) (sym c.in_ok-sections.ensures.answer) e.ensures.number)

pub returns-clause-number : goal.returns-clause-number
returns-clause-number c =
    let a = c.args in
    sheet_passes a.bytes.now (rooms_of a.rooms) (sym c.in_ok-sections.ensures.answer) c.in_ok-leaves.ensures.number
