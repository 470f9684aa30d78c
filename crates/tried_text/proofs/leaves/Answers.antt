use Rattle.std.proofs.Common.{refl, sym, ◌∙◌}
use Rattle.sheet.specs.Placing.{placed-accepted}
use Rattle.sheet_check.specs.AnswerLaws.{positive}
use Rattle.tried_text.proofs.PrintedLaws.{leaves_passed_lem, leaves_refused}
use Rattle.tried_text.proofs.leaves.Goals as goal

pub invariant_of-leaf_count : goal.invariant_of-leaf_count
invariant_of-leaf_count c =
    record { placed = placed-accepted c.args.sheet.now _ (sym c.in-Ok.ensures.answer) (c.in-Ok.ensures.sections _ refl) }

pub returns-in-Err : goal.returns-in-Err
returns-in-Err c = leaves_refused c.args.sheet.now c.in-Err.ensures.answer (positive _)

pub returns-in-Ok : goal.returns-in-Ok
returns-in-Ok c = c.leaf_count.ensures ∙ leaves_passed_lem c.args.sheet.now (sym c.in-Ok.ensures.answer)
