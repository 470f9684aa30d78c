use Rattle.std.proofs.Common.{arith}
use Rattle.definition.specs.Sheet.{question_of, item_checks}
use Rattle.sheet_check.specs.AnswerLaws.{member_exits, member_passes, none_fails}
use Rattle.sheet_check.proofs.checks.check_items.Goals as goal

pub returns-in_err-check_item : goal.returns-in_err-check_item
returns-in_err-check_item c =
    member_exits (item_checks (question_of c.args.sheet.now.bytes.now)) (λ x. (omega arith, (omega arith, (omega arith, tt)))) c.in-Some.ensures.steps
    c.from_residual.result c.in_err-check_item.field-0.0 c.from_residual.ensures.1 c.in_err-check_item.ensures c.loop-item.invariant

pub loop-item-preserved : goal.loop-item-preserved
loop-item-preserved c =
    member_passes (item_checks (question_of c.args.sheet.now.bytes.now)) (λ x. (omega arith, (omega arith, (omega arith, tt)))) c.in-Some.ensures.steps
    c.in_ok-check_item.ensures c.loop-item.invariant

pub returns : goal.returns
returns c = none_fails (item_checks (question_of c.args.sheet.now.bytes.now)) c.in-None.ensures.steps.0 c.loop-item.invariant
