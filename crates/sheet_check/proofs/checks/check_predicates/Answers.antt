use Rattle.std.proofs.Common.{arith, drop_of_length-le}
use Rattle.definition.specs.Sheet.{question_of, predicate_checks}
use Rattle.definition.proofs.SheetLaws.{length_predicates}
use Rattle.sheet_check.specs.AnswerLaws.{member_exits, member_passes, none_fails, predicates_on}
use Rattle.sheet_check.proofs.checks.check_predicates.Goals as goal

pub returns-in_err-check_predicate : goal.returns-in_err-check_predicate
returns-in_err-check_predicate c =
    let bs = c.args.sheet.now.bytes.now in
    member_exits (predicate_checks (question_of bs)) (λ x. (omega arith, (omega arith, tt))) (predicates_on bs c.loop-p.p (omega arith) c.predicate.ensures)
    c.from_residual.result c.in_err-check_predicate.field-0.0 c.from_residual.ensures.1 c.in_err-check_predicate.ensures c.loop-p.invariant

pub loop-p-preserved : goal.loop-p-preserved
loop-p-preserved c =
    let bs = c.args.sheet.now.bytes.now in
    member_passes (predicate_checks (question_of bs)) (λ x. (omega arith, (omega arith, tt))) (predicates_on bs c.loop-p.p (omega arith) c.predicate.ensures)
    c.in_ok-check_predicate.ensures c.loop-p.invariant

pub returns : goal.returns
returns c =
    let bs = c.args.sheet.now.bytes.now in
    let end = drop_of_length-le (question_of bs).predicates {i = c.loop-p.p} (omega (arith, length_predicates bs)) in
    none_fails (predicate_checks (question_of bs)) end c.loop-p.invariant
