use mathlib.Core.Path.{◌≡◌, sym, ◌∙◌}
use native.Mathlib.Omega.{arith}
use Rattle.definition.specs.Sheet.{question_of}
use Rattle.definition.proofs.SheetLaws.{header_answer, items_answer, predicates_answer, walk_answer, framed}
use Rattle.definition.proofs.SheetLaws.{answer_header, answer_question, answer_items, answer_predicates, answer_walk}
use Rattle.sheet.specs.Placing.{placed}
use Rattle.sheet_check.specs.AnswerLaws.{fault_exits}
use Rattle.sheet_check.proofs.checks.check.Goals as goal

pub returns-in_err-check_header-clause-answer : goal.returns-in_err-check_header-clause-answer
returns-in_err-check_header-clause-answer c =
    let bs = c.args.sheet.now in
    fault_exits c.from_residual.result c.in_err-check_header.field-0.0 c.from_residual.ensures.1 c.in_err-check_header.ensures (λ p. sym (answer_header bs p))

pub sections_of-requires : goal.sections_of-requires
sections_of-requires c =
    let bs = c.args.sheet.now in
    omega (arith, (framed bs (sym c.in_ok-check_header.ensures)).whole)

pub invariant_of-read : goal.invariant_of-read
invariant_of-read c =
    let bs = c.args.sheet.now in
    record { placed = placed bs c.sections_of.result (framed bs (sym c.in_ok-check_header.ensures)) c.sections_of.ensures }

pub returns-in_err-check_items-clause-answer : goal.returns-in_err-check_items-clause-answer
returns-in_err-check_items-clause-answer c =
    let bs = c.args.sheet.now in
    let header : header_answer bs ≡ 0 = sym c.in_ok-check_header.ensures in
    let e = c.in_err-check_items in
    let exit = c.from_residual-in_err-check_items in
    fault_exits exit.result e.field-0.0 exit.ensures.1 e.ensures
    (λ p. sym (answer_question bs header ∙ answer_items (question_of bs) p))

pub returns-in_err-check_predicates-clause-answer : goal.returns-in_err-check_predicates-clause-answer
returns-in_err-check_predicates-clause-answer c =
    let bs = c.args.sheet.now in
    let header : header_answer bs ≡ 0 = sym c.in_ok-check_header.ensures in
    let items : items_answer (question_of bs) ≡ 0 = sym c.in_ok-check_items.ensures in
    let e = c.in_err-check_predicates in
    let exit = c.from_residual-in_err-check_predicates in
    fault_exits exit.result e.field-0.0 exit.ensures.1 e.ensures
    (λ p. sym (answer_question bs header ∙ answer_predicates (question_of bs) items p))

pub returns-in_err-check_walk-clause-answer : goal.returns-in_err-check_walk-clause-answer
returns-in_err-check_walk-clause-answer c =
    let bs = c.args.sheet.now in
    let header : header_answer bs ≡ 0 = sym c.in_ok-check_header.ensures in
    let items : items_answer (question_of bs) ≡ 0 = sym c.in_ok-check_items.ensures in
    let predicates : predicates_answer (question_of bs) ≡ 0 = sym c.in_ok-check_predicates.ensures in
    let e = c.in_err-check_walk in
    let exit = c.from_residual-in_err-check_walk in
    fault_exits exit.result e.field-0.0 exit.ensures.1 e.ensures
    (λ p. sym (answer_question bs header ∙ answer_walk (question_of bs) items predicates))

pub returns-clause-answer : goal.returns-clause-answer
returns-clause-answer c =
    let bs = c.args.sheet.now in
    let header : header_answer bs ≡ 0 = sym c.in_ok-check_header.ensures in
    let items : items_answer (question_of bs) ≡ 0 = sym c.in_ok-check_items.ensures in
    let predicates : predicates_answer (question_of bs) ≡ 0 = sym c.in_ok-check_predicates.ensures in
    let walk : walk_answer (question_of bs) ≡ 0 = sym c.in_ok-check_walk.ensures in
    sym (answer_question bs header ∙ answer_walk (question_of bs) items predicates ∙ walk)
