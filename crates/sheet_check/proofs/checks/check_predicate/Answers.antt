use mathlib.Core.Path.{sym, ap, ◌∙◌}
use native.Mathlib.Omega.{arith}
use Rattle.definition.specs.Question.{fits}
use Rattle.definition.specs.Sheet.{question_of}
use Rattle.definition.proofs.SheetLaws.{predicate_above, predicate_past, predicate-fits, length_columns}
use Rattle.sheet.specs.Views.{predicate_of}
use Rattle.sheet_check.proofs.checks.check_predicate.Goals as goal

pub returns-then-predicate-gt65536 : goal.returns-then-predicate-gt65536
returns-then-predicate-gt65536 c = sym (predicate_above (question_of c.args.sheet.now.bytes.now) (predicate_of c.args.predicate) (omega arith))

pub returns-then-fits : goal.returns-then-fits
returns-then-fits c =
    let s = c.args.sheet.now in
    let x = predicate_of c.args.predicate in
    let fit = c.fits.ensures ∙ ap (fits x.range) (s.placed.columns_many ∙ sym (length_columns s.bytes.now)) in
    sym (predicate-fits (question_of s.bytes.now) x (omega arith) (sym fit ∙ c.if-fits.true))

pub returns-else-fits : goal.returns-else-fits
returns-else-fits c =
    let s = c.args.sheet.now in
    let x = predicate_of c.args.predicate in
    let fit = c.fits.ensures ∙ ap (fits x.range) (s.placed.columns_many ∙ sym (length_columns s.bytes.now)) in
    sym (predicate_past (question_of s.bytes.now) x (omega arith) (sym fit ∙ c.if-fits.false))
