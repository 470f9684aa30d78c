use mathlib.Core.Path.{sym, ap, ◌∙◌}
use native.Mathlib.Omega.{arith}
use Rattle.definition.specs.Question.{fits}
use Rattle.definition.specs.Sheet.{question_of}
use Rattle.definition.proofs.SheetLaws.{item_unknown, item_reserved, item_past, item-fits}
use Rattle.sheet.specs.Views.{item_of}
use Rattle.sheet_check.specs.AnswerLaws.{table_here}
use Rattle.sheet_check.proofs.checks.check_item.Goals as goal

pub returns-then-item-gt-LEAF : goal.returns-then-item-gt-LEAF
returns-then-item-gt-LEAF c = sym (item_unknown (question_of c.args.sheet.now.bytes.now) (item_of c.args.item) (omega arith))

pub returns-then-reserved_is_set : goal.returns-then-reserved_is_set
returns-then-reserved_is_set c =
    sym (item_reserved (question_of c.args.sheet.now.bytes.now) (item_of c.args.item) (omega arith)
    (sym c.reserved_is_set.ensures ∙ c.if-reserved_is_set.true))

pub returns-then-fits : goal.returns-then-fits
returns-then-fits c =
    let s = c.args.sheet.now in
    let x = item_of c.args.item in
    let fit = c.fits.ensures ∙ ap (fits x.range) (c.table_count.ensures ∙ table_here s.bytes.now s.sections s.placed x) in
    sym (item-fits (question_of s.bytes.now) x (omega arith) (sym c.reserved_is_set.ensures ∙ c.if-reserved_is_set.false) (sym fit ∙ c.if-fits.true))

pub returns-else-fits : goal.returns-else-fits
returns-else-fits c =
    let s = c.args.sheet.now in
    let x = item_of c.args.item in
    let fit = c.fits.ensures ∙ ap (fits x.range) (c.table_count.ensures ∙ table_here s.bytes.now s.sections s.placed x) in
    sym (item_past (question_of s.bytes.now) x (omega arith) (sym c.reserved_is_set.ensures ∙ c.if-reserved_is_set.false) (sym fit ∙ c.if-fits.false))
