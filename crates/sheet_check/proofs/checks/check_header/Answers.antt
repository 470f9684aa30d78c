use mathlib.Core.Path.{sym}
use Rattle.sheet_check.specs.HeaderLaws.{header_short, over_items, over_predicates, over_columns, items_misplaced, predicates_misplaced}
use Rattle.sheet_check.specs.HeaderLaws.{columns_misplaced, length-misplaced, header_passes}
use Rattle.sheet_check.proofs.checks.check_header.Goals as goal

pub returns-then-sheet-lt24 : goal.returns-then-sheet-lt24
returns-then-sheet-lt24 c = sym (header_short c.args.sheet.now c.if-sheet-lt24.true)

pub returns-then-s-gt127 : goal.returns-then-s-gt127
returns-then-s-gt127 c =
    sym
    (over_items c.args.sheet.now c.sections_of-s.result c.sections_of-s.ensures c.if-sheet-lt24.false
    c.if-s-gt127.true)

pub returns-then-s-gt256 : goal.returns-then-s-gt256
returns-then-s-gt256 c =
    sym
    (over_predicates c.args.sheet.now c.sections_of-s.result c.sections_of-s.ensures c.if-sheet-lt24.false
    c.if-s-gt127.false c.if-s-gt256.true)

pub returns-then-s-gt4096 : goal.returns-then-s-gt4096
returns-then-s-gt4096 c =
    sym
    (over_columns c.args.sheet.now c.sections_of-s.result c.sections_of-s.ensures c.if-sheet-lt24.false
    c.if-s-gt127.false c.if-s-gt256.false c.if-s-gt4096.true)

pub returns-then-s-ne24 : goal.returns-then-s-ne24
returns-then-s-ne24 c =
    sym
    (items_misplaced c.args.sheet.now c.sections_of-s.result c.sections_of-s.ensures c.if-sheet-lt24.false
    c.if-s-gt127.false c.if-s-gt256.false c.if-s-gt4096.false c.if-s-ne24.true)

pub returns-then-s : goal.returns-then-s
returns-then-s c =
    sym
    (predicates_misplaced c.args.sheet.now c.sections_of-s.result c.sections_of-s.ensures c.if-sheet-lt24.false
    c.if-s-gt127.false c.if-s-gt256.false c.if-s-gt4096.false c.if-s-ne24.false c.if-s.true)

pub returns-then-s-2 : goal.returns-then-s-2
returns-then-s-2 c =
    sym
    (columns_misplaced c.args.sheet.now c.sections_of-s.result c.sections_of-s.ensures c.if-sheet-lt24.false
    c.if-s-gt127.false c.if-s-gt256.false c.if-s-gt4096.false c.if-s-ne24.false c.if-s.false c.if-s-2.true)

pub returns-then-sheet-s : goal.returns-then-sheet-s
returns-then-sheet-s c =
    sym
    (length-misplaced c.args.sheet.now c.sections_of-s.result c.sections_of-s.ensures c.if-sheet-lt24.false
    c.if-s-gt127.false c.if-s-gt256.false c.if-s-gt4096.false c.if-s-ne24.false c.if-s.false c.if-s-2.false c.if-sheet-s.true)

pub returns : goal.returns
returns c =
    sym
    (header_passes c.args.sheet.now c.sections_of-s.result c.sections_of-s.ensures c.if-sheet-lt24.false
    c.if-s-gt127.false c.if-s-gt256.false c.if-s-gt4096.false c.if-s-ne24.false c.if-s.false c.if-s-2.false c.if-sheet-s.false)
