use mathlib.Core.Path.{◌≡◌}
use Rattle.definition.specs.Lists.{concat_map}
use Rattle.definition.specs.Sheet.{question_of, first_failing, item_checks}
use Rattle.definition.proofs.SheetLaws.{items_answer}
use Rattle.sheet.specs.ItemsLeft.{items_left}
use Rattle.sheet_check.proofs.checks.check_items.Given as goal

-- the checks of the items that are left give the answer of all
abbrev pub invariant-loop-item : goal.invariant-loop-item
invariant-loop-item l = first_failing (concat_map (item_checks (question_of l.sheet.bytes.now)) (items_left l.item-iterator))
    ≡ items_answer (question_of l.sheet.bytes.now)
