use Rattle.std.proofs.Common.{◌≡◌, ◌+◌, ◌≤◌, length, map}
use Rattle.definition.specs.Question.{open_item, open_question, ends_with_one}
use Rattle.definition.specs.Sheet.{question_of}
use Rattle.sheet.specs.ItemsLeft.{items_left}
use Rattle.sheet.proofs.Sheet.ends_with_one.Given as goal

-- over the items that are left, with this many on the pile, the walk ends as from the start
abbrev pub invariant-loop-item : goal.invariant-loop-item
invariant-loop-item l = (l.height + length (items_left l.item-iterator) ≤ 127)
    × (ends_with_one (map open_item (items_left l.item-iterator)) l.height ≡ ends_with_one (open_question (question_of l.self.bytes.now)).items 0)
