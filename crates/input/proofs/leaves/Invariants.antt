use mathlib.Core.Path.{◌≡◌}
use mathlib.Core.List.{◌++◌, map}
use Prim.Native.Nat.{◌+◌, ◌≤◌}
use lib.ListN.{length}
use Rattle.definition.specs.Question.{open_item, leaf_count}
use Rattle.definition.specs.Sheet.{question_of}
use Rattle.definition.specs.Call.{leaves_of}
use Rattle.sheet.specs.ItemsLeft.{items_left}
use Rattle.input.specs.View.{leaves_in}
use Rattle.input.proofs.leaves.Given as goal

-- the leaves so far and those that are left are all, and there is room for them
abbrev pub invariant-loop-item : goal.invariant-loop-item
invariant-loop-item l = (leaves_in l.leaves.items ++ leaves_of (items_left l.item-iterator) ≡ leaves_of (question_of l.sheet.bytes.now).items)
    × (length l.leaves.items + leaf_count (map open_item (items_left l.item-iterator)) ≤ 64)
