-- What an iterator over the items still gives.
use Rattle.std.specs.Prelude.{List, drop}
use Rattle.definition.specs.Question.{Item}
use Rattle.definition.specs.Sheet.{question_of}
use Rattle.sheet.specs.declared.items.Items.{Items}

-- the items from its place on
abbrev pub items_left : Items → List Item
items_left it = drop it.next (question_of it.sheet.bytes.now).items
