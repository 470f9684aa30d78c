use Rattle.std.proofs.Common.{arith}
use Rattle.std.proofs.lemmas.List.{length-drop}
use Rattle.definition.specs.Question.{Item}
use Rattle.definition.proofs.SheetLaws.{length_items}
use Rattle.sheet.proofs.Sheet.items.Goals as goal

pub returns-clause-few : goal.returns-clause-few
returns-clause-few c =
    let s = c.args.self.now in
    omega (arith, length_items s.bytes.now, s.placed.framed.few_items, length-drop {A = Item})
