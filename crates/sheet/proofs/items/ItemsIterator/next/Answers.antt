use Rattle.std.proofs.Common.{length, ap, arith, drop_of_length-le}
use Rattle.definition.specs.Sheet.{question_of}
use Rattle.definition.proofs.SheetLaws.{length_items}
use Rattle.sheet.proofs.ItemLaws.{item_left}
use Rattle.sheet.proofs.items.ItemsIterator.next.Goals as goal

pub returns-then-self-clause-steps : goal.returns-then-self-clause-steps
returns-then-self-clause-steps c =
    let it = c.args.self.now in
    let bs = it.sheet.bytes.now in
    let end = drop_of_length-le (question_of bs).items {i = it.next} (omega (arith, length_items bs)) in
    (end, end)

pub returns-clause-steps : goal.returns-clause-steps
returns-clause-steps c =
    let it = c.args.self.now in
    item_left it.sheet.bytes.now it.next (omega arith) c.item-item.ensures.item

pub returns-clause-goes : goal.returns-clause-goes
returns-clause-goes c =
    let it = c.args.self.now in
    let left = item_left it.sheet.bytes.now it.next (omega arith) c.item-item.ensures.item in
    record { on = λ _. (tt, tt, omega (arith, ap length left)); keeps = tt; rests = λ _. tt }
