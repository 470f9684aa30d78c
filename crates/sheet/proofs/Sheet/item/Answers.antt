use native.Mathlib.Omega.{arith}
use Prim.Native.Nat.{◌+◌, ◌*◌}
use mathlib.Core.Path.{◌∙◌}
use Rattle.sheet.specs.Placing.{item_here}
use Rattle.sheet.proofs.Sheet.item.Goals as goal

pub returns-clause-item : goal.returns-clause-item
returns-clause-item c =
    let s = c.args.self.now in
    let at = s.sections.items.offset + s.sections.stride * c.args.i in
    item_here s.bytes.now s.sections s.placed c.args.i c.requires at (rw s.placed.items_stride (omega arith))
    c.word.ensures (c.from.ensures ∙ c.word-2.ensures) c.range.ensures
