use mathlib.Core.Path.{◌∙◌}
use Rattle.sheet.specs.Placing.{column_here}
use Rattle.sheet.proofs.Sheet.column.Goals as goal

pub returns : goal.returns
returns c = c.word.ensures ∙ column_here c.args.self.now.bytes.now c.args.self.now.sections c.args.self.now.placed c.args.i c.requires
