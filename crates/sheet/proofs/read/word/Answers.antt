use native.Mathlib.Omega.{arith}
use Rattle.definition.specs.Sheet.{word}
use Rattle.sheet.proofs.read.word.Goals as goal

pub returns : goal.returns
unfolding word
returns c = omega (arith, c.from_le_bytes.ensures)
