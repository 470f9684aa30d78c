use Rattle.std.proofs.Common.{arith}
use Rattle.listing.specs.Text.{lines_length}
use Rattle.listing.specs.TextLaws.{lines_longer}
use Rattle.listing.proofs.text_length.Goals as goal

pub loop-k-init : goal.loop-k-init
unfolding lines_length
loop-k-init c = (omega arith, omega arith)

pub loop-k-preserved : goal.loop-k-preserved
loop-k-preserved c = (omega arith, omega (arith, lines_longer c.loop-k.k))
