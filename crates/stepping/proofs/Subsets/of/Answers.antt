use Rattle.stepping.proofs.SetsLeft.{left_all}
use Rattle.stepping.proofs.Subsets.of.Goals as goal

pub returns : goal.returns
returns c = left_all c.args.set c.ranges.set.fits
