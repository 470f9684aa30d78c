use Rattle.std.proofs.Common.{rules}
use Rattle.graph.proofs.fn.has_edge.any.Goals as goal

pub returns : goal.returns
returns c = let same = c.connects.ensures 0 0 0 in search rules
