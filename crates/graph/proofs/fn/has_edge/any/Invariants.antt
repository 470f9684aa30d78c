use Rattle.std.specs.Prelude.{◌≡◌}
use Rattle.graph.specs.View.{sides_connect}
use Rattle.graph.proofs.fn.has_edge.any.Given as goal

abbrev pub ensures : goal.ensures
ensures l r = r ≡ sides_connect l.a l.b (l.l.entry.now, l.r.entry.now)
