use mathlib.Core.Path.{◌≡◌}
use Rattle.definition.specs.Edges.{holders}
use Rattle.sheet.specs.Views.{range_of}
use Rattle.ses.specs.View.{leaves_of, columns_of}
use Rattle.ses.specs.Laws.{columns_from}
use Rattle.ses.proofs.side_set.Given as goal

-- u, and the predicates from place i on
abbrev pub invariant-loop-i : goal.invariant-loop-i
invariant-loop-i l = holders (leaves_of l.sheet.bytes.now l.leaves) l.side (columns_from l.sheet.bytes.now l.p.first l.p.count l.i) l.u
    ≡ holders (leaves_of l.sheet.bytes.now l.leaves) l.side (columns_of l.sheet.bytes.now (range_of l.p)) 0
