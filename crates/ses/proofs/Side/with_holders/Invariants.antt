use mathlib.Core.Path.{◌≡◌}
use Rattle.definition.specs.Sheet.{question_of}
use Rattle.definition.specs.Edges.{holders}
use Rattle.ses.specs.View.{columns_at, leaves_of}
use Rattle.ses.specs.Laws.{rest}
use Rattle.ses.proofs.Side.with_holders.Given as goal

-- u, and the columns from place i on
abbrev pub invariant-loop-i : goal.invariant-loop-i
invariant-loop-i l = holders (leaves_of l.self.sheet.bytes.now l.self.leaves.now) l.self.set
    (rest l.fn.r.first l.fn.r.count (question_of l.self.sheet.bytes.now).columns l.i) l.u
    ≡ holders (leaves_of l.self.sheet.bytes.now l.self.leaves.now) l.self.set (columns_at l.self.sheet.bytes.now l.fn.r.first l.fn.r.count) l.t
