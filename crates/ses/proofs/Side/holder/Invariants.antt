use mathlib.Core.Path.{◌≡◌}
use lib.ListN.{drop}
use Rattle.definition.specs.Edges.{holder}
use Rattle.ses.specs.View.{leaves_of}
use Rattle.ses.proofs.Side.holder.Given as goal

-- the leaves from k on decide
abbrev pub invariant-loop-k : goal.invariant-loop-k
invariant-loop-k l = holder l.k (drop l.k (leaves_of l.self.sheet.bytes.now l.self.leaves.now)) l.self.set l.c
    ≡ holder 0 (leaves_of l.self.sheet.bytes.now l.self.leaves.now) l.self.set l.c
