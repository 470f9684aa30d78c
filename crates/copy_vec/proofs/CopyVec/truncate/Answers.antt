use Rattle.std.specs.Prelude.{length}
use Rattle.std.proofs.Common.{arith, ◌∙◌}
use Rattle.std.proofs.Math.Path.{ap}
use Rattle.copy_vec.specs.CopyVec.{CopyVec, shortened}
use Rattle.copy_vec.proofs.Shortened.{fewer, none_fewer}
use Rattle.copy_vec.proofs.CopyVec.truncate.Goals as goal

pub returns-then-len : goal.returns-then-len
returns-then-len g c =
    let i = c.self.inside in
    let held = ap (λ (v : CopyVec _). length v.items) c.self.view_is in
    fewer i.cells.xs i.len c.args.len (omega (arith, c.if-len.true, c.len.ensures.value, held)) c.self.invariant
    ∙ ap (shortened c.args.len) c.self.view_is

pub returns-else-len : goal.returns-else-len
returns-else-len g c = none_fewer c.args.self.now c.args.len (omega (arith, c.requires, c.if-len.false, c.len.ensures.value))
