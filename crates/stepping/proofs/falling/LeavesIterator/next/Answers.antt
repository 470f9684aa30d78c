use Rattle.std.proofs.Common.{rules, ap, ◌∙◌}
use Rattle.nodeset.specs.Subsets.{singletons}
use Rattle.nodeset.proofs.SingletonLaws.{singletons_none}
use Rattle.stepping.specs.Next.{leaves_left}
use Rattle.stepping.proofs.SetsLeft.{leaves_next, taken}
use Rattle.stepping.proofs.falling.LeavesIterator.next.Goals as goal

pub returns-then-self-eq0-clause-steps : goal.returns-then-self-eq0-clause-steps
returns-then-self-eq0-clause-steps c =
    let e = ap singletons c.if-self-eq0.true ∙ singletons_none in
    (e, e)

pub returns-clause-steps : goal.returns-clause-steps
returns-clause-steps c =
    leaves_next c.args.self.now.left _ _ c.if-self-eq0.false (search rules) c.highest_singleton-highest.ensures c.difference-self.ensures

pub returns-clause-goes : goal.returns-clause-goes
returns-clause-goes c =
    taken leaves_left _ _ _
    (leaves_next c.args.self.now.left _ _ c.if-self-eq0.false (search rules) c.highest_singleton-highest.ensures c.difference-self.ensures)
