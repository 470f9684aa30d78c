use Rattle.candidate.specs.Lent.{given_of, lists_of}
use Rattle.costing.proofs.StepLaws.{step_some}
use Rattle.costing.proofs.cost_candidate.Goals as goal

pub returns-clause-value : goal.returns-clause-value
returns-clause-value c =
    step_some (given_of c.args.g.now) (lists_of c.args.l.now) _ c.args.m c.args.n c.in-Some.c c.in-Some.ensures c.write.ensures.value
