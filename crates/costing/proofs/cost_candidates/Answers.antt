use Rattle.std.proofs.Common.{rules, arith, ap, ◌∙◌}
use Rattle.candidate.specs.Lent.{given_of, lists_of}
use Rattle.costing.specs.Steps.{Costs}
use Rattle.costing.proofs.StepLaws.{step_entries, steps_next, steps_end}
use Rattle.costing.proofs.cost_candidates.Goals as goal

pub loop-n-preserved : goal.loop-n-preserved
loop-n-preserved c =
    let g = given_of c.args.g.now in
    let k = c.loop-n in
    let step = c.cost_candidate-m.ensures.value in
    record {
      value = steps_next g k.n c.args.plans _ _ (omega arith) step ∙ k.invariant.value;
      same = search rules;
      entries = omega (arith, ap (λ (x : Costs). x.entries) step, step_entries g (lists_of k.l) k.m k.n);
    }

pub returns-clause-value : goal.returns-clause-value
returns-clause-value c =
    let k = c.loop-n in
    ap (λ (x : Costs). x.held) (steps_end (given_of c.args.g.now) k.n c.args.plans _ (omega arith) ∙ k.invariant.value)
