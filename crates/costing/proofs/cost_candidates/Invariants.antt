use Rattle.std.proofs.Common.{◌≡◌, ◌-◌, ◌≤◌}
use Rattle.candidate.specs.Lent.{given_of, lists_of, SameLists}
use Rattle.costing.specs.Steps.{costs, steps_in}
use Rattle.costing.proofs.cost_candidates.Given as goal

abbrev pub invariant-loop-n : goal.invariant-loop-n
invariant-loop-n l =
    let g = given_of l.g in record {
      value : steps_in g (l.plans - l.n) l.n (costs (lists_of l.l) l.m) ≡ steps_in g (l.plans - l.leaves) l.leaves (costs (lists_of l.initial.l) l.leaves);
      same : SameLists l.initial.l l.l;
      entries : l.m ≤ l.n;
    }
