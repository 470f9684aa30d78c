-- A call's outcome as it is read back from its answer and the lent lists: what the rules of demand 3 and the statements on other limits speak
-- of. Definitions only.
use Rattle.std.specs.Prelude.{ℕ, get_or}
use Rattle.definition.specs.Lists.{tabulate}
use Rattle.definition.specs.EdgeView.{edges_of}
use Rattle.definition.specs.Search.{Plan, Entry}
use Rattle.definition.specs.PlanRule.{pairs_in}
use Rattle.definition.specs.Call.{Outcome}
use Rattle.store.specs.Estimates.{estimate_at}
use Rattle.candidate.specs.Store.{Lists}
use Rattle.answer.specs.declared.Report.{Report}
use Rattle.run.specs.Lent.{Lent}

abbrev pub plan_in : Lists → ℕ → Plan
plan_in h i =
    record {
      set = get_or h.pset i 0;
      left = get_or h.pleft i 0;
      right = get_or h.pright i 0;
      lead = get_or h.plead i 0;
      kind = get_or h.pkind i 0;
      estimate = estimate_at h.prows h.pcost i;
    }

abbrev pub entry_in : Lists → ℕ → Entry
entry_in h i = record { set = get_or h.mset i 0; plan = get_or h.mplan i 0 }

-- as many entries as the answer counts. n: the number of leaves; the pairs tried are those that the plans' fields name
abbrev pub read_back : ℕ → Report → Lent → Outcome
read_back n r h =
    let e = h.edges in
    let plans = tabulate r.plans (plan_in h.plans) in
    record {
      answer = r.answer;
      edges = edges_of r.edges e.left e.right e.predicate e.source e.kind;
      plans = plans;
      memo = tabulate r.memo (entry_in h.plans);
      visits = r.visits;
      chosen = r.chosen;
      tried = pairs_in n plans;
    }
