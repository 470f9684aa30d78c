-- The call's answer in document 01's numbers. Definitions only.
use Rattle.std.specs.Prelude.{length, Result, Ok, Err}
use Rattle.definition.specs.Hypergraph.{none32}
use Rattle.definition.specs.Call as call
use Rattle.checks.specs.Answers.{refusal_number}
use Rattle.checks.specs.declared.Refusal.{Refusal}
use Rattle.search.specs.View.{ending_number, chosen_of}
use Rattle.answer.specs.declared.Outcome.{Outcome}
use Rattle.answer.specs.declared.Report.{Report}

-- what an outcome reports: "Beside its number an answer has counts of edges, plans and memo entries written, looks, and the chosen plan's
-- number"
abbrev pub reported : call.Outcome → Report
reported o =
    record {
      answer = o.answer;
      edges = length o.edges;
      plans = length o.plans;
      memo = length o.memo;
      visits = o.visits;
      chosen = o.chosen;
    }

abbrev pub ended_as : Outcome → Report
ended_as o =
    record {
      answer = ending_number o.ending;
      edges = o.edges;
      plans = o.plans;
      memo = o.memo;
      visits = o.visits;
      chosen = chosen_of o.ending;
    }

-- "After 1 to 11 .. the counts are 0"
abbrev pub reported_of : Result Outcome Refusal → Report
reported_of (Err f) = record { answer = refusal_number f; edges = 0; plans = 0; memo = 0; visits = 0; chosen = none32 }
reported_of (Ok o) = ended_as o
