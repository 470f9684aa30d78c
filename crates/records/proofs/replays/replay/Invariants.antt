use Rattle.std.proofs.Common.{◌≡◌}
use Rattle.records.proofs.replays.replay.Given as goal

-- as many records were seen as turns were made
abbrev pub invariant-loop : goal.invariant-loop
invariant-loop g l = g.T.Tally.records l.tally ≡ l.counter
