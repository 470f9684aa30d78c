use Rattle.std.proofs.Common.{◌-◌}
use Rattle.records.proofs.ReadLaws.{Skipped}
use Rattle.records.proofs.skip_line.Given as goal

-- what is left of the line is what is left of the whole line
abbrev pub invariant-loop : goal.invariant-loop
invariant-loop g l = Skipped (g.R.Read.remaining l.initial.input) (g.R.Read.remaining l.input) (4096 - l.counter) 4096
