use Rattle.std.proofs.Common.{◌≡◌, ◌+◌, ◌*◌, ◌≤◌}
use Rattle.listing.specs.Text.{head_length, lines_length}
use Rattle.listing.proofs.text_length.Given as goal

abbrev pub invariant-loop-k : goal.invariant-loop-k
invariant-loop-k l = (l.n ≤ 33 + 45 * l.k) × (l.n ≡ head_length l.answer l.trials l.visits + lines_length l.k)
