use Rattle.std.proofs.Common.{◌+◌, ◌*◌, ◌≤◌}
use Rattle.definition.specs.TriedList.{tried_lines}
use Rattle.listing.specs.Text.{Puts, pairs_of}
use Rattle.listing.specs.Same.{Same}
use Rattle.listing.proofs.text.Text.put_list.Given as goal

abbrev pub invariant-loop-i : goal.invariant-loop-i
invariant-loop-i l =
    Same l.initial.self l.self
    × (l.self.at ≤ 33 + 45 * l.i)
    × Puts (tried_lines 0 (pairs_of l.left l.right l.i)) l.initial.self.out.now l.self.out.now l.initial.self.at l.self.at
