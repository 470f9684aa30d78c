use mathlib.Core.Path.{◌≡◌}
use mathlib.Core.List.{map}
use lib.ListN.{length, take}
use Rattle.definition.specs.Question.{Predicate}
use Rattle.definition.specs.Sheet.{question_of}
use Rattle.input.proofs.selectivities.Given as goal

-- the selectivities of the predicates so far stand in front
abbrev pub invariant-loop-i : goal.invariant-loop-i
invariant-loop-i l =
    (length l.selectivities ≡ 256)
    × (take l.i l.selectivities ≡ take l.i (map (λ (p : Predicate). p.selectivity) (question_of l.sheet.bytes.now).predicates))
