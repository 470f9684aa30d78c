use mathlib.Core.Path.{◌≡◌}
use mathlib.Core.List.{map}
use lib.ListN.{length, take}
use Rattle.definition.specs.Question.{Item}
use Rattle.definition.specs.Sheet.{question_of}
use Rattle.input.proofs.kinds.Given as goal

-- the kinds of the items so far stand in front
abbrev pub invariant-loop-i : goal.invariant-loop-i
invariant-loop-i l =
    (length l.kinds ≡ 127) × (take l.i l.kinds ≡ take l.i (map (λ (i : Item). i.kind) (question_of l.sheet.bytes.now).items))
