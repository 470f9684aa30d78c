use mathlib.Core.Path.{sym, ◌∙◌}
use native.Mathlib.Omega.{arith}
use Rattle.definition.specs.Sheet.{question_of}
use Rattle.definition.proofs.QuestionLaws.{walk_empty, walk_items}
use Rattle.definition.proofs.SheetLaws.{length_items}
use Rattle.sheet.proofs.Sheet.is_walk.Goals as goal

pub returns-then-self-eq0 : goal.returns-then-self-eq0
returns-then-self-eq0 c =
    let bs = c.args.self.now.bytes.now in
    sym (walk_empty (question_of bs) (omega (arith, length_items bs)))

pub returns : goal.returns
returns c =
    let bs = c.args.self.now.bytes.now in
    c.ends_with_one.ensures ∙ sym (walk_items (question_of bs) (omega (arith, length_items bs)))
