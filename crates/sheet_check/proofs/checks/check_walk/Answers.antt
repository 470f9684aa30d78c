use mathlib.Core.Path.{sym, ◌∙◌}
use Prim.Native.Nat.{◌≤◌}
use native.Mathlib.Omega.{arith}
use Rattle.definition.specs.Question.{open_question, leaf_count}
use Rattle.definition.specs.Sheet.{question_of}
use Rattle.definition.proofs.SheetLaws.{walk_crowded, walk_broken, walk_whole}
use Rattle.sheet_check.proofs.checks.check_walk.Goals as goal

pub returns-then-crowded : goal.returns-then-crowded
returns-then-crowded c =
    let q = question_of c.args.sheet.now.bytes.now in
    sym (walk_crowded q (omega arith))

pub returns-then-broken : goal.returns-then-broken
returns-then-broken c =
    let q = question_of c.args.sheet.now.bytes.now in
    let few : leaf_count (open_question q).items ≤ 64 = omega arith in
    sym (walk_broken q few (sym c.is_walk-broken.ensures ∙ c.if-broken.true))

pub returns : goal.returns
returns c =
    let q = question_of c.args.sheet.now.bytes.now in
    let few : leaf_count (open_question q).items ≤ 64 = omega arith in
    sym (walk_whole q few (sym c.is_walk-broken.ensures ∙ c.if-broken.false))
