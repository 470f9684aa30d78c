use Rattle.std.proofs.Common.{◌+◌, ◌≤◌, ◌∙◌, ap, get_or, eqb, arith, rules}
use borrow.Author.Tests.{tests}
use Rattle.std.proofs.iter.Serving.{serving}
use Rattle.std.proofs.lemmas.Iterator.{YieldsList-from_range}
use Rattle.std.proofs.lemmas.Iterator.Search.{any_from_yields_List}
use Rattle.definition.specs.Lists.{member}
use Rattle.definition.specs.Sheet.{question_of}
use Rattle.definition.proofs.SheetLaws.{length_columns}
use Rattle.ses.specs.Laws.{rest-start, member_any}
use Rattle.ses.proofs.has_column.Goals as goal

pub any-requires-clause-callable : goal.any-requires-clause-callable
any-requires-clause-callable c =
    let s = c.args.sheet.now in
    let inside : c.args.r.first + c.args.r.count ≤ s.sections.columns.count
    = omega (arith, length_columns s.bytes.now, s.placed.columns_many, c.requires) in
    grind serving

pub returns : goal.returns
returns c =
    let a = c.args in
    let r = a.r in
    let cols = (question_of a.sheet.now.bytes.now).columns in
    any_from_yields_List (λ k. eqb (get_or cols (r.first + k) 0) a.c) _ _ _ c.any.ensures.ran
    (YieldsList-from_range 0 r.count r.count (cc) (omega arith)) (λ x b q k. search (rules, tests))
    ∙ member_any a.c r.first r.count cols c.requires r.count 0 (omega arith) ∙ ap (member a.c) (rest-start r.first r.count cols)
