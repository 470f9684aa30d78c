use mathlib.Core.Path.{sym, ap, ◌∙◌}
use mathlib.Core.List.{List, ◌++◌}
use Prim.Native.Nat.{ℕ, ◌+◌}
use native.Mathlib.Omega.{arith}
use Rattle.definition.specs.Question.{Predicate, part}
use Rattle.definition.specs.Sheet.{question_of}
use Rattle.definition.proofs.SheetLaws.{length_predicates}
use Rattle.definition.specs.Edges.{holders}
use Rattle.sheet.specs.Views.{range_of}
use Rattle.ses.specs.View.{leaves_of, columns_of}
use Rattle.ses.specs.Laws.{columns_from, columns_step, columns_end, holders-append, holders_done, side_whole, side_named}
use Rattle.ses.proofs.side_set.Goals as goal

pub overflow_add-p : goal.overflow_add-p
overflow_add-p c =
    let s = c.args.sheet.now in
    omega (arith, length_predicates s.bytes.now, s.placed.framed.few_predicates, c.requires.1.inside)

pub predicate-requires : goal.predicate-requires
predicate-requires c =
    let s = c.args.sheet.now in
    omega (arith, length_predicates s.bytes.now, s.placed.predicates_many, c.requires.1.inside)

pub loop-i-preserved : goal.loop-i-preserved
loop-i-preserved c =
    let a = c.args in
    let bs = a.sheet.now.bytes.now in
    let l = c.loop-i in
    let cols = (question_of bs).columns in
    let ls = leaves_of bs a.leaves.now in
    let more = columns_from bs a.p.first a.p.count (l.i + 1) in
    ap (holders ls a.side more) c.with_holders-u.ensures
    ∙ holders-append ls a.side _ more l.u
    ∙ ap (λ (x : Predicate). holders ls a.side (part x.range cols ++ more) l.u) c.predicate.ensures
    ∙ ap (λ (x : List ℕ). holders ls a.side x l.u) (sym (columns_step bs a.p.first a.p.count l.i c.loop-i-test.true c.requires.1.inside))
    ∙ l.invariant

pub returns-then-u-eq0 : goal.returns-then-u-eq0
returns-then-u-eq0 c =
    let a = c.args in
    let bs = a.sheet.now.bytes.now in
    let ls = leaves_of bs a.leaves.now in
    let named = holders_done ls a.side _ c.loop-i.u (columns_end bs a.p.first a.p.count c.loop-i.i c.loop-i-test.false) ∙ c.loop-i.invariant in
    side_whole ls a.side (columns_of bs (range_of a.p)) _ named c.if-u-eq0.true

pub returns-else-u-eq0 : goal.returns-else-u-eq0
returns-else-u-eq0 c =
    let a = c.args in
    let bs = a.sheet.now.bytes.now in
    let ls = leaves_of bs a.leaves.now in
    let named = holders_done ls a.side _ c.loop-i.u (columns_end bs a.p.first a.p.count c.loop-i.i c.loop-i-test.false) ∙ c.loop-i.invariant in
    side_named ls a.side (columns_of bs (range_of a.p)) _ named c.if-u-eq0.false
