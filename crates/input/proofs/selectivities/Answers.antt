use mathlib.Core.Path.{◌≡◌, sym, ap, ◌∙◌}
use mathlib.Core.List.{map}
use native.Mathlib.Omega.{arith}
use Rattle.std.specs.Prelude.{ℕ, ◌≤◌, length, take}
use Rattle.std.proofs.Common.{length-set}
use Rattle.std.proofs.lemmas.List.{length-map}
use Rattle.definition.specs.Question.{Predicate}
use Rattle.definition.specs.Sheet.{question_of}
use Rattle.definition.proofs.SheetLaws.{length_predicates}
use Rattle.input.proofs.FilledSoFar.{filled, take_all}
use Rattle.input.proofs.selectivities.Goals as goal

pub loop-i-preserved : goal.loop-i-preserved
loop-i-preserved c =
    let o = c.loop-i in
    let s = c.args.sheet.now in
    let q = question_of s.bytes.now in (
      length-set o.selectivities o.i _ ∙ o.invariant.0,
      filled (λ (x : Predicate). x.selectivity) q.predicates _ o.selectivities o.i _ (omega (arith, length_predicates s.bytes.now, s.placed.predicates_many))
          (omega (arith, o.invariant.0, s.placed.predicates_many, s.placed.framed.few_predicates)) (ap (λ p. p.selectivity) c.predicate.ensures) o.invariant.1,
    )

pub returns-clause-selectivities : goal.returns-clause-selectivities
returns-clause-selectivities c =
    let o = c.loop-i in
    let s = c.args.sheet.now in
    let q = question_of s.bytes.now in
    let e : o.i ≡ s.sections.predicates.count = omega arith in
    let xs = map (λ (x : Predicate). x.selectivity) q.predicates in
    let all : length xs ≤ o.i =
    omega (arith, length-map q.predicates (λ (x : Predicate). x.selectivity), length_predicates s.bytes.now, s.placed.predicates_many) in
    ap (λ (k : ℕ). take k o.selectivities) (sym e) ∙ o.invariant.1 ∙ take_all _ xs all
