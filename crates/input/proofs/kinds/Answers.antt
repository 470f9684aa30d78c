use mathlib.Core.Path.{◌≡◌, sym, ap, ◌∙◌}
use mathlib.Core.List.{map}
use native.Mathlib.Omega.{arith}
use Rattle.std.specs.Prelude.{ℕ, ◌≤◌, length, take}
use Rattle.std.proofs.Common.{length-set}
use Rattle.std.proofs.lemmas.List.{length-map}
use Rattle.definition.specs.Question.{Item}
use Rattle.definition.specs.Sheet.{question_of}
use Rattle.definition.proofs.SheetLaws.{length_items}
use Rattle.input.proofs.FilledSoFar.{filled, take_all}
use Rattle.input.proofs.kinds.Goals as goal

pub loop-i-preserved : goal.loop-i-preserved
loop-i-preserved c =
    let o = c.loop-i in
    let s = c.args.sheet.now in
    let q = question_of s.bytes.now in (
      length-set o.kinds o.i _ ∙ o.invariant.0,
      filled (λ (x : Item). x.kind) q.items _ o.kinds o.i _ (omega (arith, length_items s.bytes.now, s.placed.items_many))
          (omega (arith, o.invariant.0, s.placed.items_many, s.placed.framed.few_items)) (ap (λ i. i.kind) c.item.ensures.item) o.invariant.1,
    )

pub returns-clause-kinds : goal.returns-clause-kinds
returns-clause-kinds c =
    let o = c.loop-i in
    let s = c.args.sheet.now in
    let q = question_of s.bytes.now in
    let e : o.i ≡ s.sections.items.count = omega arith in
    let xs = map (λ (x : Item). x.kind) q.items in
    let all : length xs ≤ o.i =
    omega (arith, length-map q.items (λ (x : Item). x.kind), length_items s.bytes.now, s.placed.items_many) in
    ap (λ (k : ℕ). take k o.kinds) (sym e) ∙ o.invariant.1 ∙ take_all _ xs all
