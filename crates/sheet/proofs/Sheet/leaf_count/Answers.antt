use Rattle.std.proofs.Common.{eqb, ◌∙◌, rules, tests}
use Rattle.std.proofs.lemmas.Iterator.Consumers.{YieldsList-at, YieldsList-from_first, YieldsList-from_filter, count_from_yields_List}
use Rattle.definition.specs.Question.{Item, leaf}
use Rattle.definition.specs.Sheet.{question_of}
use Rattle.sheet.specs.Views.{item_of}
use Rattle.sheet.specs.ItemsLeft.{items_left}
use Rattle.sheet.proofs.ItemLaws.{leaves_counted}
use Rattle.sheet.proofs.Sheet.leaf_count.Goals as goal

pub returns : goal.returns
returns c =
    let given = YieldsList-from_first item_of items_left _ c.items.ensures.items in
    count_from_yields_List c.filter.result _ c.count.ensures.ran
    (YieldsList-from_filter _ (λ (x : Item). eqb x.kind leaf) (YieldsList-at c.filter.ensures.source given) c.filter.ensures.closure
    (λ x b q k. search (rules, tests)))
    ∙ leaves_counted (question_of c.args.self.now.bytes.now).items
