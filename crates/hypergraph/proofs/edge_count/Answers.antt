use Rattle.std.proofs.Common.{refl, sym, ◌∙◌, arith, rules, tests}
use Rattle.std.proofs.lemmas.Iterator.{YieldsList-from_map}
use Rattle.std.proofs.lemmas.Iterator.Adapters.{fits_from_length, at_most_from_yields_List}
use Rattle.std.proofs.lemmas.Iterator.Consumers.{YieldsList-at, YieldsList-from_first, sum_by_from_yields_List}
use Rattle.definition.specs.Question.{Item, open_item}
use Rattle.definition.specs.Sheet.{question_of}
use Rattle.sheet.specs.Views.{item_of}
use Rattle.sheet.specs.ItemsLeft.{items_left}
use Rattle.hypergraph.specs.Walk.{item_edges}
use Rattle.hypergraph.specs.WalkLaws.{edges_summed}
use Rattle.hypergraph.proofs.edge_count.Goals as goal

pub sum-requires-clause-fits : goal.sum-requires-clause-fits
sum-requires-clause-fits c =
    let given = YieldsList-from_first item_of items_left (items_left c.items.result) refl in
    fits_from_length _ _ 127 _ (at_most_from_yields_List (YieldsList-at c.map.ensures.source given) c.items.ensures.few)
    c.map.ensures.closure (omega arith) (λ x r q k. search (rules, tests))

pub returns : goal.returns
returns c =
    let items = (question_of c.args.sheet.now.bytes.now).items in
    let given = YieldsList-from_first item_of items_left items c.items.ensures.items in
    sum_by_from_yields_List (λ (x : Item). item_edges (open_item x)) items c.map.result _ c.sum.ensures.ran
    (YieldsList-from_map _ (λ (x : Item). item_edges (open_item x)) (YieldsList-at c.map.ensures.source given) c.map.ensures.closure
    (λ x r q k. search (rules, tests)))
    ∙ sym (edges_summed items)
