use mathlib.Core.Path.{refl, sym, ◌∙◌}
use lib.ListN.{length}
use native.Mathlib.Omega.{arith}
use Rattle.std.proofs.Common.{rules}
use Rattle.std.proofs.lemmas.Iterator.Consumers.{YieldsList-from_first}
use Rattle.std.proofs.lemmas.List.{length_push}
use Rattle.definition.specs.EdgeView.{edges_of}
use Rattle.definition.specs.Lists.{tabulate}
use Rattle.definition.specs.Sheet.{question_of}
use Rattle.sheet.specs.Views.{item_of}
use Rattle.sheet.specs.ItemsLeft.{items_left}
use Rattle.builder.specs.Builds.{edge_lists_of, build_of}
use Rattle.joins.specs.Laws.{added_none, added_more, longer_less}
use Rattle.hypergraph.specs.WalkLaws.{along_start, rest_step, rest_end, whole_count, whole_few, whole-lists}
use Rattle.hypergraph.proofs.Numbered.{numbered, numbered_all}
use Rattle.hypergraph.proofs.build_hypergraph.Goals as goal

pub loop-k-init : goal.loop-k-init
unfolding tabulate edges_of
loop-k-init c =
    let a = c.args in
    let sheet = a.sheet.now.bytes.now in
    let l = edge_lists_of a.lists.now in
    rw c.new-b.ensures (record { same = search rules; along = along_start sheet l c.requires.0 c.requires.2; built = refl; added = added_none 0 l })

pub loop-k-preserved : goal.loop-k-preserved
loop-k-preserved c =
    let sheet = c.args.sheet.now.bytes.now in
    let o = c.loop-k in
    let x = c.item in
    let was = build_of sheet o.b (edge_lists_of o.lists) in
    let now = build_of sheet x.new.b (edge_lists_of x.new.lists) in
    let t =
    numbered c.into_iter-k-iterator.ensures.into_iter_gives c.enumerate-k-items.ensures.source c.enumerate-k-items.ensures.count
    (YieldsList-from_first item_of items_left (question_of sheet).items c.items.ensures.items)
    o.yielded o.k-iterator o.yielded_by c.next.result c.next.new.self c.in-Some.k c.in-Some.x c.in-Some.is c.next.ensures.steps in
    let e = x.ensures in
    rw (length_push o.yielded (c.in-Some.k, c.in-Some.x))
    (record {
      same = search rules;
      along = rw t.0 at e.along;
      built = rest_step sheet (length o.yielded) was now t.1 (rw t.0 at e.built) ∙ o.invariant.built;
      added = added_more o.invariant.added e.rest;
    })

pub overflow_cast-result : goal.overflow_cast-result
overflow_cast-result c =
    let sheet = c.args.sheet.now.bytes.now in
    let o = c.loop-k in
    let t =
    numbered_all c.into_iter-k-iterator.ensures.into_iter_gives c.enumerate-k-items.ensures.source c.enumerate-k-items.ensures.count
    (YieldsList-from_first item_of items_left (question_of sheet).items c.items.ensures.items)
    o.yielded o.k-iterator o.yielded_by c.next.result c.next.new.self c.in-None.is c.next.ensures.steps in
    let built = sym (rest_end sheet (length o.yielded) (build_of sheet o.b (edge_lists_of o.lists)) (omega arith)) ∙ o.invariant.built in
    omega (arith, whole_few sheet o.b (edge_lists_of o.lists) built c.requires.0, c.requires.1)

pub returns : goal.returns
returns c =
    let sheet = c.args.sheet.now.bytes.now in
    let o = c.loop-k in
    let l = edge_lists_of o.lists in
    let t =
    numbered_all c.into_iter-k-iterator.ensures.into_iter_gives c.enumerate-k-items.ensures.source c.enumerate-k-items.ensures.count
    (YieldsList-from_first item_of items_left (question_of sheet).items c.items.ensures.items)
    o.yielded o.k-iterator o.yielded_by c.next.result c.next.new.self c.in-None.is c.next.ensures.steps in
    let built = sym (rest_end sheet (length o.yielded) (build_of sheet o.b l) (omega arith)) ∙ o.invariant.built in
    record {
      same = search rules;
      count = whole_count sheet o.b l built;
      lists = whole-lists sheet o.b l built (edge_lists_of c.args.lists.now) o.invariant.added (longer_less (omega arith) o.invariant.along.edges);
    }
