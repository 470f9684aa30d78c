use mathlib.Core.Path.{ap}
use Rattle.std.proofs.Common.{rules}
use Rattle.builder.specs.declared.HypergraphBuilder.{HypergraphBuilder}
use Rattle.builder.specs.Builds.{edge_lists_of}
use Rattle.hypergraph.specs.NextLaws.{leaf_room, leaf_next, join_two, cross_room, join_room, cross_next, join_next}
use Rattle.hypergraph.proofs.item.Goals as goal

pub add_leaf-requires : goal.add_leaf-requires
add_leaf-requires c = leaf_room c.requires c.if-x-eq-LEAF.true

pub returns-then-x-eq-LEAF : goal.returns-then-x-eq-LEAF
returns-then-x-eq-LEAF c =
    let sheet = c.args.sheet.now.bytes.now in
    let e = c.add_leaf.ensures in
    let w =
    leaf_next c.requires c.if-x-eq-LEAF.true c.add_leaf.new.self (ap (λ (b : HypergraphBuilder). b.edges) e.counts)
    (e.built sheet (edge_lists_of c.args.lists.now)) (e.leaves sheet) in
    record { same = search rules; built = w.built; along = w.along; rest = w.rest }

pub top_two-requires : goal.top_two-requires
top_two-requires c = join_two c.requires c.if-x-eq-LEAF.false

pub cross_item-requires : goal.cross_item-requires
cross_item-requires c = cross_room c.requires c.if-x-eq-LEAF.false c.if-x-eq-CROSS_PRODUCT.true

pub join_item-requires-clause-held : goal.join_item-requires-clause-held
join_item-requires-clause-held c = join_room c.requires c.if-x-eq-LEAF.false c.if-x-eq-CROSS_PRODUCT.false

pub returns-then-x-eq-CROSS_PRODUCT : goal.returns-then-x-eq-CROSS_PRODUCT
returns-then-x-eq-CROSS_PRODUCT c =
    let sheet = c.args.sheet.now.bytes.now in
    let j = c.cross_item in
    let e = j.ensures in
    let top = c.top_two.ensures in
    let w =
    cross_next c.requires c.if-x-eq-LEAF.false j.new.b (edge_lists_of j.new.lists) top.left top.right (e.leaves.1 sheet c.requires.along.fits) e.rest
    c.if-x-eq-CROSS_PRODUCT.true (e.built sheet) in
    record { same = e.same; built = w.built; along = w.along; rest = w.rest }

pub returns-else-x-eq-CROSS_PRODUCT : goal.returns-else-x-eq-CROSS_PRODUCT
returns-else-x-eq-CROSS_PRODUCT c =
    let j = c.join_item in
    let e = j.ensures in
    let top = c.top_two.ensures in
    let w =
    join_next c.requires c.if-x-eq-LEAF.false j.new.b (edge_lists_of j.new.lists) top.left top.right e.leaves.1 e.rest c.if-x-eq-CROSS_PRODUCT.false
    e.built in
    record { same = e.same; built = w.built; along = w.along; rest = w.rest }
