use Rattle.ses.specs.View.{columns_of}
use Rattle.sheet.specs.Views.{range_of}
use Rattle.builder.specs.Builds.{edge_lists_of, edges_in, pile_of}
use Rattle.joins.specs.Laws.{edges_cut, sides_made}
use Rattle.joins.proofs.sides.Goals as goal

pub returns : goal.returns
returns c =
    let a = c.args in
    let b = a.b.now in
    let sheet = a.sheet.now.bytes.now in
    let h = edge_lists_of a.lists.now in
    sides_made sheet (edges_in b.edges h) b.joins.items b.leaves.items a.j.whole (columns_of sheet (range_of a.p)) (pile_of b.pile.items)
    (c.widen.ensures h.predicate h.source h.kind) (edges_cut b.edges h.left h.right h.predicate h.source h.kind c.requires.held.1.left)
    c.as_slice.ensures.value c.typed.ensures.kind c.typed.ensures.whole c.as_slice-leaves.ensures.value c.side_set.ensures c.side_set-2.ensures
