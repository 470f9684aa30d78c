use mathlib.Core.Path.{ap, ◌∙◌}
use Prim.Native.Nat.{ℕ}
use Rattle.nodeset.specs.Sets.{singleton}
use Rattle.definition.specs.Hypergraph.{none32}
use Rattle.definition.specs.Edges.{Sides, JoinRecord, edge_of, with_edge, record_of}
use Rattle.builder.specs.Builds.{edge_lists_of, build_of, with_record}
use Rattle.joins.specs.Laws.{edge_built}
use Rattle.joins.specs.JoinLaws.{crossed}
use Rattle.joins.proofs.cross_item.Goals as goal

pub returns-clause-built : goal.returns-clause-built
returns-clause-built c =
    let a = c.args in
    let j = a.j in
    let was = edge_lists_of a.lists.now in
    let now = edge_lists_of c.add_edge.new.lists in
    let sides : Sides = record { left = c.nodeset_singleton.result; right = c.nodeset_singleton-2.result } in
    λ sheet.
    crossed j.number j.whole.left j.whole.right (build_of sheet a.b.now was)
    (c.nodeset_singleton.ensures ∙ ap singleton c.nodeset_min.ensures) (c.nodeset_singleton-2.ensures ∙ ap singleton c.nodeset_min-2.ensures)
    (edge_built sheet a.b.now was now _ c.add_edge.ensures.counts c.add_edge.ensures.edges
    ∙ ap (λ (t : ℕ). with_edge (build_of sheet a.b.now was) (edge_of sides none32 j.number t)) c.number.ensures)
    (c.add_join.ensures.built sheet now
    ∙ ap (λ (r : JoinRecord). with_record r (build_of sheet c.add_edge.new.self now))
    (c.record.ensures ∙ ap (λ (t : ℕ). record_of t j.whole.left j.whole.right sides) c.number.ensures))
