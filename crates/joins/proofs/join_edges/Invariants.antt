-- The edges from p on are what the join still adds.
use mathlib.Core.Path.{◌≡◌}
use Prim.Native.Nat.{◌-◌}
use Rattle.definition.specs.Question.{open_question}
use Rattle.definition.specs.Sheet.{question_of}
use Rattle.definition.specs.Tables.{type_of}
use Rattle.tes.specs.Views.{sides_of}
use Rattle.builder.specs.Builds.{edge_lists_of, SameEdgeLists, build_of, more_edges, Added}
use Rattle.joins.specs.Joins.{edges_by}
use Rattle.joins.proofs.join_edges.Given as goal

abbrev pub invariant-loop-p : goal.invariant-loop-p
invariant-loop-p l =
    let sheet = l.sheet.bytes.now in
    let q = open_question (question_of sheet) in
    let j = l.j in
    record {
      same : SameEdgeLists l.initial.lists l.lists;
      counts : l.b ≡ more_edges (l.p - l.first) l.initial.b;
      rest : Added l.initial.b.edges l.b.edges (edge_lists_of l.initial.lists) (edge_lists_of l.lists);
      built : edges_by q j.number j.kind (type_of j.kind) (record { first = l.p; count = l.end - l.p }) j.whole.left j.whole.right (sides_of l.x)
          (build_of sheet l.b (edge_lists_of l.lists))
          ≡ edges_by q j.number j.kind (type_of j.kind) (record { first = l.first; count = l.end - l.first }) j.whole.left j.whole.right (sides_of l.x)
          (build_of sheet l.initial.b (edge_lists_of l.initial.lists));
    }
