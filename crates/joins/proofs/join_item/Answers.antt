use mathlib.Core.Path.{refl, ap₂, ◌∙◌}
use Rattle.definition.specs.Question.{open_question}
use Rattle.definition.specs.Sheet.{question_of}
use Rattle.definition.specs.Tables.{type_of}
use Rattle.sheet.specs.Views.{range_of}
use Rattle.tes.specs.Views.{sides_of}
use Rattle.builder.specs.Builds.{edge_lists_of, build_of, with_record}
use Rattle.joins.specs.Laws.{recorded}
use Rattle.joins.specs.JoinLaws.{joined}
use Rattle.joins.proofs.join_item.Goals as goal

pub returns-clause-built : goal.returns-clause-built
returns-clause-built c =
    let a = c.args in
    let j = a.j in
    let sheet = a.sheet.now.bytes.now in
    joined (open_question (question_of sheet)) j.number j.kind (type_of j.kind) (range_of j.predicates) j.whole.left j.whole.right (sides_of c.sides-x.result)
    (build_of sheet a.b.now (edge_lists_of a.lists.now)) refl c.sides-x.ensures
    (c.add_join.ensures.built sheet (edge_lists_of c.join_edges.new.lists)
    ∙ ap₂ with_record (recorded c.record.ensures c.typed.ensures.kind c.typed.ensures.whole) c.join_edges.ensures.built)
