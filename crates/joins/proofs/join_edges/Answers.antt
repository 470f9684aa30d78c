use Prim.Native.Nat.{ℕ, ◌+◌, ◌-◌}
use mathlib.Core.Path.{◌≡◌, sym, ap, ◌∙◌}
use native.Mathlib.Omega.{arith}
use Rattle.std.proofs.Common.{rules}
use Rattle.definition.proofs.SheetLaws.{length_predicates}
use Rattle.definition.proofs.QuestionLaws.{length_open_predicates}
use Rattle.definition.specs.Edges.{edge_of}
use Rattle.definition.specs.Question.{open_question}
use Rattle.definition.specs.Sheet.{question_of}
use Rattle.tes.specs.Views.{sides_of}
use Rattle.builder.specs.Builds.{edge_lists_of, build_of}
use Rattle.definition.specs.Tables.{type_of}
use Rattle.joins.specs.Joins.{edges_by}
use Rattle.joins.specs.Laws.{added_more, added_to, more_more, edges-counted, edge_built}
use Rattle.joins.specs.JoinLaws.{by_next, by_end}
use Rattle.joins.proofs.join_edges.Goals as goal

pub overflow_add-end : goal.overflow_add-end
overflow_add-end c =
    let s = c.args.sheet.now in
    omega (arith, c.requires.sheet.inside, length_predicates s.bytes.now, s.placed.framed.few_predicates)

pub loop-p-preserved : goal.loop-p-preserved
loop-p-preserved c =
    let a = c.args in
    let sheet = a.sheet.now.bytes.now in
    let q = question_of sheet in
    let j = a.j in
    let o = c.loop-p in
    let y = c.edge_sides-y in
    let e = c.add_edge.ensures in
    let first = j.predicates.first in
    let end = first + j.predicates.count in
    let added = edge_of (sides_of y.result) o.p j.number c.typed-t.result.join_type in
    record {
      same = search rules;
      counts = more_more a.b.now (o.p - first) 1 o.invariant.counts e.counts (omega arith);
      rest = added_to (sym (edges-counted o.b 1 e.counts)) (added_more o.invariant.rest e.rest);
      built =
          by_next (open_question q) j.number j.kind j.whole.left j.whole.right o.p (end - o.p) (sides_of a.x) (build_of sheet o.b (edge_lists_of o.lists))
          (omega arith) (omega (arith, length_open_predicates q, c.requires.sheet.inside)) (omega arith) y.ensures c.typed-t.ensures.kind
          (edge_built sheet o.b (edge_lists_of o.lists) (edge_lists_of c.add_edge.new.lists) added e.counts e.edges)
          ∙ o.invariant.built;
    }

pub returns-clause-built : goal.returns-clause-built
returns-clause-built c =
    let a = c.args in
    let sheet = a.sheet.now.bytes.now in
    let q = open_question (question_of sheet) in
    let j = a.j in
    let o = c.loop-p in
    let first = j.predicates.first in
    let end = first + j.predicates.count in
    let whole : end - first ≡ j.predicates.count = omega arith in
    sym (by_end q j.number j.kind j.whole.left j.whole.right o.p (end - o.p) (sides_of a.x) (build_of sheet o.b (edge_lists_of o.lists)) (omega arith))
    ∙ o.invariant.built
    ∙ ap (λ (m : ℕ). edges_by q j.number j.kind (type_of j.kind) (record { first = first; count = m }) j.whole.left j.whole.right (sides_of a.x)
    (build_of sheet a.b.now (edge_lists_of a.lists.now))) whole
