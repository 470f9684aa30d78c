use mathlib.Core.Path.{sym, ◌∙◌}
use native.Mathlib.Omega.{arith}
use Prim.Native.Nat.{◌≤◌}
use Rattle.definition.specs.Question.{open_question}
use Rattle.definition.specs.Sheet.{question_of}
use Rattle.definition.specs.Edges.{edge_count}
use Rattle.checks.specs.Answers.{rooms_of}
use Rattle.checks.specs.RoomLaws.{many_edges, small_store, stores_fit, small_is}
use Rattle.checks.proofs.check_stores.Goals as goal

pub returns-then-edges-gt-EDGES-clause-number : goal.returns-then-edges-gt-EDGES-clause-number
returns-then-edges-gt-EDGES-clause-number c =
    let a = c.args in
    many_edges (question_of a.sheet.now.bytes.now) (rooms_of a.rooms) (omega (arith, c.edge_count-edges.ensures, c.if-edges-gt-EDGES.true))

pub returns-then-too_small-clause-number : goal.returns-then-too_small-clause-number
returns-then-too_small-clause-number c =
    let a = c.args in
    let q = question_of a.sheet.now.bytes.now in
    let edges = c.edge_count-edges.ensures in
    let few : edge_count (open_question q).items ≤ 256 = omega (arith, edges, c.if-edges-gt-EDGES.false) in
    small_store q (rooms_of a.rooms) few (sym (small_is q (rooms_of a.rooms) edges c.leaf_count-leaves.ensures c.too_small.ensures) ∙ c.if-too_small.true)

pub returns-clause-number : goal.returns-clause-number
returns-clause-number c =
    let a = c.args in
    let q = question_of a.sheet.now.bytes.now in
    let edges = c.edge_count-edges.ensures in
    let few : edge_count (open_question q).items ≤ 256 = omega (arith, edges, c.if-edges-gt-EDGES.false) in
    stores_fit q (rooms_of a.rooms) few (sym (small_is q (rooms_of a.rooms) edges c.leaf_count-leaves.ensures c.too_small.ensures) ∙ c.if-too_small.false)
