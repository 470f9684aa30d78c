use Rattle.std.specs.Prelude.{◌≡◌, List, ℕ}
use Rattle.std.proofs.Common.{refl}
use Rattle.std.proofs.Math.Path.{subst}
use Rattle.std.proofs.lemmas.Result.{err_from_is_err_and}
use Rattle.definition.specs.Sheet.{question_of}
use Rattle.definition.specs.Call.{input_of, searched}
use Rattle.checks.specs.Answers.{rooms_of}
use Rattle.answer.specs.Answers.{reported, ended_as}
use Rattle.run.specs.Lent.{lent_of, holds}
use Rattle.planner.proofs.CallLaws.{call_refuses, call_runs}
use Rattle.planner.proofs.plan.Goals as goal

pub returns-in_err-q-clause-planned : goal.returns-in_err-q-clause-planned
returns-in_err-q-clause-planned c =
    let a = c.args in
    let h = lent_of a.edges.now a.lists.now in
    let f = c.in_err-q.field-0.0 in
    let exit = err_from_is_err_and c.from_residual.result c.from_residual.ensures.1 in
    rw (exit.1, exit.2)
    (call_refuses a.sheet.now (λ i. (c.type_inv.sheet i).fits) a.limit _ h (rooms_of c.of-rooms.result) c.of-rooms.ensures c.check.ensures.number {f = f} c.in_err-q.was)

pub returns-clause-planned : goal.returns-clause-planned
returns-clause-planned c =
    let a = c.args in
    let h = lent_of a.edges.now a.lists.now in
    let rooms = rooms_of c.of-rooms.result in
    let same = (c.in_ok-q.ensures.accepted _ refl).0 in
    call_runs a.sheet.now (λ i. (c.type_inv.sheet i).fits) a.limit _ h rooms c.of-rooms.ensures c.check.ensures.number c.in_ok-q.was _ _
    (subst (λ (bs : List ℕ). ended_as c.run.result ≡ reported (searched (input_of (question_of bs) rooms a.limit))) same c.run.ensures.answer)
    (subst (λ (bs : List ℕ). lent_of c.run.new.edges c.run.new.lists ≡ holds (searched (input_of (question_of bs) rooms a.limit)) h) same c.run.ensures.lists)
