-- The open-list rule for the whole call, from the sheet's bytes. Assumes nothing.
use Rattle.std.specs.Prelude.{◌≡◌, refl, true, ◌||◌, List, [], ◌∷◌, eqb}
use Rattle.std.proofs.Common.{sym, ap, ◌∙◌}
use Rattle.std.proofs.Math.Path.{ap₂}
use Prim.Native.Nat.{ℕ, zero, suc}
use Rattle.std.proofs.Math.Dec.{ltb}
use Rattle.definition.specs.Answers.{too_many_edges, store_too_small}
use Rattle.definition.specs.Question.{OpenQuestion, open_question, leaf_count}
use Rattle.definition.specs.Sheet.{Bytes, check, first_failing, question_of}
use Rattle.definition.specs.Edges.{build_hypergraph, edge_count}
use Rattle.definition.specs.Search.{Input, search}
use Rattle.definition.specs.Call.{Rooms, refused_with, accepted, leaves_in, input_of, searched, call}
use Rattle.definition.specs.OpenRule.{open_part, SameOpenBytes, SelectivitiesFit, OpenListRule}
use Rattle.definition.proofs.OpenSearch.{SameForm, search_same, answer_same, memo_length}
use Rattle.definition.proofs.InputLaws.{leaves-counted}
use Rattle.definition.proofs.PlanRuleLaws.{accepted-call, call-searched, call_limits, call-pairs}
use Rattle.definition.proofs.OpenSheetLaws.{question_same, sheet_answer_same}

module _ (bs cs : List ℕ) (rooms : Rooms) (a : accepted bs rooms ≡ true) (s : SameOpenBytes bs cs) (fit : SelectivitiesFit cs) where
  pub same_question : open_question (question_of bs) ≡ open_question (question_of cs)
  same_question = question_same bs cs (accepted-call bs rooms a).framed s

  -- ---- the other sheet is accepted too: answers 1 to 9, then 10 and 11, read nothing else

  refused_same : refused_with bs rooms ≡ refused_with cs rooms
  unfolding refused_with
  refused_same =
      ap₂ (λ (n m : ℕ). elim n [ zero ↦ m | suc k ↦ suc k ]) (sheet_answer_same bs cs (accepted-call bs rooms a) s fit) (ap answer same_question)
    where
      answer : OpenQuestion → ℕ
      answer q =
          first_failing
          (check (ltb 256 (edge_count q.items)) too_many_edges
          ∷ check (ltb rooms.edges (edge_count q.items) || ltb rooms.plans (leaf_count q.items) || ltb rooms.memo (leaf_count q.items)) store_too_small
          ∷ [])

  pub accepted_same : accepted cs rooms ≡ true
  accepted_same = ap (λ (n : ℕ). eqb n 0) (sym refused_same) ∙ a

  -- ---- the search is given the same form

  module _ (limit : ℕ) where
    abbrev here : Input
    here = input_of (question_of bs) rooms limit

    abbrev there : Input
    there = input_of (question_of cs) rooms limit

    form : SameForm here there
    form =
        record {
          leaves =
              leaves-counted (question_of bs).items ∙ ap (λ (q : OpenQuestion). leaf_count q.items) same_question ∙ sym (leaves-counted (question_of cs).items);
          edges = ap build_hypergraph same_question;
          plan_room = refl;
          memo_room = refl;
          limit = refl;
        }

    -- ---- so the open part is the same

    call_open_same : Bytes bs → Bytes cs → open_part (leaves_in bs) (call bs rooms limit) ≡ open_part (leaves_in cs) (call cs rooms limit)
    unfolding searched
    call_open_same here-bytes there-bytes =
        let sided = (call_limits bs rooms a here-bytes limit).edges in
        let r = search_same here there form sided in
        let answer = answer_same here there form sided in
        let e = call-searched bs rooms a limit in
        let g = call-searched cs rooms accepted_same limit in
        let edges = form.edges in
        let pairs = call-pairs bs here-bytes rooms limit in
        let pairs' = call-pairs cs there-bytes rooms limit in
        let tried = r.tried in
        let plans = r.plans in
        let sets = r.memo in
        let visits = r.visits in
        let memo = memo_length (search here) (search there) r in
        cc

-- ---- the theorem

pub open_list_rule : (bs : List ℕ) → Bytes bs → (rooms : Rooms) (limit : ℕ) → accepted bs rooms ≡ true → OpenListRule bs rooms limit (call bs rooms limit)
open_list_rule bs bytes rooms limit a cs others s fit = (accepted_same bs cs rooms a s fit, call_open_same bs cs rooms a s fit limit bytes others)
