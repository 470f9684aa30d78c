-- The whole call: from the sheet's bytes, the lengths of the three stores and the visit limit to everything that it writes and answers.
use Rattle.std.specs.Prelude.{ℕ, zero, suc, min, Bool, true, false, ◌||◌, List, [], ◌∷◌, ◌++◌, map, eqb, ltb}
use Rattle.definition.specs.Answers.{too_many_edges, store_too_small}
use Rattle.definition.specs.Question.{Item, Predicate, Question, open_question, leaf, leaf_count}
use Rattle.definition.specs.Sheet.{Check, check, first_failing, sheet_answer, question_of}
use Rattle.definition.specs.Hypergraph.{Edge, none32}
use Rattle.definition.specs.Edges.{build_hypergraph, edge_count}
use Rattle.definition.specs.Search.{Plan, Entry, Pair, Leaf, Input, search, complete, ending, chosen_plan}

-- "its length is that of its shortest list, and a length above 16,777,216 counts as 16,777,216". The lengths of a store's lists
unfoldable pub store_length : List ℕ → ℕ
store_length [] = 16777216
store_length (n ∷ ns) = min n (store_length ns)

-- the lengths of the three stores
pub record Rooms : Type 0 where
  pub edges : ℕ
  pub plans : ℕ
  pub memo : ℕ

-- "A store is one lent list for each field": the lengths of the edge, plan and memo lists
abbrev pub rooms_of : List ℕ → List ℕ → List ℕ → Rooms
rooms_of edges plans memo = record { edges = store_length edges; plans = store_length plans; memo = store_length memo }

-- Request 2026-06: "The default falls from 1,000,000 to 100,000 looks." Document 01: "Without a stated limit it is 1,000,000."
abbrev pub default_limit : ℕ
default_limit = 100000

-- "Beside its number an answer has counts of edges, plans and memo entries written, looks, and the chosen plan's number": the counts are the
-- lengths of what is written. `tried` is written nowhere: it can be read off the plans, as the sets of those that left and right name
pub record Outcome : Type 0 where
  pub answer : ℕ
  pub edges : List Edge
  pub plans : List Plan
  pub memo : List Entry
  pub visits : ℕ
  pub chosen : ℕ
  pub tried : List Pair

-- ---- what is refused

-- tangle: "more than 256 edges"
abbrev pub edge_checks : Question → List Check
edge_checks q = check (ltb 256 (edge_count (open_question q).items)) too_many_edges ∷ []

-- small crate: "edge store below the edge count, or plan or memo store below the leaf count"
abbrev pub store_checks : Question → Rooms → List Check
store_checks q rooms =
    let items = (open_question q).items in
    check (ltb rooms.edges (edge_count items) || ltb rooms.plans (leaf_count items) || ltb rooms.memo (leaf_count items)) store_too_small ∷ []

-- the answer that writes nothing, and 0, which is no such answer's number, where there is none: 1 to 9, "then 8 to 11"
unfoldable pub refused_with : List ℕ → Rooms → ℕ
refused_with bs rooms =
    elim (sheet_answer bs) [ zero ↦ first_failing (edge_checks (question_of bs) ++ store_checks (question_of bs) rooms) | suc n ↦ suc n ]

-- "A sheet is accepted if its call gets none of 1 to 11"
abbrev pub accepted : List ℕ → Rooms → Bool
accepted bs rooms = eqb (refused_with bs rooms) 0

-- "Answers 1 to 11 write nothing." "After 1 to 11 .. the counts are 0."
abbrev pub refusal : ℕ → Outcome
refusal n = record { answer = n; edges = []; plans = []; memo = []; visits = 0; chosen = none32; tried = [] }

-- ---- what is searched

-- the number of leaves
abbrev pub leaves_in : List ℕ → ℕ
leaves_in bs = leaf_count (open_question (question_of bs)).items

unfoldable pub leaves_of : List Item → List Leaf
leaves_of [] = []
leaves_of (i ∷ is) = elim (eqb i.kind leaf) [ true ↦ record { rows = i.rows; columns = i.range.count } ∷ leaves_of is | false ↦ leaves_of is ]

abbrev pub input_of : Question → Rooms → ℕ → Input
input_of q rooms limit =
    record {
      leaves = leaves_of q.items;
      edges = build_hypergraph (open_question q);
      kinds = map (λ (i : Item). i.kind) q.items;
      selectivities = map (λ (p : Predicate). p.selectivity) q.predicates;
      plan_room = rooms.plans;
      memo_room = rooms.memo;
      limit = limit;
    }

-- "after every other answer exactly the edges, plans and memo entries made so far"
unfoldable pub searched : Input → Outcome
searched i =
    let st = search i in
    record {
      answer = ending st.stop (complete i st);
      edges = i.edges;
      plans = st.plans;
      memo = st.memo;
      visits = st.visits;
      chosen = chosen_plan st.stop (complete i st);
      tried = st.tried;
    }

unfoldable pub call : List ℕ → Rooms → ℕ → Outcome
call bs rooms limit = elim (refused_with bs rooms) [ zero ↦ searched (input_of (question_of bs) rooms limit) | suc n ↦ refusal (suc n) ]
