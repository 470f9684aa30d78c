-- Demand 3, the open-list rule, for the whole call from the sheet's bytes: what of an outcome is open, and which sheets are compared.
-- Definitions only.
use Rattle.std.specs.Prelude.{◌≡◌, true, List, map, ℕ, ◌+◌, ◌≤◌, ◌<◌, length, get_or}
use Rattle.definition.specs.Question.{leaf}
use Rattle.definition.specs.Sheet.{Bytes, item_count, predicate_count, rows_at, selectivity_at, item_at, predicate_at}
use Rattle.definition.specs.Hypergraph.{Edge}
use Rattle.definition.specs.Search.{Entry, Pair}
use Rattle.definition.specs.Call.{Rooms, Outcome, accepted, leaves_in, call}
use Rattle.definition.specs.PlanRule.{pairs_in}

-- ---- what is open

-- "Equal are the edges with all their fields, the left and right set of every trial, and the memo's sets, each in order; the looks; the three
-- counts; the answer number."
pub record OpenPart : Type 0 where
  pub answer : ℕ
  pub edges : List Edge
  pub pairs : List Pair
  pub sets : List ℕ
  pub visits : ℕ
  pub edge_count : ℕ
  pub plan_count : ℕ
  pub memo_count : ℕ

-- of an outcome over n leaves, from what it writes: the pairs are read off the plans
abbrev pub open_part : ℕ → Outcome → OpenPart
open_part n o =
    record {
      answer = o.answer;
      edges = o.edges;
      pairs = pairs_in n o.plans;
      sets = map (λ (e : Entry). e.set) o.memo;
      visits = o.visits;
      edge_count = length o.edges;
      plan_count = length o.plans;
      memo_count = length o.memo;
    }

-- ---- which sheets are compared

-- byte k is one of the word at byte w
pub record InWord (w k : ℕ) : Type 0 where
  pub from : w ≤ k
  pub below : k < w + 4

-- "leaf rows and shares": byte k of the sheet is one of a leaf's row count or of a predicate's selectivity
pub data Confidential (bs : List ℕ) (k : ℕ) : Type 0 where
  in_rows : (i : ℕ) → i < item_count bs → (item_at bs i).kind ≡ leaf → InWord (rows_at bs i) k → Confidential bs k
  in_selectivity : (p : ℕ) → p < predicate_count bs → InWord (selectivity_at bs p) k → Confidential bs k

-- "on sheets of one form whose words differ only in leaf rows and shares"
pub record SameOpenBytes (bs cs : List ℕ) : Type 0 where
  pub size : length bs ≡ length cs
  pub same : (k : ℕ) → (Confidential bs k → ⊥) → get_or bs k 0 ≡ get_or cs k 0

-- "row counts and shares within their limits": "share (0 to 65,536 ..)"; a row count may be any word of four bytes
abbrev pub SelectivitiesFit : List ℕ → Type 0
SelectivitiesFit bs = (p : ℕ) → p < predicate_count bs → (predicate_at bs p).selectivity ≤ 65536

-- ---- the rule

-- "Whatever row counts and shares within their limits replace those of an accepted sheet, with stores and all other lent memory equally long and
-- the same look limit": of the outcome o of a call on bs with these stores and this limit
abbrev pub OpenListRule : List ℕ → Rooms → ℕ → Outcome → Type 0
OpenListRule bs rooms limit o =
    (cs : List ℕ) → Bytes cs → SameOpenBytes bs cs → SelectivitiesFit cs
    → (accepted cs rooms ≡ true) × (open_part (leaves_in bs) o ≡ open_part (leaves_in cs) (call cs rooms limit))
