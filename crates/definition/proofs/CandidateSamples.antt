-- A visit and a candidate at the limits, by computation: three leaves in a row. Then a candidate's rows, whichever way its lead edge lies: two
-- leaves.
use Rattle.std.specs.Prelude.{◌≡◌, refl, false, List, [], ◌∷◌, ◌++◌, map, ℕ, length, pos, Float}
use Rattle.std.specs.Float.{fin}
use Rattle.std.specs.Float.Ieee.{mul, add, div, lt, of_int}
use Rattle.nodeset.specs.Sets.{singleton}
use Rattle.definition.specs.Question.{leaf, inner}
use Rattle.definition.specs.Hypergraph.{connecting_from}
use Rattle.definition.specs.Cost.{filtered, candidate_from}
use Rattle.definition.specs.Connection.{any_predicate, candidate_kind, selectivities_of, connection_over}
use Rattle.definition.specs.Walk.{each}
use Rattle.definition.specs.Search.{Entry, Leaf, Input, Pair, State, plan_at, find, replace, visit, candidate, memo_after, linked, joined, attempt}
use Rattle.definition.specs.Search.{leaf_plans, leaf_entries, start}

abbrev scan : ℕ → Leaf
scan rows = record { rows = rows; columns = 1 }

-- three leaves in a row: their rows, the two selectivities, the lengths of the plan and the memo store, the limit
abbrev pub chain : List ℕ → List ℕ → ℕ → ℕ → ℕ → Input
chain rows ss plan_room memo_room limit =
    record {
      leaves = map scan rows;
      edges = record { left = 1; right = 2; predicate = 0; source = 2; type = 0 } ∷ record { left = 2; right = 4; predicate = 1; source = 4; type = 0 } ∷ [];
      kinds = leaf ∷ leaf ∷ inner ∷ leaf ∷ inner ∷ [];
      selectivities = ss;
      plan_room = plan_room;
      memo_room = memo_room;
      limit = limit;
    }

-- after these pairs
unfoldable pub tried : Input → List Pair → State
unfolding singleton connecting_from any_predicate selectivities_of connection_over filtered candidate_from find replace candidate_kind candidate memo_after linked joined attempt leaf_plans leaf_entries start mul add div lt of_int
tried i ts = each (λ t u. attempt i t.left t.right u) ts (start i)

-- after these pairs: answer, number of plans, memo
unfoldable pub after : Input → List Pair → ℕ × ℕ × List Entry
unfolding tried
after i ts = let st = tried i ts in (st.stop, length st.plans, st.memo)

abbrev pub entry : ℕ → ℕ → Entry
entry s p = record { set = s; plan = p }

abbrev leaves : List Entry
leaves = entry 1 0 ∷ entry 2 1 ∷ entry 4 2 ∷ []

abbrev pub pair : ℕ → ℕ → Pair
pair a b = record { left = a; right = b }

abbrev even : ℕ → ℕ → Input
even plan_room memo_room = chain (4 ∷ 4 ∷ 4 ∷ []) (16384 ∷ 16384 ∷ []) plan_room memo_room 9

-- the last place of each store can be taken; a full plan store comes before a full memo
pub stores : (after (even 4 4) (pair 1 2 ∷ []) ≡ (0, 4, leaves ++ (entry 3 3 ∷ [])))
    × (after (even 3 4) (pair 1 2 ∷ []) ≡ (12, 3, leaves))
    × (after (even 4 3) (pair 1 2 ∷ []) ≡ (13, 3, leaves))
    × (after (even 3 3) (pair 1 2 ∷ []) ≡ (12, 3, leaves))
unfolding after
stores = (refl, refl, refl, refl)

abbrev uneven : Input
uneven = chain (4 ∷ 8 ∷ 16 ∷ []) (32768 ∷ 16384 ∷ []) 7 6 9

abbrev left_last : List Pair
left_last = pair 2 4 ∷ pair 1 2 ∷ pair 1 6 ∷ pair 3 4 ∷ []

abbrev right_last : List Pair
right_last = pair 2 4 ∷ pair 1 2 ∷ pair 3 4 ∷ pair 1 6 ∷ []

-- a set that has its entry needs no further one, though the memo is full; a cheaper candidate replaces the plan, an equal one does not
pub replaced : (after (even 7 6) left_last ≡ (0, 7, leaves ++ (entry 6 3 ∷ entry 3 4 ∷ entry 7 5 ∷ [])))
    × (after uneven left_last ≡ (0, 7, leaves ++ (entry 6 3 ∷ entry 3 4 ∷ entry 7 5 ∷ [])))
    × (after uneven right_last ≡ (0, 7, leaves ++ (entry 6 3 ∷ entry 3 4 ∷ entry 7 6 ∷ [])))
unfolding after
replaced = (refl, refl, refl)

-- two leaves of 4 and 16 rows, of whose row pairs one is kept; an edge with these sides, and its source's kind
abbrev one_edge : ℕ → ℕ → ℕ → Input
one_edge left right kind =
    record {
      leaves = map scan (4 ∷ 16 ∷ []);
      edges = record { left = left; right = right; predicate = 0; source = 2; type = 0 } ∷ [];
      kinds = leaf ∷ leaf ∷ kind ∷ [];
      selectivities = 1024 ∷ [];
      plan_room = 3;
      memo_room = 3;
      limit = 9;
    }

-- the rows of the candidate of leaf 0 and leaf 1, by the source's kinds 0 to 8
unfoldable pub made_rows : ℕ → ℕ → List Float
unfolding tried
made_rows left right =
    map (λ (kind : ℕ). (plan_at (tried (one_edge left right kind) (pair 1 2 ∷ [])) 2).estimate.rows) (0 ∷ 1 ∷ 2 ∷ 3 ∷ 4 ∷ 5 ∷ 6 ∷ 7 ∷ 8 ∷ [])

-- 1, 4 or 16 rows
abbrev expected : List Float
expected = map (λ (n : ℕ). fin false 1 (pos n)) (0 ∷ 0 ∷ 0 ∷ 2 ∷ 4 ∷ 4 ∷ 2 ∷ 2 ∷ 0 ∷ [])

-- an edge that lies the other way round changes nothing: left and right rows are the candidate's own
pub either_way : (made_rows 1 2 ≡ expected) × (made_rows 2 1 ≡ expected)
unfolding made_rows
either_way = (refl, refl)

-- after a visit that comes behind v others: answer, visits
unfoldable pub visited : ℕ → ℕ → ℕ × ℕ
unfolding visit
visited limit v = let st = visit (chain [] [] 0 0 limit) record { tried = []; plans = []; memo = []; visits = v; stop = 0 } in (st.stop, st.visits)

pub visits : (visited 2 1 ≡ (0, 2)) × (visited 2 2 ≡ (14, 2))
unfolding visited
visits = (refl, refl)
