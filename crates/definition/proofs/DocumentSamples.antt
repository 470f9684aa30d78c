-- Document 01, 'Sample sheets': the starred ones, from the sheet's words to all that comes out, in one table with one computed test.
use Rattle.std.specs.Prelude.{◌≡◌, refl, ℕ, ◌/◌, ◌%◌, ◌^◌, List, [], ◌∷◌, ◌++◌, map}
use Rattle.std.specs.Int.Count.{count_trailing_zeros}
use Rattle.std.specs.Float.Ieee.{mul, add, div, lt, of_int}
use Rattle.nodeset.specs.Sets.{bit, singleton, lowest, all_below, up_to_lowest}
use Rattle.nodeset.specs.Subsets.{doubled, subsets_of, non_empty_subsets, singletons_below, singletons}
use Rattle.definition.specs.Lists.{tabulate, concat_map, member}
use Rattle.definition.specs.Question.{leaf, leaf_count, ends_with_one}
use Rattle.definition.specs.Sheet.{word, first_failing, question_of, question_answer, sheet_answer}
use Rattle.definition.specs.Tables.{type_of, assoc, l_asscom, r_asscom}
use Rattle.definition.specs.Hypergraph.{Edge, none32, has_edge, connecting_from, beyond, neighborhood}
use Rattle.definition.specs.Connection.{any_predicate, candidate_kind, selectivities_of, connection_over}
use Rattle.definition.specs.Connected.{one_class, met, merge, merges, round, rounds, connected}
use Rattle.definition.specs.Edges.{build_hypergraph, build_from, build_item, join_item, cross_item, leaf_item, inner_edges, other_edges, sides_for, widen, side_set, holders, holder, edge_count}
use Rattle.definition.specs.Cost.{whole, filtered, candidate_from}
use Rattle.definition.specs.Walk.{enumerate_cmp_rec, emit_csg, enumerate_csg_rec, solve_from}
use Rattle.definition.specs.Search.{Plan, Entry, Pair, find, replace, visit, candidate, memo_after}
use Rattle.definition.specs.Search.{linked, joined, attempt, leaf_plans, leaf_entries, start, search}
use Rattle.definition.specs.Call.{Rooms, Outcome, default_limit, refused_with, leaves_of, searched, call}

pub record Row : Type 0 where
  pub words : List ℕ
  pub rooms : Rooms
  pub limit : ℕ
  pub expected : Outcome

abbrev pub bytes : ℕ → List ℕ
bytes w = (w % 256) ∷ (w / 256 % 256) ∷ (w / 65536 % 256) ∷ (w / 16777216) ∷ []

-- a call on the sheet of these words, with all that it takes to compute it
unfoldable pub computed : List ℕ → Rooms → ℕ → Outcome
unfolding count_trailing_zeros bit singleton lowest all_below up_to_lowest doubled subsets_of non_empty_subsets singletons_below singletons tabulate concat_map member leaf_count ends_with_one word first_failing question_of question_answer sheet_answer type_of assoc l_asscom r_asscom has_edge connecting_from beyond neighborhood any_predicate selectivities_of connection_over one_class met merge merges round rounds connected build_hypergraph build_from build_item join_item cross_item leaf_item inner_edges other_edges sides_for widen side_set holders holder edge_count filtered candidate_from enumerate_cmp_rec emit_csg enumerate_csg_rec solve_from find replace visit candidate_kind candidate memo_after linked joined attempt leaf_plans leaf_entries start search leaves_of searched refused_with call mul add div lt of_int
computed ws rooms limit = call (concat_map bytes ws) rooms limit

abbrev outcome : Row → Outcome
outcome r = computed r.words r.rooms r.limit

abbrev pub rooms : ℕ → ℕ → ℕ → Rooms
rooms e p m = record { edges = e; plans = p; memo = m }

-- the stores of the tried list program
abbrev pub ample : Rooms
ample = rooms 256 1088 512

abbrev pub edge : ℕ → ℕ → ℕ → ℕ → ℕ → Edge
edge l r p m t = record { left = l; right = r; predicate = p; source = m; type = t }

abbrev pub entry : ℕ → ℕ → Entry
entry s p = record { set = s; plan = p }

abbrev pub pair : ℕ → ℕ → Pair
pair a b = record { left = a; right = b }

-- a candidate: set, left plan, right plan, lead edge, kind, rows, cost
abbrev pub join : ℕ → ℕ → ℕ → ℕ → ℕ → ℕ → ℕ → Plan
join s l r lead kind rows cost =
    record { set = s; left = l; right = r; lead = lead; kind = kind; estimate = record { rows = whole rows; cost = whole cost } }

-- leaf n
abbrev pub scan : ℕ → ℕ → ℕ → Plan
scan n rows cost = join (2 ^ n) n n none32 leaf rows cost

-- words, stores, limit; then answer, visits, chosen plan, edges, plans, memo entries, pairs
abbrev row : List ℕ → Rooms → ℕ → ℕ → ℕ → ℕ → List Edge → List Plan → List Entry → List Pair → Row
row ws rs limit answer visits chosen es ps ms ts =
    record {
      words = ws;
      rooms = rs;
      limit = limit;
      expected = record { answer = answer; edges = es; plans = ps; memo = ms; visits = visits; chosen = chosen; tried = ts };
    }

-- "Sheet A, 144 bytes, by words"
abbrev pub sheet_a : List ℕ
sheet_a = 5 ∷ 24 ∷ 2 ∷ 104 ∷ 4 ∷ 128 ∷ 9 ∷ 4 ∷ 0 ∷ 1 ∷ 9 ∷ 8 ∷ 1 ∷ 2 ∷ 0 ∷ 0 ∷ 0 ∷ 1 ∷ 9 ∷ 16 ∷ 3 ∷ 1 ∷ 0 ∷ 0 ∷ 1 ∷ 1 ∷ 32768 ∷ 0 ∷ 2 ∷ 16384 ∷ 2 ∷ 2 ∷ 1 ∷ 2 ∷ 3 ∷ 4 ∷ []

-- "A with rows 4, 4, 4, shares 16384 and one column per leaf (each predicate on its two leaves)"
abbrev tie : List ℕ
tie = 5 ∷ 24 ∷ 2 ∷ 104 ∷ 3 ∷ 128 ∷ 9 ∷ 4 ∷ 0 ∷ 1 ∷ 9 ∷ 4 ∷ 1 ∷ 1 ∷ 0 ∷ 0 ∷ 0 ∷ 1 ∷ 9 ∷ 4 ∷ 2 ∷ 1 ∷ 0 ∷ 0 ∷ 1 ∷ 1 ∷ 16384 ∷ 0 ∷ 2 ∷ 16384 ∷ 1 ∷ 2 ∷ 1 ∷ 2 ∷ 3 ∷ []

-- "Two leaves, one predicate"
abbrev two_leaves : List ℕ
two_leaves = 3 ∷ 24 ∷ 1 ∷ 72 ∷ 2 ∷ 84 ∷ 9 ∷ 4 ∷ 0 ∷ 1 ∷ 9 ∷ 4 ∷ 1 ∷ 1 ∷ 0 ∷ 0 ∷ 0 ∷ 1 ∷ 16384 ∷ 0 ∷ 2 ∷ 1 ∷ 2 ∷ []

-- "One leaf"
abbrev one_leaf : List ℕ
one_leaf = 1 ∷ 24 ∷ 0 ∷ 40 ∷ 1 ∷ 40 ∷ 9 ∷ 4 ∷ 0 ∷ 1 ∷ 1 ∷ []

-- "No items"
abbrev pub no_items : List ℕ
no_items = 0 ∷ 24 ∷ 0 ∷ 24 ∷ 0 ∷ 24 ∷ []

-- "Inner join with no predicates"
abbrev without_predicates : List ℕ
without_predicates = 3 ∷ 24 ∷ 0 ∷ 72 ∷ 2 ∷ 72 ∷ 9 ∷ 4 ∷ 0 ∷ 1 ∷ 9 ∷ 4 ∷ 1 ∷ 1 ∷ 0 ∷ 0 ∷ 0 ∷ 0 ∷ 1 ∷ 2 ∷ []

-- "Cross product of two"
abbrev cross_of_two : List ℕ
cross_of_two = 3 ∷ 24 ∷ 0 ∷ 72 ∷ 2 ∷ 72 ∷ 9 ∷ 4 ∷ 0 ∷ 1 ∷ 9 ∷ 4 ∷ 1 ∷ 1 ∷ 8 ∷ 0 ∷ 0 ∷ 0 ∷ 1 ∷ 2 ∷ []

-- "A whose second predicate has no columns"
abbrev without_columns : List ℕ
without_columns = 5 ∷ 24 ∷ 2 ∷ 104 ∷ 4 ∷ 128 ∷ 9 ∷ 4 ∷ 0 ∷ 1 ∷ 9 ∷ 8 ∷ 1 ∷ 2 ∷ 0 ∷ 0 ∷ 0 ∷ 1 ∷ 9 ∷ 16 ∷ 3 ∷ 1 ∷ 0 ∷ 0 ∷ 1 ∷ 1 ∷ 32768 ∷ 0 ∷ 2 ∷ 16384 ∷ 2 ∷ 0 ∷ 1 ∷ 2 ∷ 3 ∷ 4 ∷ []

-- "(0 LeftOuter 1) Inner 2, both Inner predicates on 1 and 2": at the candidate of {0} and {1,2} the third predicate goes unused
abbrev outer_then_inner : List ℕ
outer_then_inner = 5 ∷ 24 ∷ 3 ∷ 104 ∷ 3 ∷ 140 ∷ 9 ∷ 4 ∷ 0 ∷ 1 ∷ 9 ∷ 4 ∷ 1 ∷ 1 ∷ 3 ∷ 0 ∷ 0 ∷ 1 ∷ 9 ∷ 4 ∷ 2 ∷ 1 ∷ 0 ∷ 0 ∷ 1 ∷ 2 ∷ 32768 ∷ 0 ∷ 2 ∷ 16384 ∷ 1 ∷ 2 ∷ 8192 ∷ 1 ∷ 2 ∷ 1 ∷ 2 ∷ 3 ∷ []

-- A with other selectivities: the second candidate of all leaves is cheaper, and takes the first one's place
abbrev pub replaced : List ℕ
replaced = 5 ∷ 24 ∷ 2 ∷ 104 ∷ 4 ∷ 128 ∷ 9 ∷ 4 ∷ 0 ∷ 1 ∷ 9 ∷ 8 ∷ 1 ∷ 2 ∷ 0 ∷ 0 ∷ 0 ∷ 1 ∷ 9 ∷ 16 ∷ 3 ∷ 1 ∷ 0 ∷ 0 ∷ 1 ∷ 1 ∷ 16384 ∷ 0 ∷ 2 ∷ 65536 ∷ 2 ∷ 2 ∷ 1 ∷ 2 ∷ 3 ∷ 4 ∷ []

-- 0 Inner (1 RightOuter 2), which is not turned around; a candidate against its lead edge; leaves without columns; one predicate on two joins
abbrev right_outer : List ℕ
right_outer = 5 ∷ 24 ∷ 1 ∷ 104 ∷ 1 ∷ 116 ∷ 9 ∷ 4 ∷ 1 ∷ 0 ∷ 9 ∷ 4 ∷ 1 ∷ 0 ∷ 9 ∷ 4 ∷ 0 ∷ 1 ∷ 4 ∷ 0 ∷ 0 ∷ 1 ∷ 0 ∷ 0 ∷ 0 ∷ 1 ∷ 32768 ∷ 0 ∷ 1 ∷ 7 ∷ []

-- 0 Inner (1 FullOuter 2): what widens the second Inner predicate's sides, were the earlier join's edge not passed over
abbrev passed_over : List ℕ
passed_over = 5 ∷ 24 ∷ 3 ∷ 104 ∷ 4 ∷ 140 ∷ 9 ∷ 16 ∷ 0 ∷ 1 ∷ 9 ∷ 64 ∷ 1 ∷ 1 ∷ 9 ∷ 16 ∷ 2 ∷ 1 ∷ 5 ∷ 0 ∷ 0 ∷ 1 ∷ 0 ∷ 0 ∷ 1 ∷ 2 ∷ 32768 ∷ 3 ∷ 0 ∷ 65536 ∷ 3 ∷ 0 ∷ 32768 ∷ 3 ∷ 1 ∷ 100 ∷ 102 ∷ 100 ∷ 100 ∷ []

-- (0 FullOuter 1) Inner 2: the left side is widened
abbrev left_conflict : List ℕ
left_conflict = 5 ∷ 24 ∷ 4 ∷ 104 ∷ 8 ∷ 152 ∷ 9 ∷ 16 ∷ 0 ∷ 1 ∷ 9 ∷ 16 ∷ 1 ∷ 1 ∷ 5 ∷ 0 ∷ 0 ∷ 1 ∷ 9 ∷ 48 ∷ 2 ∷ 1 ∷ 0 ∷ 0 ∷ 1 ∷ 3 ∷ 32768 ∷ 3 ∷ 2 ∷ 16384 ∷ 5 ∷ 1 ∷ 32768 ∷ 6 ∷ 1 ∷ 65536 ∷ 7 ∷ 1 ∷ 100 ∷ 101 ∷ 102 ∷ 100 ∷ 101 ∷ 101 ∷ 100 ∷ 100 ∷ []

-- 0 Inner (1 FullOuter 2): the right side is widened
abbrev right_conflict : List ℕ
right_conflict = 5 ∷ 24 ∷ 5 ∷ 104 ∷ 10 ∷ 164 ∷ 9 ∷ 48 ∷ 0 ∷ 1 ∷ 9 ∷ 16 ∷ 1 ∷ 1 ∷ 9 ∷ 64 ∷ 2 ∷ 1 ∷ 5 ∷ 0 ∷ 0 ∷ 2 ∷ 0 ∷ 0 ∷ 2 ∷ 3 ∷ 32768 ∷ 3 ∷ 1 ∷ 32768 ∷ 4 ∷ 0 ∷ 65536 ∷ 4 ∷ 2 ∷ 65536 ∷ 6 ∷ 3 ∷ 65536 ∷ 9 ∷ 1 ∷ 100 ∷ 101 ∷ 102 ∷ 101 ∷ 102 ∷ 102 ∷ 100 ∷ 102 ∷ 102 ∷ 100 ∷ []

-- an edge one of whose sides is in two classes merges nothing
abbrev pub side_apart : List ℕ
side_apart = 5 ∷ 24 ∷ 2 ∷ 104 ∷ 6 ∷ 128 ∷ 9 ∷ 64 ∷ 0 ∷ 1 ∷ 9 ∷ 256 ∷ 1 ∷ 1 ∷ 9 ∷ 256 ∷ 2 ∷ 1 ∷ 4 ∷ 0 ∷ 0 ∷ 0 ∷ 0 ∷ 0 ∷ 0 ∷ 2 ∷ 32768 ∷ 3 ∷ 1 ∷ 32768 ∷ 4 ∷ 2 ∷ 100 ∷ 101 ∷ 102 ∷ 100 ∷ 100 ∷ 102 ∷ []

-- a cross product's edge leads, and another edge has a predicate: kind 0
abbrev cross_lead : List ℕ
cross_lead = 5 ∷ 24 ∷ 2 ∷ 104 ∷ 6 ∷ 128 ∷ 9 ∷ 256 ∷ 0 ∷ 1 ∷ 9 ∷ 64 ∷ 1 ∷ 1 ∷ 8 ∷ 0 ∷ 0 ∷ 0 ∷ 9 ∷ 16 ∷ 2 ∷ 1 ∷ 0 ∷ 0 ∷ 0 ∷ 2 ∷ 65536 ∷ 3 ∷ 1 ∷ 16384 ∷ 4 ∷ 2 ∷ 100 ∷ 101 ∷ 102 ∷ 100 ∷ 101 ∷ 102 ∷ []

-- 0 Inner (1 LeftOuter 2), the Inner predicate on 0 and 2: {0,2} with {1} lies against its lead edge, and has the rows of {0,2}, its own left plan
abbrev against_lead : List ℕ
against_lead = 5 ∷ 24 ∷ 2 ∷ 104 ∷ 3 ∷ 128 ∷ 9 ∷ 4 ∷ 2 ∷ 1 ∷ 9 ∷ 8 ∷ 0 ∷ 1 ∷ 9 ∷ 16 ∷ 1 ∷ 1 ∷ 3 ∷ 0 ∷ 0 ∷ 1 ∷ 0 ∷ 0 ∷ 1 ∷ 1 ∷ 1024 ∷ 0 ∷ 2 ∷ 32768 ∷ 1 ∷ 2 ∷ 1 ∷ 2 ∷ 0 ∷ []

-- document 01's starred sheets, with all that comes out
abbrev starred_rows : List Row
starred_rows =
    row sheet_a ample default_limit 0 8 5
    (edge 1 2 0 2 0 ∷ edge 2 4 1 4 0 ∷ [])
    (scan 0 4 4 ∷ scan 1 8 16 ∷ scan 2 16 16 ∷ join 6 1 2 1 0 32 192 ∷ join 3 0 1 0 0 16 68 ∷ join 7 0 3 0 0 64 388 ∷ join 7 4 2 1 0 64 404 ∷ [])
    (entry 1 0 ∷ entry 2 1 ∷ entry 4 2 ∷ entry 6 3 ∷ entry 3 4 ∷ entry 7 5 ∷ [])
    (pair 2 4 ∷ pair 1 2 ∷ pair 1 6 ∷ pair 3 4 ∷ [])
    ∷ row tie ample default_limit 0 8 5
    (edge 1 2 0 2 0 ∷ edge 2 4 1 4 0 ∷ [])
    (scan 0 4 4 ∷ scan 1 4 4 ∷ scan 2 4 4 ∷ join 6 1 2 1 0 4 28 ∷ join 3 0 1 0 0 4 28 ∷ join 7 0 3 0 0 4 52 ∷ join 7 4 2 1 0 4 52 ∷ [])
    (entry 1 0 ∷ entry 2 1 ∷ entry 4 2 ∷ entry 6 3 ∷ entry 3 4 ∷ entry 7 5 ∷ [])
    (pair 2 4 ∷ pair 1 2 ∷ pair 1 6 ∷ pair 3 4 ∷ [])
    ∷ row two_leaves ample default_limit 0 2 2
    (edge 1 2 0 2 0 ∷ [])
    (scan 0 4 4 ∷ scan 1 4 4 ∷ join 3 0 1 0 0 4 28 ∷ [])
    (entry 1 0 ∷ entry 2 1 ∷ entry 3 2 ∷ [])
    (pair 1 2 ∷ [])
    ∷ row two_leaves ample 1 14 1 none32
    (edge 1 2 0 2 0 ∷ [])
    (scan 0 4 4 ∷ scan 1 4 4 ∷ join 3 0 1 0 0 4 28 ∷ [])
    (entry 1 0 ∷ entry 2 1 ∷ entry 3 2 ∷ [])
    (pair 1 2 ∷ [])
    ∷ row one_leaf ample default_limit 0 0 0
    ([])
    (scan 0 4 4 ∷ [])
    (entry 1 0 ∷ [])
    ([])
    ∷ row no_items ample default_limit 15 0 none32
    ([])
    ([])
    ([])
    ([])
    ∷ row without_predicates ample default_limit 15 0 none32
    ([])
    (scan 0 4 4 ∷ scan 1 4 4 ∷ [])
    (entry 1 0 ∷ entry 2 1 ∷ [])
    ([])
    ∷ row cross_of_two ample default_limit 0 2 2
    (edge 1 2 none32 2 0 ∷ [])
    (scan 0 4 4 ∷ scan 1 4 4 ∷ join 3 0 1 0 8 16 40 ∷ [])
    (entry 1 0 ∷ entry 2 1 ∷ entry 3 2 ∷ [])
    (pair 1 2 ∷ [])
    ∷ row without_columns ample default_limit 0 4 4
    (edge 1 2 0 2 0 ∷ edge 3 4 1 4 0 ∷ [])
    (scan 0 4 4 ∷ scan 1 8 16 ∷ scan 2 16 16 ∷ join 3 0 1 0 0 16 68 ∷ join 7 3 2 1 0 64 404 ∷ [])
    (entry 1 0 ∷ entry 2 1 ∷ entry 4 2 ∷ entry 3 3 ∷ entry 7 4 ∷ [])
    (pair 1 2 ∷ pair 3 4 ∷ [])
    ∷ row outer_then_inner ample default_limit 0 8 5
    (edge 1 2 0 2 2 ∷ edge 2 4 1 4 0 ∷ edge 3 4 2 4 0 ∷ [])
    (scan 0 4 4 ∷ scan 1 4 4 ∷ scan 2 4 4 ∷ join 6 1 2 1 0 4 28 ∷ join 3 0 1 0 3 8 32 ∷ join 7 0 3 0 3 8 56 ∷ join 7 4 2 1 0 1 69 ∷ [])
    (entry 1 0 ∷ entry 2 1 ∷ entry 4 2 ∷ entry 6 3 ∷ entry 3 4 ∷ entry 7 5 ∷ [])
    (pair 2 4 ∷ pair 1 2 ∷ pair 1 6 ∷ pair 3 4 ∷ [])
    ∷ []

-- stores too small, stores and limits met, and points of edge building, search and rows that the starred sheets leave open
abbrev further_rows : List Row
further_rows =
    row sheet_a (rooms 1 1088 512) default_limit 11 0 none32 [] [] [] []
    ∷ row sheet_a (rooms 256 2 512) default_limit 11 0 none32 [] [] [] []
    ∷ row sheet_a (rooms 256 1088 2) default_limit 11 0 none32 [] [] [] []
    ∷ row sheet_a (rooms 2 3 3) default_limit 12 0 none32
    (edge 1 2 0 2 0 ∷ edge 2 4 1 4 0 ∷ [])
    (scan 0 4 4 ∷ scan 1 8 16 ∷ scan 2 16 16 ∷ [])
    (entry 1 0 ∷ entry 2 1 ∷ entry 4 2 ∷ [])
    ([])
    ∷ row sheet_a ample 0 14 0 none32
    (edge 1 2 0 2 0 ∷ edge 2 4 1 4 0 ∷ [])
    (scan 0 4 4 ∷ scan 1 8 16 ∷ scan 2 16 16 ∷ join 6 1 2 1 0 32 192 ∷ [])
    (entry 1 0 ∷ entry 2 1 ∷ entry 4 2 ∷ entry 6 3 ∷ [])
    (pair 2 4 ∷ [])
    ∷ row sheet_a ample 7 14 7 none32
    (edge 1 2 0 2 0 ∷ edge 2 4 1 4 0 ∷ [])
    (scan 0 4 4 ∷ scan 1 8 16 ∷ scan 2 16 16 ∷ join 6 1 2 1 0 32 192 ∷ join 3 0 1 0 0 16 68 ∷ join 7 0 3 0 0 64 388 ∷ join 7 4 2 1 0 64 404 ∷ [])
    (entry 1 0 ∷ entry 2 1 ∷ entry 4 2 ∷ entry 6 3 ∷ entry 3 4 ∷ entry 7 5 ∷ [])
    (pair 2 4 ∷ pair 1 2 ∷ pair 1 6 ∷ pair 3 4 ∷ [])
    ∷ row sheet_a (rooms 256 4 512) default_limit 12 2 none32
    (edge 1 2 0 2 0 ∷ edge 2 4 1 4 0 ∷ [])
    (scan 0 4 4 ∷ scan 1 8 16 ∷ scan 2 16 16 ∷ join 6 1 2 1 0 32 192 ∷ [])
    (entry 1 0 ∷ entry 2 1 ∷ entry 4 2 ∷ entry 6 3 ∷ [])
    (pair 2 4 ∷ [])
    ∷ row sheet_a (rooms 256 1088 4) default_limit 13 2 none32
    (edge 1 2 0 2 0 ∷ edge 2 4 1 4 0 ∷ [])
    (scan 0 4 4 ∷ scan 1 8 16 ∷ scan 2 16 16 ∷ join 6 1 2 1 0 32 192 ∷ [])
    (entry 1 0 ∷ entry 2 1 ∷ entry 4 2 ∷ entry 6 3 ∷ [])
    (pair 2 4 ∷ [])
    ∷ row sheet_a (rooms 256 4 4) default_limit 12 2 none32
    (edge 1 2 0 2 0 ∷ edge 2 4 1 4 0 ∷ [])
    (scan 0 4 4 ∷ scan 1 8 16 ∷ scan 2 16 16 ∷ join 6 1 2 1 0 32 192 ∷ [])
    (entry 1 0 ∷ entry 2 1 ∷ entry 4 2 ∷ entry 6 3 ∷ [])
    (pair 2 4 ∷ [])
    ∷ row replaced ample default_limit 0 8 6
    (edge 1 2 0 2 0 ∷ edge 2 4 1 4 0 ∷ [])
    (scan 0 4 4 ∷ scan 1 8 16 ∷ scan 2 16 16 ∷ join 6 1 2 1 0 128 288 ∷ join 3 0 1 0 0 8 60 ∷ join 7 0 3 0 0 128 932 ∷ join 7 4 2 1 0 128 332 ∷ [])
    (entry 1 0 ∷ entry 2 1 ∷ entry 4 2 ∷ entry 6 3 ∷ entry 3 4 ∷ entry 7 6 ∷ [])
    (pair 2 4 ∷ pair 1 2 ∷ pair 1 6 ∷ pair 3 4 ∷ [])
    ∷ row right_outer ample default_limit 0 8 5
    (edge 2 4 0 3 2 ∷ edge 1 4 0 4 0 ∷ [])
    (scan 0 4 4 ∷ scan 1 4 4 ∷ scan 2 4 4 ∷ join 6 1 2 0 4 8 32 ∷ join 5 0 2 1 0 8 32 ∷ join 7 0 3 1 0 16 84 ∷ join 7 4 1 0 4 16 84 ∷ [])
    (entry 1 0 ∷ entry 2 1 ∷ entry 4 2 ∷ entry 6 3 ∷ entry 5 4 ∷ entry 7 5 ∷ [])
    (pair 2 4 ∷ pair 1 4 ∷ pair 1 6 ∷ pair 5 2 ∷ [])
    ∷ row passed_over ample default_limit 0 12 7
    (edge 2 4 0 3 4 ∷ edge 1 6 1 4 0 ∷ edge 1 4 2 4 0 ∷ [])
    (scan 0 16 16 ∷ scan 1 64 64 ∷ scan 2 16 16 ∷ join 6 1 2 0 5 512 1616 ∷ join 5 0 2 2 0 128 416 ∷ join 7 0 3 1 0 4096 13920 ∷ join 7 0 3 1 0 4096 13920 ∷ join 7 4 1 0 5 4096 12768 ∷ [])
    (entry 1 0 ∷ entry 2 1 ∷ entry 4 2 ∷ entry 6 3 ∷ entry 5 4 ∷ entry 7 7 ∷ [])
    (pair 2 4 ∷ pair 1 4 ∷ pair 1 6 ∷ pair 1 6 ∷ pair 5 2 ∷ [])
    ∷ row left_conflict ample default_limit 0 12 5
    (edge 1 2 0 2 4 ∷ edge 2 4 1 4 0 ∷ edge 1 4 2 4 0 ∷ edge 3 4 3 4 0 ∷ [])
    (scan 0 16 16 ∷ scan 1 16 16 ∷ scan 2 48 48 ∷ join 6 1 2 1 0 192 1024 ∷ join 5 0 2 2 0 384 1216 ∷ join 7 0 3 0 5 768 4880 ∷ join 3 0 1 0 5 128 416 ∷ join 7 0 3 0 5 768 4880 ∷ join 7 6 2 1 0 768 7376 ∷ join 7 4 1 0 5 768 8144 ∷ [])
    (entry 1 0 ∷ entry 2 1 ∷ entry 4 2 ∷ entry 6 3 ∷ entry 5 4 ∷ entry 7 5 ∷ entry 3 6 ∷ [])
    (pair 2 4 ∷ pair 1 4 ∷ pair 1 6 ∷ pair 1 2 ∷ pair 1 6 ∷ pair 3 4 ∷ pair 5 2 ∷ [])
    ∷ row right_conflict ample default_limit 0 12 5
    (edge 2 4 0 3 4 ∷ edge 2 4 1 3 4 ∷ edge 1 4 2 4 0 ∷ edge 1 6 3 4 0 ∷ edge 1 6 4 4 0 ∷ [])
    (scan 0 48 48 ∷ scan 1 16 16 ∷ scan 2 64 64 ∷ join 6 1 2 0 5 256 1360 ∷ join 5 0 2 2 0 3072 6256 ∷ join 7 0 3 2 0 12288 25984 ∷ join 7 0 3 2 0 12288 25984 ∷ join 7 4 1 0 5 12288 67712 ∷ [])
    (entry 1 0 ∷ entry 2 1 ∷ entry 4 2 ∷ entry 6 3 ∷ entry 5 4 ∷ entry 7 5 ∷ [])
    (pair 2 4 ∷ pair 1 4 ∷ pair 1 6 ∷ pair 1 6 ∷ pair 5 2 ∷ [])
    ∷ row side_apart ample default_limit 15 6 none32
    (edge 1 6 0 4 0 ∷ edge 1 4 1 4 0 ∷ [])
    (scan 0 64 64 ∷ scan 1 256 256 ∷ scan 2 256 256 ∷ join 5 0 2 1 0 8192 24896 ∷ [])
    (entry 1 0 ∷ entry 2 1 ∷ entry 4 2 ∷ entry 5 3 ∷ [])
    (pair 1 4 ∷ [])
    ∷ row cross_lead ample default_limit 0 12 5
    (edge 1 2 none32 2 0 ∷ edge 1 4 0 4 0 ∷ edge 2 4 1 4 0 ∷ [])
    (scan 0 256 256 ∷ scan 1 64 64 ∷ scan 2 16 16 ∷ join 6 1 2 2 0 256 1360 ∷ join 5 0 2 1 0 4096 8464 ∷ join 7 0 3 0 0 65536 132688 ∷ join 3 0 1 0 8 16384 33088 ∷ join 7 0 3 0 0 65536 132688 ∷ join 7 6 2 1 0 65536 360784 ∷ join 7 4 1 0 0 65536 336208 ∷ [])
    (entry 1 0 ∷ entry 2 1 ∷ entry 4 2 ∷ entry 6 3 ∷ entry 5 4 ∷ entry 7 5 ∷ entry 3 6 ∷ [])
    (pair 2 4 ∷ pair 1 4 ∷ pair 1 6 ∷ pair 1 2 ∷ pair 1 6 ∷ pair 3 4 ∷ pair 5 2 ∷ [])
    ∷ row against_lead ample default_limit 0 8 5
    (edge 2 4 0 3 2 ∷ edge 1 4 1 4 0 ∷ [])
    (scan 0 4 4 ∷ scan 1 8 8 ∷ scan 2 16 16 ∷ join 6 1 2 0 3 8 160 ∷ join 5 0 2 1 0 32 116 ∷ join 7 0 3 1 0 16 212 ∷ join 7 4 1 0 3 32 412 ∷ [])
    (entry 1 0 ∷ entry 2 1 ∷ entry 4 2 ∷ entry 6 3 ∷ entry 5 4 ∷ entry 7 5 ∷ [])
    (pair 2 4 ∷ pair 1 4 ∷ pair 1 6 ∷ pair 5 2 ∷ [])
    ∷ []

abbrev table : List Row
table = starred_rows ++ further_rows

-- every row's outcome is the expected one
pub starred : map outcome table ≡ map (λ (r : Row). r.expected) table
unfolding computed
starred = refl
