-- The two passes of the search, each computed: what the enumeration lists for three leaves in a row, with each stop; and what the costing makes
-- of such a listing, with each stop too.
use Rattle.std.specs.Prelude.{◌≡◌, refl, List, [], ◌∷◌, ◌++◌, map, ℕ, ◌^◌}
use mathlib.Core.List.{zip_with}
use Rattle.std.specs.Int.Count.{count_trailing_zeros}
use Rattle.std.specs.Float.Ieee.{mul, add, div, lt, of_int}
use Rattle.nodeset.specs.Sets.{bit, singleton, lowest, all_below, up_to_lowest}
use Rattle.nodeset.specs.Subsets.{doubled, subsets_of, non_empty_subsets, singletons_below, singletons}
use Rattle.definition.specs.Lists.{member}
use Rattle.definition.specs.Question.{leaf, inner}
use Rattle.definition.specs.Hypergraph.{Edge, none32, has_edge, connecting_from, beyond, neighborhood}
use Rattle.definition.specs.Cost.{whole, filtered, candidate_from}
use Rattle.definition.specs.Connection.{any_predicate, candidate_kind, selectivities_of, connection_over}
use Rattle.definition.specs.Walk.{enumerate_cmp_rec, emit_csg, enumerate_csg_rec, solve_from}
use Rattle.definition.specs.Search.{Plan, Input, State, candidate, leaf_plans, leaf_entries}
use Rattle.definition.specs.TwoPasses.{Positions, Enumeration, Costed, position_of, count_visit, list_pair, leaves_entered, enumerate, plan_over}
use Rattle.definition.specs.TwoPasses.{candidate_plan, best_after, costed, together}
use Rattle.definition.proofs.CandidateSamples.{chain, entry, pair}

-- the rows of each leaf and the two selectivities; then the lengths of the plan and the memo store, and the limit
abbrev uneven : ℕ → ℕ → ℕ → Input
uneven = chain (4 ∷ 8 ∷ 16 ∷ []) (32768 ∷ 16384 ∷ [])

-- the positions of a candidate's left set, its right set and their union
abbrev at : ℕ → ℕ → ℕ → Positions
at l r u = record { left = l; right = r; union = u }

abbrev listing : List Positions → List ℕ → ℕ → ℕ → Enumeration
listing ts sets visits stop = record { candidates = ts; sets = sets; visits = visits; stop = stop }

-- ---- the enumeration

-- with all that it takes to compute it
unfoldable pub enumerated : Input → Enumeration
unfolding count_trailing_zeros bit singleton lowest all_below up_to_lowest doubled subsets_of non_empty_subsets singletons_below singletons member has_edge beyond neighborhood enumerate_cmp_rec emit_csg enumerate_csg_rec solve_from leaf_entries position_of count_visit list_pair leaves_entered enumerate
enumerated i = enumerate i

pub record Listed : Type 0 where
  pub input : Input
  pub expected : Enumeration

abbrev lists : Input → Enumeration → Listed
lists i t = record { input = i; expected = t }

-- {1} with {2}, {0} with {1}, {0} with {1, 2}, {0, 1} with {2}: the last has the union of the one before it
abbrev all_four : List Positions
all_four = at 1 2 3 ∷ at 0 1 4 ∷ at 0 3 5 ∷ at 4 2 5 ∷ []

-- no stop; no plan's place for the third candidate; as many places and visits as it takes; no memo place for the second candidate; neither; three
-- visits of eight
abbrev pub listings : List Listed
listings =
    lists (uneven 99 99 99) (listing all_four (1 ∷ 2 ∷ 4 ∷ 6 ∷ 3 ∷ 7 ∷ []) 8 0)
    ∷ lists (uneven 5 99 99) (listing (at 1 2 3 ∷ at 0 1 4 ∷ []) (1 ∷ 2 ∷ 4 ∷ 6 ∷ 3 ∷ []) 3 12)
    ∷ lists (uneven 7 6 8) (listing all_four (1 ∷ 2 ∷ 4 ∷ 6 ∷ 3 ∷ 7 ∷ []) 8 0)
    ∷ lists (uneven 99 4 99) (listing (at 1 2 3 ∷ []) (1 ∷ 2 ∷ 4 ∷ 6 ∷ []) 2 13)
    ∷ lists (uneven 4 4 99) (listing (at 1 2 3 ∷ []) (1 ∷ 2 ∷ 4 ∷ 6 ∷ []) 2 12)
    ∷ lists (uneven 99 99 3) (listing (at 1 2 3 ∷ at 0 1 4 ∷ at 0 3 5 ∷ []) (1 ∷ 2 ∷ 4 ∷ 6 ∷ 3 ∷ 7 ∷ []) 3 14)
    ∷ []

pub listed_so : map (λ (r : Listed). enumerated r.input) listings ≡ map (λ (r : Listed). r.expected) listings
unfolding enumerated
listed_so = refl

-- ---- the costing

unfoldable pub costed_of : Input → Enumeration → Costed
unfolding singleton connecting_from any_predicate selectivities_of connection_over candidate_kind filtered candidate_from candidate leaf_plans leaf_entries plan_over candidate_plan best_after costed mul add div lt of_int
costed_of i t = costed i t

pub record Plans : Type 0 where
  pub input : Input
  pub listing : Enumeration
  pub expected : Costed

-- input and listing; then all plans, and the number of the one kept at each position
abbrev plans : Input → Enumeration → List Plan → List ℕ → Plans
plans i t ps best = record { input = i; listing = t; expected = record { plans = ps; best = best } }

-- a candidate's plan: set, left plan, right plan, lead edge, kind, rows, cost
abbrev join : ℕ → ℕ → ℕ → ℕ → ℕ → ℕ → ℕ → Plan
join s l r lead kind rows cost =
    record { set = s; left = l; right = r; lead = lead; kind = kind; estimate = record { rows = whole rows; cost = whole cost } }

-- leaf n
abbrev scan : ℕ → ℕ → ℕ → Plan
scan n rows cost = join (2 ^ n) n n none32 leaf rows cost

abbrev leaves : List Plan
leaves = scan 0 4 4 ∷ scan 1 8 8 ∷ scan 2 16 16 ∷ []

abbrev edge : ℕ → ℕ → ℕ → ℕ → Edge
edge l r p m = record { left = l; right = r; predicate = p; source = m; type = 0 }

-- four leaves in a row, and candidates in an order in which a kept plan changes after it was used: plan 6 joins plan 5, which is kept for leaves 0,
-- 1 and 2 when its turn comes, and plan 8 is kept for them at the end. Plan 10 joins plan 9, which is kept at position 8
abbrev four : Input
four =
    record {
      leaves =
          map (λ (rows : ℕ). record { rows = rows; columns = 1 }) (4 ∷ 4 ∷ 64 ∷ 2 ∷ []);
      edges = edge 1 2 0 2 ∷ edge 2 4 1 4 ∷ edge 4 8 2 6 ∷ [];
      kinds = leaf ∷ leaf ∷ inner ∷ leaf ∷ inner ∷ leaf ∷ inner ∷ [];
      selectivities = 16384 ∷ 65536 ∷ 65536 ∷ [];
      plan_room = 99;
      memo_room = 99;
      limit = 99;
    }

abbrev reordered : Enumeration
reordered =
    listing (at 1 2 4 ∷ at 0 4 5 ∷ at 5 3 6 ∷ at 0 1 7 ∷ at 7 2 5 ∷ at 2 3 8 ∷ at 7 8 6 ∷ []) (1 ∷ 2 ∷ 4 ∷ 8 ∷ 6 ∷ 7 ∷ 15 ∷ 3 ∷ 12 ∷ []) 0 0

-- the second of all leaves is dearer, as dear, and cheaper than the first; after 12, after 13 and after 14; and the four leaves
abbrev pub costings : List Plans
costings =
    plans (uneven 99 99 99) (listing all_four (1 ∷ 2 ∷ 4 ∷ 6 ∷ 3 ∷ 7 ∷ []) 8 0)
    (leaves ++ (join 6 1 2 1 0 32 184 ∷ join 3 0 1 0 0 16 60 ∷ join 7 0 3 0 0 64 380 ∷ join 7 4 2 1 0 64 396 ∷ []))
    (0 ∷ 1 ∷ 2 ∷ 3 ∷ 4 ∷ 5 ∷ [])
    ∷ plans (chain (4 ∷ 4 ∷ 4 ∷ []) (16384 ∷ 16384 ∷ []) 99 99 99) (listing all_four (1 ∷ 2 ∷ 4 ∷ 6 ∷ 3 ∷ 7 ∷ []) 8 0)
    (scan 0 4 4 ∷ scan 1 4 4 ∷ scan 2 4 4 ∷ join 6 1 2 1 0 4 28 ∷ join 3 0 1 0 0 4 28 ∷ join 7 0 3 0 0 4 52 ∷ join 7 4 2 1 0 4 52 ∷ [])
    (0 ∷ 1 ∷ 2 ∷ 3 ∷ 4 ∷ 5 ∷ [])
    ∷ plans (chain (4 ∷ 8 ∷ 16 ∷ []) (16384 ∷ 65536 ∷ []) 99 99 99) (listing all_four (1 ∷ 2 ∷ 4 ∷ 6 ∷ 3 ∷ 7 ∷ []) 8 0)
    (leaves ++ (join 6 1 2 1 0 128 280 ∷ join 3 0 1 0 0 8 52 ∷ join 7 0 3 0 0 128 924 ∷ join 7 4 2 1 0 128 324 ∷ []))
    (0 ∷ 1 ∷ 2 ∷ 3 ∷ 4 ∷ 6 ∷ [])
    ∷ plans (uneven 5 99 99) (listing (at 1 2 3 ∷ at 0 1 4 ∷ []) (1 ∷ 2 ∷ 4 ∷ 6 ∷ 3 ∷ []) 3 12)
    (leaves ++ (join 6 1 2 1 0 32 184 ∷ join 3 0 1 0 0 16 60 ∷ []))
    (0 ∷ 1 ∷ 2 ∷ 3 ∷ 4 ∷ [])
    ∷ plans (uneven 99 4 99) (listing (at 1 2 3 ∷ []) (1 ∷ 2 ∷ 4 ∷ 6 ∷ []) 2 13) (leaves ++ (join 6 1 2 1 0 32 184 ∷ [])) (0 ∷ 1 ∷ 2 ∷ 3 ∷ [])
    ∷ plans (uneven 99 99 3) (listing (at 1 2 3 ∷ at 0 1 4 ∷ at 0 3 5 ∷ []) (1 ∷ 2 ∷ 4 ∷ 6 ∷ 3 ∷ 7 ∷ []) 3 14)
    (leaves ++ (join 6 1 2 1 0 32 184 ∷ join 3 0 1 0 0 16 60 ∷ join 7 0 3 0 0 64 380 ∷ []))
    (0 ∷ 1 ∷ 2 ∷ 3 ∷ 4 ∷ 5 ∷ [])
    ∷ plans four reordered
    (scan 0 4 4 ∷ scan 1 4 4 ∷ scan 2 64 64 ∷ scan 3 2 2 ∷ join 6 1 2 1 0 256 580 ∷ join 7 0 4 0 0 256 1864 ∷ join 15 5 3 2 0 512 2890
    ∷ join 3 0 1 0 0 4 28 ∷ join 7 7 2 1 0 256 604 ∷ join 12 2 3 2 0 128 322 ∷ join 15 7 9 1 0 512 1374 ∷ [])
    (0 ∷ 1 ∷ 2 ∷ 3 ∷ 4 ∷ 8 ∷ 10 ∷ 7 ∷ 9 ∷ [])
    ∷ []

pub costed_so : map (λ (r : Plans). costed_of r.input r.listing) costings ≡ map (λ (r : Plans). r.expected) costings
unfolding costed_of
costed_so = refl

-- ---- both, after 14: pairs, plans, memo, visits and stop

unfoldable pub joined_of : Input → Enumeration → State
unfolding zip_with costed_of together
joined_of i t = together i t

pub together_so : joined_of (uneven 99 99 3) (listing (at 1 2 3 ∷ at 0 1 4 ∷ at 0 3 5 ∷ []) (1 ∷ 2 ∷ 4 ∷ 6 ∷ 3 ∷ 7 ∷ []) 3 14) ≡ record {
  tried = pair 2 4 ∷ pair 1 2 ∷ pair 1 6 ∷ [];
  plans = leaves ++ (join 6 1 2 1 0 32 184 ∷ join 3 0 1 0 0 16 60 ∷ join 7 0 3 0 0 64 380 ∷ []);
  memo = entry 1 0 ∷ entry 2 1 ∷ entry 4 2 ∷ entry 6 3 ∷ entry 3 4 ∷ entry 7 5 ∷ [];
  visits = 3;
  stop = 14;
}
unfolding joined_of
together_so = refl
