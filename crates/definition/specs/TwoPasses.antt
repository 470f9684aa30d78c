-- Document 01, 'Plans and memo', in two passes. The order of the search follows from the edges alone: it never asks for a row count. So first the
-- enumeration: the walk lists its candidates (document 01: trials). Then the costing: each candidate, in the same order, is made a plan. That the
-- two together are the search is a law, `search_is`. Definitions only.
use Rattle.std.specs.Prelude.{ℕ, suc, ◌+◌, Bool, true, false, ◌&&◌, ◌||◌, List, [], ◌∷◌, ◌++◌, map, length, get_or, set, eqb, ltb}
use mathlib.Core.List.{zip_with}
use Rattle.std.proofs.Math.Option.{Option, none, some}
use Rattle.std.specs.Int.Bits.{bit_or}
use Rattle.definition.specs.Answers.{plans_full, memo_full, visits_spent}
use Rattle.definition.specs.Lists.{member}
use Rattle.definition.specs.Hypergraph.{has_edge}
use Rattle.definition.specs.Cost.{cheaper}
use Rattle.definition.specs.Connection.{Connection}
use Rattle.definition.specs.Walk.{each, solve}
use Rattle.definition.specs.Search.{Plan, Entry, Pair, Input, State, absent, plan_of, connection_for, candidate, leaf_plans, leaf_entries}

-- a candidate: the positions in the memo of its left set, of its right set and of their union
pub record Positions : Type 0 where
  pub left : ℕ
  pub right : ℕ
  pub union : ℕ

-- candidate k of a list
abbrev pub candidate_at : List Positions → ℕ → Positions
candidate_at ts k = get_or ts k (record { left = 0; right = 0; union = 0 })

-- ---- the enumeration. It decides looks, stops and the memo's order; of the input it asks for the edges, how many leaves there are, the room in both
-- stores and the limit

-- the candidates so far, the memo's sets "in order of first entry", and the visits made; stop is 0 while the walk goes on, and then 12, 13 or 14
pub record Enumeration : Type 0 where
  pub candidates : List Positions
  pub sets : List ℕ
  pub visits : ℕ
  pub stop : ℕ

-- whether the memo has s
abbrev pub entered : Enumeration → ℕ → Bool
entered t s = member s t.sets

-- where s stands among these sets; where it will stand, if it is none of them and is entered next
unfoldable pub position_of : List ℕ → ℕ → ℕ
position_of [] s = 0
position_of (x ∷ l) s = elim (eqb x s) [ true ↦ 0 | false ↦ suc (position_of l s) ]

-- stopped with n
abbrev pub halted : Enumeration → ℕ → Enumeration
halted t n = record { candidates = t.candidates; sets = t.sets; visits = t.visits; stop = n }

-- "the next look would pass the limit" stops with 14
unfoldable pub count_visit : Input → Enumeration → Enumeration
count_visit i t =
    elim (eqb t.stop 0) [
      | true ↦
          elim (ltb t.visits i.limit) [
            | true ↦ record { candidates = t.candidates; sets = t.sets; visits = suc t.visits; stop = 0 }
            | false ↦ halted t visits_spent
          ]
      | false ↦ t
    ]

-- the candidate of the sets a and b, where l are the memo's sets
abbrev pub positions : List ℕ → ℕ → ℕ → Positions
positions l a b = record { left = position_of l a; right = position_of l b; union = position_of l (bit_or a b) }

-- the sets with s entered, if it is none of them; the last argument: whether it is one
abbrev pub with_entry : List ℕ → ℕ → Bool → List ℕ
with_entry l s known = elim known [ true ↦ l | false ↦ l ++ (s ∷ []) ]

-- with the candidate of a and b
abbrev pub listed : Enumeration → ℕ → ℕ → Enumeration
listed t a b =
    record {
      candidates = t.candidates ++ (positions t.sets a b ∷ []);
      sets = with_entry t.sets (bit_or a b) (entered t (bit_or a b));
      visits = t.visits;
      stop = 0;
    }

-- "12 comes before 13, and neither writes the trial". Each leaf and each candidate takes a plan's place
abbrev pub list_if_room : Input → Enumeration → ℕ → ℕ → Enumeration
list_if_room i t a b =
    elim (ltb (length i.leaves + length t.candidates) i.plan_room) [
      | true ↦ elim (entered t (bit_or a b) || ltb (length t.sets) i.memo_room) [ true ↦ listed t a b | false ↦ halted t memo_full ]
      | false ↦ halted t plans_full
    ]

-- a candidate is made of two sets that have entries, with an edge between them
unfoldable pub list_pair : Input → ℕ → ℕ → Enumeration → Enumeration
list_pair i a b t =
    elim (eqb t.stop 0) [
      | true ↦ elim (entered t a && entered t b && has_edge i.edges a b) [ true ↦ list_if_room i t a b | false ↦ t ]
      | false ↦ t
    ]

-- before the first visit: each leaf has an entry
unfoldable pub leaves_entered : Input → Enumeration
leaves_entered i = record { candidates = []; sets = map (λ (e : Entry). e.set) (leaf_entries 0 i.leaves); visits = 0; stop = 0 }

-- all candidates, by the walk of the search
unfoldable pub enumerate : Input → Enumeration
enumerate i = solve i.edges Enumeration entered (count_visit i) (list_pair i) (length i.leaves) (leaves_entered i)

-- ---- the costing: the candidates in order, whatever ended the enumeration

-- the plans so far, and for each position in the memo the number of the plan kept there
pub record Costed : Type 0 where
  pub plans : List Plan
  pub best : List ℕ

-- before the first candidate: each leaf is a plan, and kept
abbrev pub leaves_costed : Input → Costed
leaves_costed i = record { plans = leaf_plans 0 i.leaves; best = map (λ (e : Entry). e.plan) (leaf_entries 0 i.leaves) }

-- a state of the search with these plans: `candidate` reads nothing else of it
abbrev pub having : List Plan → State
having ps = record { tried = []; plans = ps; memo = []; visits = 0; stop = 0 }

-- the plans x and y of ps, kept for a and b, joined; the last argument: what the connecting edges give. An enumeration's candidates have such an
-- edge
unfoldable pub plan_over : List Plan → ℕ → ℕ → ℕ → ℕ → Option Connection → Plan
plan_over ps a b x y none = absent
plan_over ps a b x y (some c) = candidate (having ps) a b x y c

-- "Fields: set, left plan, right plan, lead edge (lowest connecting edge), kind, rows, cost." Left and right plan are those kept at this moment at the
-- candidate's two positions. l: the memo's sets
unfoldable pub candidate_plan : Input → List ℕ → Positions → Costed → Plan
candidate_plan i l t c =
    let a = get_or l t.left 0 in
    let b = get_or l t.right 0 in
    let x = get_or c.best t.left 0 in
    let y = get_or c.best t.right 0 in
    plan_over c.plans a b x y (connection_for i c.plans a b x y)

-- "A trial replaces the memo's plan only if strictly cheaper": plan p, number n, at position k, which is the next one for a set that has no plan
-- yet
unfoldable pub best_after : Costed → ℕ → ℕ → Plan → List ℕ
best_after c k n p =
    elim (eqb k (length c.best)) [
      | true ↦ c.best ++ (n ∷ [])
      | false ↦ elim (cheaper p.estimate (plan_of c.plans (get_or c.best k 0)).estimate) [ true ↦ set c.best k n | false ↦ c.best ]
    ]

-- every candidate is written as a plan
abbrev pub written : Costed → ℕ → Plan → Costed
written c k p = record { plans = c.plans ++ (p ∷ []); best = best_after c k (length c.plans) p }

-- the candidate t as a plan
abbrev pub cost_step : Input → List ℕ → Positions → Costed → Costed
cost_step i l t c = written c t.union (candidate_plan i l t c)

-- after these candidates
abbrev pub costed_by : Input → List ℕ → List Positions → Costed
costed_by i l ts = each (cost_step i l) ts (leaves_costed i)

-- after all of them
unfoldable pub costed : Input → Enumeration → Costed
costed i t = costed_by i t.sets t.candidates

-- ---- both: what the search has done when it ends

-- the sets of a candidate
abbrev pub pair_at : List ℕ → Positions → Pair
pair_at l t = record { left = get_or l t.left 0; right = get_or l t.right 0 }

-- the set s, for which plan n is kept
abbrev pub entry_with : ℕ → ℕ → Entry
entry_with s n = record { set = s; plan = n }

-- the pairs tried, the plans, the memo, the visits and the stop
unfoldable pub together : Input → Enumeration → State
together i t =
    record {
      tried = map (pair_at t.sets) t.candidates;
      plans = (costed i t).plans;
      memo = zip_with entry_with t.sets (costed i t).best;
      visits = t.visits;
      stop = t.stop;
    }
