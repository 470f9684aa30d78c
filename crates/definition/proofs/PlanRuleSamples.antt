-- The plan rule is not empty: at the starred sheets A and its tie candidates are made, the theorem says which plan is kept for all three
-- leaves and what it joins, and a costlier plan, a later one of equal cost or a pair with a shared leaf does not meet the definitions.
use Rattle.std.specs.Prelude.{◌≡◌, refl, List, [], ◌∷◌, ℕ, ◌^◌, ◌<◌, ◌≤◌}
use Rattle.std.proofs.Common.{subst, arith, lit<, lit≤}
use Rattle.std.specs.Int.Count.{count_trailing_zeros}
use Rattle.std.specs.Float.Ieee.{mul, add, div, lt, of_int}
use Rattle.nodeset.specs.Sets.{bit, singleton, lowest, all_below, up_to_lowest}
use Rattle.nodeset.specs.SetLaws.{Apart, disjoint_apart}
use Rattle.nodeset.specs.SubsetLaws.{All}
use Rattle.nodeset.specs.Subsets.{doubled, subsets_of, non_empty_subsets, singletons_below, singletons}
use Rattle.definition.specs.Hypergraph.{Edge, has_edge, connecting_from, beyond, neighborhood}
use Rattle.definition.specs.Connection.{any_predicate, candidate_kind, selectivities_of, connection_over}
use Rattle.definition.specs.Cost.{filtered, candidate_from}
use Rattle.definition.specs.Walk.{enumerate_cmp_rec, emit_csg, enumerate_csg_rec, solve_from}
use Rattle.definition.proofs.WalkLaws.{Sided}
use Rattle.definition.specs.Search.{plan_of, Leaf, Plan, Entry, Pair, Input, State, find, replace, visit, candidate, memo_after}
use Rattle.definition.specs.Search.{linked, joined, attempt, leaf_plans, leaf_entries, start, search}
use Rattle.definition.specs.Kept.{Several, KeptAfter, Qualifies, Meets, occurs, JoinsOnce}
use Rattle.definition.specs.PlanRule.{WithinLimits, WellKept, PlanRule}
use Rattle.definition.proofs.KeptLaws.{kept_unique, meets_unique}
use Rattle.definition.proofs.KeptSearch.{search_rule, attempts, attempts_rule}

abbrev edge : ℕ → ℕ → ℕ → ℕ → Edge
edge l r p m = record { left = l; right = r; predicate = p; source = m; type = 0 }

-- a leaf with these rows and columns
abbrev leaf_with : ℕ → ℕ → Leaf
leaf_with rows columns = record { rows = rows; columns = columns }

abbrev input : List Leaf → List Edge → List ℕ → List ℕ → ℕ → Input
input ls es kinds ss room =
    record { leaves = ls; edges = es; kinds = kinds; selectivities = ss; plan_room = room; memo_room = 512; limit = 1000000 }

-- leaves 0, 1 and 2, the second with as many columns as said; a predicate between 0 and 1 and one between 1 and 2; places for so many plans
abbrev chain : ℕ → ℕ → ℕ → ℕ → ℕ → ℕ → ℕ → Input
chain x y z columns s t room =
    input (leaf_with x 1 ∷ leaf_with y columns ∷ leaf_with z 1 ∷ []) (edge 1 2 0 2 ∷ edge 2 4 1 4 ∷ []) (9 ∷ 9 ∷ 0 ∷ 9 ∷ 0 ∷ []) (s ∷ t ∷ []) room

-- what the search is given for sheet A
abbrev sheet_a : Input
sheet_a = chain 4 8 16 2 32768 16384 1088

-- "A with rows 4, 4, 4, shares 16384 and one column per leaf": candidates 2 and 3 cost the same
abbrev tie : Input
tie = chain 4 4 4 1 16384 16384 1088

-- sheet A with places for six plans: stopped by 12 after three candidates
abbrev full : Input
full = chain 4 8 16 2 32768 16384 6

sided : (l r p m : ℕ) → (0 < l) × (l < 2 ^ 64) × (0 < r) × (r < 2 ^ 64) → Sided (edge l r p m)
sided l r p m h = record { left_some = h.0; left_set = h.1; right_some = h.2; right_set = h.3 }

chain-within : (x y z columns s t room : ℕ) → (x ≤ 65536) × (y ≤ 65536) × (z ≤ 65536) × (columns ≤ 4096) × (s ≤ 65536) × (t ≤ 65536)
    → WithinLimits (chain x y z columns s t room)
chain-within x y z columns s t room h =
    record {
      count = lit≤ tt;
      leaves = ((omega arith, lit≤ tt), ((omega arith, h.3), ((omega arith, lit≤ tt), tt)));
      selectivities = (h.4, (h.5, tt));
      edges = (sided 1 2 0 2 (lit< tt, lit< tt, lit< tt, lit< tt), (sided 2 4 1 4 (lit< tt, lit< tt, lit< tt, lit< tt), tt));
    }

-- the search, with all that it takes to compute it
unfoldable pub run : Input → State
unfolding count_trailing_zeros bit singleton lowest all_below up_to_lowest doubled subsets_of non_empty_subsets singletons_below singletons has_edge connecting_from beyond neighborhood any_predicate selectivities_of connection_over filtered candidate_from enumerate_cmp_rec emit_csg enumerate_csg_rec solve_from find replace visit candidate_kind candidate memo_after linked joined attempt leaf_plans leaf_entries start search mul add div lt of_int
run i = search i

abbrev pair : ℕ → ℕ → Pair
pair a b = record { left = a; right = b }

abbrev entry : ℕ → ℕ → Entry
entry s p = record { set = s; plan = p }

abbrev Rule : Input → Type 0
Rule i = PlanRule i (search i).tried (search i).plans (search i).memo

pub three : Several 7
unfolding bit
three = record { one = 0; other = 1; distinct = λ e. omega arith; has_one = refl; has_other = refl }

-- four candidates; the memo keeps plan 5, which is candidate 2, for all three leaves; its leaves are 0, 1, 2
pub rule_a : Rule sheet_a
rule_a = search_rule sheet_a (chain-within 4 8 16 2 32768 16384 1088 (lit≤ tt, lit≤ tt, lit≤ tt, lit≤ tt, lit≤ tt, lit≤ tt))

pub made_a : ((run sheet_a).tried ≡ pair 2 4 ∷ pair 1 2 ∷ pair 1 6 ∷ pair 3 4 ∷ [])
    × ((run sheet_a).memo ≡ entry 1 0 ∷ entry 2 1 ∷ entry 4 2 ∷ entry 6 3 ∷ entry 3 4 ∷ entry 7 5 ∷ [])
unfolding run
made_a = (refl, refl)

pub kept_a : WellKept sheet_a (search sheet_a).tried (search sheet_a).plans 7 5
unfolding run
kept_a = rule_a.kept 5 (lit< tt) three

meets_a : Meets 3 (search sheet_a).plans 5 (0 ∷ 1 ∷ 2 ∷ [])
unfolding run
meets_a =
    Meets.at_join (lit≤ tt) (lit< tt) (Meets.at_leaf (lit< tt) refl)
    (Meets.at_join (lit≤ tt) (lit< tt) (Meets.at_leaf (lit< tt) refl) (Meets.at_leaf (lit< tt) refl) refl) refl

-- what the theorem says is met is what is met
pub leaves_a : kept_a.leaves.leaves ≡ 0 ∷ 1 ∷ 2 ∷ []
leaves_a = meets_unique 3 (search sheet_a).plans kept_a.leaves.met meets_a

-- plan 3, of leaves 1 and 2, leaves leaf 0 out
pub left_out_a : JoinsOnce 3 (search sheet_a).plans 7 3 → ⊥
unfolding run
left_out_a j =
    let m : Meets 3 (search sheet_a).plans 3 (1 ∷ 2 ∷ []) = Meets.at_join (lit≤ tt) (lit< tt) (Meets.at_leaf (lit< tt) refl) (Meets.at_leaf (lit< tt) refl) refl in
    let e : ◌≡◌ {A = ℕ} 0 1 = subst (λ (xs : List ℕ). occurs 0 xs ≡ 1) (meets_unique 3 (search sheet_a).plans j.met m) (j.once 0) in
    omega arith

-- the costlier candidate of the same set, plan 6, is not kept
pub dearer_a : KeptAfter 3 (search sheet_a).tried (search sheet_a).plans 4 7 6 → ⊥
unfolding run
dearer_a k =
    let e : ◌≡◌ {A = ℕ} 5 6 = kept_unique 3 (search sheet_a).tried (search sheet_a).plans 4 7 5 6 (lit≤ tt) (rule_a.memo.kept 5 (lit< tt)) k in
    omega arith

-- a pair with a shared leaf does not qualify
pub shared_a : (q : Plan) → Qualifies sheet_a.edges 3 (search sheet_a).tried (search sheet_a).plans 4 (pair 3 6) q → ⊥
unfolding bit
shared_a q h = let e : ◌≡◌ {A = ℕ} 1 0 = h.apart 1 in omega arith

-- of two that cost the same the earlier is kept
pub tie_first : KeptAfter 3 (search tie).tried (search tie).plans 4 7 5 × (KeptAfter 3 (search tie).tried (search tie).plans 4 7 6 → ⊥)
unfolding run
tie_first =
    let r = search_rule tie (chain-within 4 4 4 1 16384 16384 1088 (lit≤ tt, lit≤ tt, lit≤ tt, lit≤ tt, lit≤ tt, lit≤ tt)) in
    let k = r.memo.kept 5 (lit< tt) in (
      k,
      λ j.
          let e : ◌≡◌ {A = ℕ} 5 6 = kept_unique 3 (search tie).tried (search tie).plans 4 7 5 6 (lit≤ tt) k j in
          omega arith,
    )

-- and where 12 ends the search
pub full-kept : ((run full).stop ≡ 12) × WellKept full (search full).tried (search full).plans 7 5
unfolding run
full-kept = (refl, (search_rule full (chain-within 4 8 16 2 32768 16384 6 (lit≤ tt, lit≤ tt, lit≤ tt, lit≤ tt, lit≤ tt, lit≤ tt))).kept 5 (lit< tt) three)

-- "swapping a trial to suit its edge": leaf 2 has an edge with leaf 0 and one with leaf 1. Candidate 3 is {0, 2} with {1}, though its lead edge
-- has {1} on the left
abbrev star : Input
star = input (leaf_with 4 1 ∷ leaf_with 8 1 ∷ leaf_with 16 1 ∷ []) (edge 1 4 0 4 ∷ edge 2 4 1 4 ∷ []) (9 ∷ 9 ∷ 0 ∷ 9 ∷ 0 ∷ []) (32768 ∷ 16384 ∷ []) 1088

pub not_turned : ((run star).tried ≡ pair 2 4 ∷ pair 1 4 ∷ pair 1 6 ∷ pair 5 2 ∷ [])
    × ((plan_of (run star).plans 6).left ≡ 4)
    × ((plan_of (run star).plans 6).right ≡ 1)
    × ((plan_of (run star).plans 6).lead ≡ 1)
unfolding run
not_turned = (refl, refl, refl, refl)

-- four leaves in a row, and pairs in an order in which a kept plan changes after it was used: plan 6 joins plan 5, which was kept for leaves 0, 1
-- and 2 when it was tried, and plan 8 is kept for them at the end
abbrev four : Input
four =
    input (leaf_with 4 1 ∷ leaf_with 4 1 ∷ leaf_with 64 1 ∷ leaf_with 2 1 ∷ []) (edge 1 2 0 2 ∷ edge 2 4 1 4 ∷ edge 4 8 2 6 ∷ [])
    (9 ∷ 9 ∷ 0 ∷ 9 ∷ 0 ∷ 9 ∷ 0 ∷ []) (16384 ∷ 65536 ∷ 65536 ∷ []) 1088

four-within : WithinLimits four
four-within =
    record {
      count = lit≤ tt;
      leaves = ((lit≤ tt, lit≤ tt), ((lit≤ tt, lit≤ tt), ((lit≤ tt, lit≤ tt), ((lit≤ tt, lit≤ tt), tt))));
      selectivities = (lit≤ tt, (lit≤ tt, (lit≤ tt, tt)));
      edges = (sided 1 2 0 2 (lit< tt, lit< tt, lit< tt, lit< tt), (sided 2 4 1 4 (lit< tt, lit< tt, lit< tt, lit< tt), (sided 4 8 2 6 (lit< tt, lit< tt, lit< tt, lit< tt), tt)));
    }

abbrev reordered : List Pair
reordered = pair 2 4 ∷ pair 1 6 ∷ pair 7 8 ∷ pair 1 2 ∷ pair 3 4 ∷ []

reordered_apart : All (λ (t : Pair). Apart t.left t.right) reordered
reordered_apart =
    (disjoint_apart 2 4 refl, (disjoint_apart 1 6 refl, (disjoint_apart 7 8 refl, (disjoint_apart 1 2 refl, (disjoint_apart 3 4 refl, tt)))))

pub changed_since : let st = attempts four reordered (start four) in
    KeptAfter 4 st.tried st.plans 2 7 5 × ((plan_of st.plans 6).left ≡ 5) × KeptAfter 4 st.tried st.plans 5 7 8
unfolding run
changed_since =
    let r = attempts_rule four four-within reordered reordered_apart in
    ((r.candidates.qualify 2 (lit< tt)).left, refl, r.memo.kept 5 (lit< tt))
