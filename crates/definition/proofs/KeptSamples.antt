-- What the plan rule's definitions refuse, on lists made by hand: a leaf left out, a leaf met twice, a join without an edge.
use Rattle.std.specs.Prelude.{◌≡◌, refl, true, List, [], ◌∷◌, ℕ, zero, suc, ◌<◌, get_or}
use Rattle.std.proofs.Common.{subst, not-suc-le-zero, le_of_suc-le-suc, arith, lit<, lit≤}
use Rattle.std.proofs.lemmas.Bool.{false≢true}
use Rattle.nodeset.specs.Sets.{bit}
use Rattle.definition.specs.Hypergraph.{Edge, no_edge, connects}
use Rattle.definition.specs.Search.{Plan, absent}
use Rattle.definition.specs.Kept.{EdgeBetween, Meets, occurs, JoinsOnce, EdgeAtEachJoin}
use Rattle.definition.proofs.KeptLaws.{meets_unique}

-- a plan of this set, of the plans l and r
abbrev plan : ℕ → ℕ → ℕ → Plan
plan s l r = record { set = s; left = l; right = r; lead = 0; kind = 0; estimate = absent.estimate }

-- three leaves; plan 3 joins 0 and 2, plan 4 joins that and 1, plan 5 joins plan 4 and leaf 0 again, and each names all leaves from plan 4 on
abbrev plans : List Plan
plans = plan 1 0 0 ∷ plan 2 1 1 ∷ plan 4 2 2 ∷ plan 5 0 2 ∷ plan 7 3 1 ∷ plan 7 4 0 ∷ []

meets_3 : Meets 3 plans 3 (0 ∷ 2 ∷ [])
meets_3 = Meets.at_join (lit≤ tt) (lit< tt) (Meets.at_leaf (lit< tt) refl) (Meets.at_leaf (lit< tt) refl) refl

meets_4 : Meets 3 plans 4 (0 ∷ 2 ∷ 1 ∷ [])
meets_4 = Meets.at_join (lit≤ tt) (lit< tt) meets_3 (Meets.at_leaf (lit< tt) refl) refl

meets_5 : Meets 3 plans 5 (0 ∷ 2 ∷ 1 ∷ 0 ∷ [])
meets_5 = Meets.at_join (lit≤ tt) (lit< tt) meets_4 (Meets.at_leaf (lit< tt) refl) refl

-- plan 3 leaves leaf 1 out
pub left_out : JoinsOnce 3 plans 7 3 → ⊥
unfolding bit
left_out j =
    let e : ◌≡◌ {A = ℕ} 0 1 = subst (λ (xs : List ℕ). occurs 1 xs ≡ 1) (meets_unique 3 plans j.met meets_3) (j.once 1) in
    omega arith

-- plan 5 meets leaf 0 twice
pub met_twice : JoinsOnce 3 plans 7 5 → ⊥
unfolding bit
met_twice j =
    let e : ◌≡◌ {A = ℕ} 2 1 = subst (λ (xs : List ℕ). occurs 0 xs ≡ 1) (meets_unique 3 plans j.met meets_5) (j.once 0) in
    omega arith

-- ---- edges

-- leaves 0, 1 and 2 in a row
abbrev edges : List Edge
edges = record { left = 1; right = 2; predicate = 0; source = 2; type = 0 } ∷ record { left = 2; right = 4; predicate = 1; source = 4; type = 0 } ∷ []

no_edge_lem : EdgeBetween edges 1 4 → ⊥
no_edge_lem b = go b.edge b.there b.between
  where
    go : (k : ℕ) → k < 2 → connects 1 4 (get_or edges k no_edge) ≡ true → ⊥
    go zero h e = false≢true e
    go (suc zero) h e = false≢true e
    go (suc (suc k)) h e = not-suc-le-zero (le_of_suc-le-suc (le_of_suc-le-suc h))

-- the join of leaves 0 and 2 has no edge
pub without_edge : EdgeAtEachJoin edges 3 plans 3 → ⊥
without_edge (EdgeAtEachJoin.at_leaf h) = omega arith
without_edge (EdgeAtEachJoin.at_join h l b x y) = no_edge_lem b
