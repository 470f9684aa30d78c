-- The order of the search on two small graphs, by computation, where every set has a plan. Each fact of the order shows in one of them.
use Rattle.std.specs.Prelude.{◌≡◌, refl, true, List, [], ◌∷◌, ◌++◌, ℕ}
use Rattle.std.specs.Int.Count.{count_trailing_zeros}
use Rattle.nodeset.specs.Sets.{bit, singleton, lowest, all_below, up_to_lowest}
use Rattle.nodeset.specs.Subsets.{doubled, subsets_of, non_empty_subsets, singletons_below, singletons}
use Rattle.definition.specs.Hypergraph.{Edge, none32, has_edge, beyond, neighborhood}
use Rattle.definition.specs.Walk.{enumerate_cmp_rec, emit_csg, enumerate_csg_rec, solve_from, solve}

pub data Step : Type 0 where
  visited : Step
  tried : ℕ → ℕ → Step

abbrev edge : ℕ → ℕ → Edge
edge l r = record { left = l; right = r; predicate = none32; source = 0; type = 0 }

unfoldable pub steps : List Edge → ℕ → List Step
unfolding count_trailing_zeros bit singleton lowest all_below up_to_lowest doubled subsets_of non_empty_subsets singletons_below singletons has_edge beyond neighborhood enumerate_cmp_rec emit_csg enumerate_csg_rec solve_from
steps es n = solve es (List Step) (λ st s. true) (λ st. st ++ (visited ∷ [])) (λ a b st. st ++ (tried a b ∷ [])) n []

-- three leaves, each with each: the neighbours of {0} come highest first
pub triangle : steps (edge 1 2 ∷ edge 1 4 ∷ edge 2 4 ∷ []) 3
    ≡ (tried 2 4 ∷ visited ∷ visited
    ∷ tried 1 4 ∷ visited ∷ tried 1 6 ∷ visited
    ∷ tried 1 2 ∷ visited ∷ tried 1 6 ∷ visited
    ∷ visited ∷ tried 3 4 ∷ visited ∷ tried 5 2 ∷ visited
    ∷ visited ∷ visited ∷ visited ∷ [])
unfolding steps
triangle = refl

-- four leaves, 1 with each other: the subsets of {2, 3} come rising, in both passes of both functions
pub fork : steps (edge 1 2 ∷ edge 2 4 ∷ edge 2 8 ∷ []) 4
    ≡ (tried 2 8 ∷ tried 2 4 ∷ visited ∷ tried 6 8 ∷ visited ∷ tried 10 4 ∷ visited
    ∷ visited ∷ visited ∷ visited
    ∷ tried 1 2 ∷ visited ∷ tried 1 6 ∷ visited ∷ tried 1 10 ∷ visited ∷ tried 1 14
    ∷ visited ∷ visited ∷ visited
    ∷ visited ∷ tried 3 8 ∷ tried 3 4 ∷ visited
    ∷ visited ∷ tried 7 8 ∷ visited ∷ tried 11 4 ∷ visited
    ∷ visited ∷ visited ∷ visited ∷ [])
unfolding steps
fork = refl
