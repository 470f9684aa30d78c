-- What 'the earliest of the least costly' refuses: a costlier candidate, and a later one of equal cost.
use Rattle.std.specs.Prelude.{refl, true, List, [], ◌∷◌, ℕ, get_or}
use Rattle.std.proofs.Common.{not-le_of_lt, lit<, lit≤}
use Rattle.std.specs.Float.Ieee.{of_int}
use Rattle.definition.specs.Cost.{Estimate, whole}
use Rattle.definition.specs.EstimateOrder.{Earliest}

abbrev costs : List ℕ → ℕ → Estimate
costs cs k = record { rows = whole 1; cost = whole (get_or cs k 0) }

-- candidate 0 costs more than candidate 1, which comes later
pub dearer : Earliest (costs (5 ∷ 4 ∷ [])) (λ k. true) 2 0 → ⊥
unfolding of_int
dearer e = not-le_of_lt (lit< tt) (e.least 1 (lit< tt) refl)

-- candidate 1 costs as much as candidate 0, which comes earlier
pub later : Earliest (costs (4 ∷ 4 ∷ [])) (λ k. true) 2 1 → ⊥
unfolding of_int
later e = not-le_of_lt (e.earliest 0 (lit< tt) refl) (lit≤ tt)
