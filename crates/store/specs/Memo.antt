-- Where the memo has a set, and the plan that it keeps for it.
use Rattle.std.specs.Prelude.{List, [], ◌∷◌, Bool, true, false, ◌||◌, ℕ, zero, suc, get_or, eqb, Option, None, Some}
use Rattle.nodeset.specs.declared.PlanId.{PlanId}

-- where s is in a list whose first place is number i
unfoldable pub spot : ℕ → List ℕ → ℕ → Option ℕ
spot i [] s = None
spot i (x ∷ l) s = elim (eqb x s) [ true ↦ Some i | false ↦ spot (suc i) l s ]

-- whether s is at one of k places, the first of which is number i
unfoldable pub holds : List ℕ → ℕ → ℕ → ℕ → Bool
holds l i zero s = false
holds l i (suc k) s = eqb (get_or l i 0) s || holds l (suc i) k s

abbrev pub plan_id : ℕ → PlanId
plan_id n = record { 0 = n }

abbrev pub kept_of : List ℕ → Option ℕ → Option PlanId
kept_of mplan (Some i) = Some (plan_id (get_or mplan i 0))
kept_of mplan None = None

abbrev pub is_at : Option ℕ → Bool
is_at (Some i) = true
is_at None = false
