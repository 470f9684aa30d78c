-- What the laws of subsets say of a list: each member has a property; the steps from one subset to the next go through it; it rises. The laws
-- themselves are in proofs/SubsetLaws.antt and proofs/SingletonLaws.antt.
use Rattle.std.specs.Prelude.{◌≡◌, ℕ, ◌<◌, ◌≤◌, List, [], ◌∷◌}
use Rattle.nodeset.specs.Subsets.{next_subset}

abbrev pub All : {A : Type 0} → (A → Type 0) → List A → Type 0
All Q [] = Unit {0}
All Q (x ∷ xs) = Q x × All Q xs

-- from u, `next_subset` goes through the list and ends at s
abbrev pub Steps : ℕ → ℕ → List ℕ → Type 0
Steps s u [] = u ≡ s
Steps s u (v ∷ r) = (u < v) × (v ≤ s) × (next_subset s u ≡ v) × Steps s v r

-- each member is above x, and they rise: so none stands twice
abbrev pub Rising : ℕ → List ℕ → Type 0
Rising x [] = Unit {0}
Rising x (y ∷ l) = (x < y) × Rising y l
