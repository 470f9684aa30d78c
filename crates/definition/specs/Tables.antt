-- Document 01, 'Conflict tables': types, and the cells that are yes.
use Rattle.std.specs.Prelude.{ℕ, Bool, true, false, ◌&&◌, ◌||◌, List, [], ◌∷◌, eqb, leb}
use Rattle.definition.specs.Answers.{unknown_kind}
use Rattle.definition.specs.Lists.{member}

-- "Kinds 0 and 8 become type 0; 1, 2, 6, 7 become 1; 3 and 4 become 2; 5 becomes 4." Other kinds have no type, and are given 0
unfoldable pub type_of : ℕ → ℕ
type_of k =
    elim (member k (1 ∷ 2 ∷ 6 ∷ 7 ∷ [])) [
      | true ↦ 1
      | false ↦ elim (member k (3 ∷ 4 ∷ [])) [ true ↦ 2 | false ↦ elim (eqb k 5) [ true ↦ 4 | false ↦ 0 ] ]
    ]

-- each of the first types with each of the second
abbrev pub pairs : List ℕ → List ℕ → ℕ → ℕ → Bool
pairs xs ys a b = member a xs && member b ys

-- "`assoc`: 0 with 0, 3; 3 with 3 to 7; each of 4 to 7 with 4 to 7."
unfoldable pub assoc : ℕ → ℕ → Bool
assoc a b =
    pairs (0 ∷ []) (0 ∷ 3 ∷ []) a b || pairs (3 ∷ []) (3 ∷ 4 ∷ 5 ∷ 6 ∷ 7 ∷ []) a b || pairs (4 ∷ 5 ∷ 6 ∷ 7 ∷ []) (4 ∷ 5 ∷ 6 ∷ 7 ∷ []) a b

-- "`l_asscom`: 0, 1, 2 with 0 to 3; 3, 5, 7 with all."
unfoldable pub l_asscom : ℕ → ℕ → Bool
l_asscom a b =
    pairs (0 ∷ 1 ∷ 2 ∷ []) (0 ∷ 1 ∷ 2 ∷ 3 ∷ []) a b || pairs (3 ∷ 5 ∷ 7 ∷ []) (0 ∷ 1 ∷ 2 ∷ 3 ∷ 4 ∷ 5 ∷ 6 ∷ 7 ∷ []) a b

-- "`r_asscom`: 0 with 0; 6 and 7 with 6 and 7."
unfoldable pub r_asscom : ℕ → ℕ → Bool
r_asscom a b = pairs (0 ∷ []) (0 ∷ []) a b || pairs (6 ∷ 7 ∷ []) (6 ∷ 7 ∷ []) a b

-- what a table says: its cell, or the answer that refuses
pub data Asked : Type 0 where
  cell : Bool → Asked
  refused : ℕ → Asked

-- stranger: "a type above 7 asked of a conflict table"
abbrev pub asked : (ℕ → ℕ → Bool) → ℕ → ℕ → Asked
asked table a b = elim (leb a 7 && leb b 7) [ true ↦ cell (table a b) | false ↦ refused unknown_kind ]
