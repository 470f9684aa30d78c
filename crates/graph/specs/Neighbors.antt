-- Where the edges lead from the leaves of a set, and the neighbour sets of single leaves: where each edge has one leaf on each side, the neighbors
-- of a set are those of its leaves together.
use Rattle.std.specs.Prelude.{◌≡◌, ℕ, ◌^◌, ◌<◌, Bool, true, false, ◌&&◌, ◌==◌, not, List, [], ◌∷◌, get_or}
use Rattle.std.specs.Int.Bits.{bit_or}
use Rattle.nodeset.specs.Sets.{disjoint, singleton, lowest}
use Rattle.definition.specs.Hypergraph.{Edge}

-- where one side of an edge has a leaf of s: its other side
unfoldable pub onto : ℕ → ℕ → ℕ → ℕ
onto s near far = elim (disjoint near s) [ true ↦ 0 | false ↦ far ]

-- the other sides of all edges of which one side has a leaf of s
unfoldable pub across : List Edge → ℕ → ℕ
across [] s = 0
across (e ∷ es) s = bit_or (bit_or (onto s e.left e.right) (onto s e.right e.left)) (across es s)

-- a set of one leaf
abbrev pub one_leaf : ℕ → Bool
one_leaf s = not (s == 0) && singleton (lowest s) == s

-- the sides of an edge have one leaf each
abbrev pub one_leaf_each : ℕ → ℕ → Bool
one_leaf_each left right = one_leaf left && one_leaf right

-- each edge has one leaf on each side
unfoldable pub is_simple : List Edge → Bool
is_simple [] = true
is_simple (e ∷ es) = one_leaf_each e.left e.right && is_simple es

-- the list has for each leaf the leaves that the edges lead to from it
abbrev pub Adjacent : List Edge → List ℕ → Type 0
Adjacent es neighbors = (i : ℕ) → i < 64 → get_or neighbors i 0 ≡ across es (2 ^ i)
