-- Edges, and what the search asks of them. No row count and no selectivity occurs here.
use Rattle.std.specs.Prelude.{ℕ, suc, ◌^◌, ◌<◌, Bool, true, false, ◌&&◌, ◌||◌, not, List, [], ◌∷◌, eqb}
use Rattle.std.specs.Int.Bits.{bit_or}
use Rattle.nodeset.specs.Sets.{within, disjoint, singleton, lowest}

-- "An edge has left and right set, predicate or none (4,294,967,295), source item, type."
pub record Edge : Type 0 where
  pub left : ℕ
  pub right : ℕ
  pub predicate : ℕ
  pub source : ℕ
  pub type : ℕ

-- both sides have a leaf, and are sets of 64 digits: so are all that edge building makes
pub record Sided (e : Edge) : Type 0 where
  pub left_some : 0 < e.left
  pub left_set : e.left < 2 ^ 64
  pub right_some : 0 < e.right
  pub right_set : e.right < 2 ^ 64

-- none, for a predicate, a lead edge or a chosen plan
abbrev pub none32 : ℕ
none32 = 4294967295

abbrev pub no_edge : Edge
no_edge = record { left = 0; right = 0; predicate = none32; source = 0; type = 0 }

abbrev pub has_predicate : Edge → Bool
has_predicate e = not (eqb e.predicate none32)

-- "An edge connects two sets if one of its sides lies in the one and its other side in the other, in either order"
abbrev pub connects : ℕ → ℕ → Edge → Bool
connects a b e = within e.left a && within e.right b || within e.left b && within e.right a

unfoldable pub has_edge : List Edge → ℕ → ℕ → Bool
has_edge [] a b = false
has_edge (e ∷ es) a b = connects a b e || has_edge es a b

-- the numbers of the edges that connect a and b, in edge order (`connecting_edge_indices`); i is the number of the list's first edge
unfoldable pub connecting_from : ℕ → List Edge → ℕ → ℕ → List ℕ
connecting_from i [] a b = []
connecting_from i (e ∷ es) a b =
    elim (connects a b e) [ true ↦ i ∷ connecting_from (suc i) es a b | false ↦ connecting_from (suc i) es a b ]

abbrev pub connecting : List Edge → ℕ → ℕ → List ℕ
connecting es a b = connecting_from 0 es a b

-- one side of an edge lies in s, and the other has no leaf of s or x: the other's lowest leaf
unfoldable pub beyond : ℕ → ℕ → ℕ → ℕ → ℕ
beyond s x near far = elim (within near s && disjoint far s && disjoint far x) [ true ↦ singleton (lowest far) | false ↦ 0 ]

-- the neighbours of s outside x
unfoldable pub neighborhood : List Edge → ℕ → ℕ → ℕ
neighborhood [] s x = 0
neighborhood (e ∷ es) s x =
    bit_or (bit_or (beyond s x e.left e.right) (beyond s x e.right e.left)) (neighborhood es s x)
