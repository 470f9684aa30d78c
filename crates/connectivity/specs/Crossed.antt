-- Edges that lead out of a set: what is asked of them before any classes are made.
use Rattle.std.specs.Prelude.{ℕ, Bool, ◌&&◌, not, List}
use Rattle.std.specs.List.{list_any, zip}
use Rattle.std.specs.Int.Bits.{bit_or}
use Rattle.nodeset.specs.Sets.{within, disjoint}

-- the leaves u of an edge are some of s and some others
abbrev pub crosses : ℕ → ℕ → Bool
crosses s u = not (disjoint u s) && not (within u s)

-- the same of an edge's two sides
abbrev pub sides_cross : ℕ → ℕ × ℕ → Bool
sides_cross s q = crosses s (bit_or q.0 q.1)

-- one of the edges crosses s
abbrev pub is_crossed : ℕ → List ℕ → List ℕ → Bool
is_crossed s ls rs = list_any (sides_cross s) (zip ls rs)
