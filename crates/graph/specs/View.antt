-- The edges of which two lists of sides are lent. The fields that no function of the crate reads are 0.
use Rattle.std.specs.Prelude.{Bool, List, [], ℕ, length}
use Rattle.definition.specs.Hypergraph.{Edge, connects}
use Rattle.definition.specs.EdgeView.{edges_of}
use Rattle.connectivity.specs.declared.EdgeSides.{EdgeSides}

abbrev pub edges_with : EdgeSides → List Edge
edges_with e = edges_of (length e.left.now) e.left.now e.right.now [] [] []

-- whether an edge with these sides connects a and b
abbrev pub sides_connect : ℕ → ℕ → ℕ × ℕ → Bool
sides_connect a b q = connects a b (record { left = q.0; right = q.1; predicate = 0; source = 0; type = 0 })
