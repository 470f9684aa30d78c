-- Edges held as one list for each field of Hypergraph.Edge, of which the first n places count.
use Rattle.std.specs.Prelude.{ℕ, ◌≤◌, List, length, get_or}
use Rattle.definition.specs.Lists.{tabulate}
use Rattle.definition.specs.Hypergraph.{Edge}

abbrev pub edge_at : List ℕ → List ℕ → List ℕ → List ℕ → List ℕ → ℕ → Edge
edge_at left right predicate source type i =
    record { left = get_or left i 0; right = get_or right i 0; predicate = get_or predicate i 0; source = get_or source i 0; type = get_or type i 0 }

unfoldable pub edges_of : ℕ → List ℕ → List ℕ → List ℕ → List ℕ → List ℕ → List Edge
edges_of n left right predicate source type = tabulate n (edge_at left right predicate source type)

-- each of the three lists has n places
pub record Held (n : ℕ) (ls rs ps : List ℕ) : Type 0 where
  pub left : n ≤ length ls
  pub right : n ≤ length rs
  pub predicate : n ≤ length ps
