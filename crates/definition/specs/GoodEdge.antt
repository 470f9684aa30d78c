-- What edge building promises of each edge, and the search builds on. Definitions only.
use Rattle.std.specs.Prelude.{ℕ, ◌^◌, ◌<◌}
use Rattle.nodeset.specs.Sets.{Apart}
use Rattle.definition.specs.Hypergraph.{Edge}

-- both sides have a leaf, lie in the first n leaves, and share none
pub record GoodEdge (n : ℕ) (e : Edge) : Type 0 where
  pub left_some : 0 < e.left
  pub left_set : e.left < 2 ^ n
  pub right_some : 0 < e.right
  pub right_set : e.right < 2 ^ n
  pub apart : Apart e.left e.right
