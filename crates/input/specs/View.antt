-- The leaves as the definition's list. Definitions only.
use Rattle.std.specs.Prelude.{List, map}
use Rattle.definition.specs.Search.{Leaf}
use Rattle.cost.specs.View.{leaf_of}
use Rattle.cost.specs.declared.Leaf as cost

abbrev pub leaves_in : List cost.Leaf → List Leaf
leaves_in leaves = map leaf_of leaves
