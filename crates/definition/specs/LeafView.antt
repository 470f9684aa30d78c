-- Leaves held as one list for each field of Search.Leaf, of which the first n places count.
use Rattle.std.specs.Prelude.{ℕ, List, get_or}
use Rattle.definition.specs.Lists.{tabulate}
use Rattle.definition.specs.Search.{Leaf}

abbrev pub leaf_at : List ℕ → List ℕ → ℕ → Leaf
leaf_at rows columns k = record { rows = get_or rows k 0; columns = get_or columns k 0 }

unfoldable pub leaves_from : ℕ → List ℕ → List ℕ → List Leaf
leaves_from n rows columns = tabulate n (leaf_at rows columns)
