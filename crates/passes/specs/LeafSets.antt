-- The memo's first sets. Definitions only.
use Rattle.std.specs.Prelude.{List, ℕ}
use Rattle.nodeset.specs.Sets.{singleton}
use Rattle.definition.specs.Lists.{tabulate}

-- the sets of the first n leaves, in their order
abbrev pub leaf_sets : ℕ → List ℕ
leaf_sets n = tabulate n singleton
