-- A law that stood before the structs, kept as it was; no proof needs it now. Assumes nothing.
use Rattle.std.specs.Prelude.{ℕ, ◌≤◌, List, length}
use Rattle.definition.specs.Lists.{column}
use Rattle.run.specs.RunLaws.{long}

pub entries_fit : {A : Type 0} (f : A → ℕ) (xs : List A) (l : List ℕ) → length xs ≤ length (column f xs l)
entries_fit f xs l = long f xs l
