-- A text stays in the list that it is written to. Definitions only.
use Rattle.std.specs.Prelude.{◌≡◌}
use Rattle.listing.specs.declared.text.Text.{Text}

abbrev pub Same : Text → Text → Type 0
Same old new = new.out.ghost_name ≡ old.out.ghost_name
