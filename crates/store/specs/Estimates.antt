-- A plan's estimate as it lies in the lists.
use Rattle.std.specs.Prelude.{List, ℕ, get_or, Float}
use Rattle.std.specs.Float.{binary64}
use Rattle.std.specs.Float.Ieee.{of_bits}
use Rattle.definition.specs.Cost.{Estimate}

abbrev pub zero : Float
zero = of_bits binary64 0

abbrev pub estimate_at : List Float → List Float → ℕ → Estimate
estimate_at prows pcost n = record { rows = get_or prows n zero; cost = get_or pcost n zero }
