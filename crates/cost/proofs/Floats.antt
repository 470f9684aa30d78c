-- Floats of the source: its literals and the ceiling. Assumes nothing.
use mathlib.Core.Path.{◌≡◌, refl}
use lib.Ieee.{binary64, of_bits}
use Rattle.definition.specs.Cost.{full, ceiling}

-- ---- a literal is the float of its bits

pub full_bits : of_bits binary64 0x40F0_0000_0000_0000 ≡ full
unfolding of_bits
full_bits = refl

pub ceiling_bits : of_bits binary64 0x5F30_0000_0000_0000 ≡ ceiling
unfolding of_bits
ceiling_bits = refl
