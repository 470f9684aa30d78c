use Rattle.std.proofs.Common.{◌≡◌, refl, ap₂, nat_eq, ◌∙◌}
use lib.Ieee.{binary64, of_bits, to_bits}
use Rattle.records.proofs.lists.F64Element.is_blank.Goals as goal

-- the pattern's bits
pattern : to_bits binary64 (of_bits binary64 0xbff8_0000_0000_0000) ≡ 0xbff8_0000_0000_0000
unfolding of_bits to_bits
pattern = refl

pub returns : goal.returns
returns c = ap₂ nat_eq c.bits.ensures (c.bits-2.ensures ∙ pattern)
