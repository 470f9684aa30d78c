use Rattle.listing.specs.Laws.{hex_none, hex_then}
use Rattle.listing.proofs.text.Text.+put_hex.Goals as goal

pub returns-then-k-eq0-clause-puts : goal.returns-then-k-eq0-clause-puts
returns-then-k-eq0-clause-puts t c = hex_none _ _ c.if-k-eq0.true

pub returns-clause-puts : goal.returns-clause-puts
returns-clause-puts t c = hex_then _ _ c.if-k-eq0.false c.hex_digit.ensures c.put_hex.ensures.puts c.put_byte.ensures.puts
