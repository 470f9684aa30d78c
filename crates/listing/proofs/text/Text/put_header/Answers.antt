use Rattle.listing.specs.Laws.{puts_line}
use Rattle.listing.proofs.text.Text.put_header.Goals as goal

pub returns-clause-puts : goal.returns-clause-puts
returns-clause-puts c =
    puts_line c.put_decimal.ensures.puts c.put_byte.ensures.puts c.put_decimal-2.ensures.puts c.put_byte-2.ensures.puts
    c.put_decimal-3.ensures.puts c.put_byte-3.ensures.puts
