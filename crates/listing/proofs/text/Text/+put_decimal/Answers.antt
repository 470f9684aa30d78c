use Rattle.std.proofs.Common.{arith}
use Rattle.listing.specs.Laws.{decimal_one, decimal_then, decimal_end}
use Rattle.listing.proofs.text.Text.+put_decimal.Goals as goal

pub returns-then-n-lt10-clause-puts : goal.returns-then-n-lt10-clause-puts
returns-then-n-lt10-clause-puts t c = decimal_one _ (omega arith) c.put_byte.ensures.puts

pub returns-clause-place : goal.returns-clause-place
returns-clause-place t c =
    omega (arith, decimal_end _ (decimal_then _ (omega arith) c.put_decimal.ensures.puts c.put_byte-2.ensures.puts) (omega arith))

pub returns-clause-puts : goal.returns-clause-puts
returns-clause-puts t c = decimal_then _ (omega arith) c.put_decimal.ensures.puts c.put_byte-2.ensures.puts
