use Rattle.reading.proofs.FrontLaws.{on_known}
use Rattle.records.proofs.ReadLaws.{goes_on_byte}
use Rattle.records.proofs.goes_on.Goals as goal

pub returns-clause-value : goal.returns-clause-value
returns-clause-value g c =
    on_known _ (λ bs. goes_on_byte c.in_ok-read_array.field-0 c.unwrap_or-byte.result bs c.unwrap_or-byte.ensures) c.in_ok-read_array.ensures.value
