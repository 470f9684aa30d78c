use Rattle.reading.proofs.FrontLaws.{first_word_read}
use Rattle.reading.proofs.read_word.Goals as goal

pub returns-clause-value : goal.returns-clause-value
returns-clause-value g c = first_word_read _ _ c.in_ok-read_array.field-0 c.in_ok-read_array.ensures.value c.map_or.ensures
