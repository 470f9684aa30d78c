use Rattle.records.specs.ListedLaws.{both}
use Rattle.records.proofs.lists.same.Goals as goal

pub returns-then-begins : goal.returns-then-begins
returns-then-begins g c = both _ _ c.begins.result c.is_rest.result c.if-begins.true c.begins.ensures c.is_rest.ensures
