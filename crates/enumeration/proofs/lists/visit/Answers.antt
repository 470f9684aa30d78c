use Rattle.enumeration.proofs.Laws.{visit_memo}
use Rattle.enumeration.proofs.lists.visit.Goals as goal

pub returns-clause-index : goal.returns-clause-index
returns-clause-index c = record { kept = rw (c.visit-l.ensures, visit_memo) c.requires.kept; sized = c.requires.sized; room = c.requires.room }
