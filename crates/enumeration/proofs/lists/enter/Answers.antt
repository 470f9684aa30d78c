use Rattle.std.proofs.Common.{arith, length-set}
use Rattle.memo_index.proofs.IndexLaws.{length_noted}
use Rattle.memo_index.proofs.KeptLaws.{kept_room, kept_entered}
use Rattle.enumeration.proofs.lists.enter.Goals as goal

pub enter-requires : goal.enter-requires
enter-requires c = kept_room c.requires.index.kept

pub returns-clause-index : goal.returns-clause-index
returns-clause-index c =
    let i = c.requires.index in
    let a = c.args in
    record {
      kept = kept_entered i.kept a.s (omega arith) c.requires.new c.put.ensures c.enter.ensures;
      sized = rw (c.enter.ensures, length_noted) i.sized;
      room = rw (c.put.ensures, length-set) i.room;
    }
