use Rattle.nodeset.specs.Sets.{bit}
use Rattle.definition.specs.Lists.{member}
use Rattle.definition.specs.Tables.{assoc, l_asscom, r_asscom}
use Rattle.conflict.proofs.Cells.{says_cell, few_types, few_tables}
use Rattle.conflict.proofs.allows.Goals as goal

-- the computed check is `tt`: the test over all three tables and all 64 pairs is true
pub returns : goal.returns
unfolding bit member assoc l_asscom r_asscom
returns c =
    let a = c.args in
    says_cell c.look_up.ensures tt (few_tables a.table) (few_types a.a) (few_types a.b)
