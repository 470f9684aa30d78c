use mathlib.Core.Path.{sym}
use borrow.Author.Rules.{rules}
use Rattle.nodeset.specs.Sets.{bit}
use Rattle.conflict.proofs.Cells.{asked_cell, few_types}
use Rattle.conflict.proofs.look_up.Goals as goal

pub returns : goal.returns
unfolding bit
returns c =
    let a = c.args in
    record { is = sym (rw (asked_cell _ _ _ (few_types a.a) (few_types a.b)) (search rules)) }
