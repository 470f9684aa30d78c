-- The code asks in which range of numbers the kind lies.
use mathlib.Core.Path.{◌∙◌}
use native.Mathlib.Omega.{arith}
use Rattle.cost.proofs.RowRules.{semi}
use Rattle.cost.proofs.rows_by_kind.Goals as goal

pub returns-in-1 : goal.returns-in-1
returns-in-1 c =
    let a = c.args in
    c.lesser.ensures ∙ semi a.kind a.filtered a.left a.right (omega arith) (omega arith)
