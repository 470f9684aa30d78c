use mathlib.Core.Path.{◌∙◌}
use lib.ListN.{length}
use Rattle.definition.specs.EdgeView.{edges_of}
use Rattle.tes.specs.Views.{join_of}
use Rattle.tes.specs.TableLaws.{said_r_asscom}
use Rattle.tes.specs.Laws.{widened_turned, widened_by_table}
use Rattle.tes.proofs.NewJoin.widened_right.Goals as goal

pub returns : goal.returns
returns c =
    let a = c.args in
    let l = a.edges.now.left.now in
    let t = a.self.join_type in
    λ p s k.
    let es = edges_of (length l) l a.edges.now.right.now p s k in
    widened_by_table es t a.self.whole.left a.s c.turned.ensures
    (c.unwrap_or-asscom.ensures ∙ said_r_asscom a.j.join_type t c.r_asscom.result c.r_asscom.ensures) (c.widened_side.ensures p s k)
    ∙ widened_turned es t a.self.whole.left (join_of a.j) a.s
