use Rattle.tes.specs.Laws.{linked_by}
use Rattle.tes.specs.Views.{join_of}
use Rattle.tes.proofs.JoinRecord.linked.Goals as goal

pub returns : goal.returns
returns c =
    let a = c.args in
    let e = a.edges.now in
    λ p s k. linked_by e.left.now e.right.now p s k e.same (join_of a.self) a.from a.to c.connected.ensures
