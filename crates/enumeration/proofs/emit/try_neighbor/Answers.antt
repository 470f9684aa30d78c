use Rattle.std.proofs.Common.{sym, ◌∙◌}
use Rattle.enumeration.proofs.SubsetPasses.{two_empty}
use Rattle.enumeration.proofs.Laws.{cmp_two, connected_keeps, grown, ready_on}
use Rattle.enumeration.proofs.emit.try_neighbor.Goals as goal

pub returns-then-m-eq0-clause-value : goal.returns-then-m-eq0-clause-value
returns-then-m-eq0-clause-value c =
    c.emit_csg_cmp.ensures.value ∙ two_empty _ _ (cmp_two _ _ _) _ _ _ _ (sym c.neighborhood-m.ensures ∙ c.if-m-eq0.true)

pub enumerate_cmp_rec-requires-clause-ready : goal.enumerate_cmp_rec-requires-clause-ready
enumerate_cmp_rec-requires-clause-ready c =
    let r = c.emit_csg_cmp.ensures in
    ready_on c.requires r.value (connected_keeps _ _ (grown _) _ _ _) r.index
