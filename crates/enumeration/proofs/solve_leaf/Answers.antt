use Rattle.std.proofs.Common.{sym, ap, ◌∙◌}
use Rattle.enumeration.specs.Walks.{enumerate_csg_rec}
use Rattle.enumeration.proofs.SubsetPasses.{two_empty}
use Rattle.enumeration.proofs.Laws.{csg_two, kept_emits}
use Rattle.enumeration.proofs.solve_leaf.Goals as goal

pub returns-then-m-eq0-clause-value : goal.returns-then-m-eq0-clause-value
returns-then-m-eq0-clause-value c =
    c.emit_kept.ensures.value
    ∙ kept_emits _ _ _ _ c.requires.leaf
    ∙ two_empty _ _ (csg_two _ _) _ _ _ _ (sym c.neighborhood-m.ensures ∙ c.if-m-eq0.true)

pub returns-clause-value : goal.returns-clause-value
returns-clause-value c =
    let a = c.args in
    c.enumerate_csg_rec.ensures.value
    ∙ ap (enumerate_csg_rec _ a.b a.b.leaves a.s1 a.x) (c.emit_kept.ensures.value ∙ kept_emits _ _ _ _ c.requires.leaf)
