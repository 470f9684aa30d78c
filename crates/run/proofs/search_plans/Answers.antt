use Rattle.std.proofs.Common.{sym, ap, ◌∙◌}
use Rattle.std.specs.Prelude.{List, length, map}
use Rattle.std.proofs.Math.Path.{subst}
use Rattle.cost.specs.declared.Leaf.{Leaf}
use Rattle.cost.specs.View.{leaf_of}
use Rattle.definition.specs.Sheet.{question_of}
use Rattle.definition.specs.Search as definition
use Rattle.definition.specs.Search.{Input}
use Rattle.candidate.specs.Lent.{lists_of}
use Rattle.held.specs.Held.{holding}
use Rattle.search.specs.View.{Ready, Ends}
use Rattle.checks.specs.Answers.{rooms_of}
use Rattle.run.specs.RunLaws.{search_asks, input_same, leaves_many}
use Rattle.run.proofs.search_plans.Goals as goal

pub search-requires : goal.search-requires
search-requires c =
    let a = c.args in
    let e = a.edges.now in
    let bs = a.q.now.sheet.bytes.now in
    let many = ap length c.deref.ensures.0 ∙ leaves_many bs c.leaves-leaves.result.items a.q.now.counted c.leaves-leaves.ensures in
    subst (Ready _ (lists_of a.lists.now)) (sym many)
    (search_asks (length e.left.now) e.left.now e.right.now e.predicate.now e.source.now (question_of bs) (rooms_of a.rooms)
    c.kinds-kinds.ensures.kinds c.selectivities-selectivities.ensures.selectivities (lists_of a.lists.now) a.q.now.leaves c.requires)

pub returns : goal.returns
returns c =
    let a = c.args in
    let e = a.edges.now in
    let r = c.search in
    let same =
    input_same (length e.left.now) e.left.now e.right.now e.predicate.now e.source.now (question_of a.q.now.sheet.bytes.now) (rooms_of a.rooms)
    c.kinds-kinds.ensures.kinds c.selectivities-selectivities.ensures.selectivities a.limit
    (ap (λ (l : List Leaf). map leaf_of l) c.deref.ensures.0 ∙ c.leaves-leaves.ensures) in
    record {
      same = r.ensures.same;
      held = r.ensures.held ∙ ap (λ (i : Input). holding (lists_of a.lists.now) (definition.search i)) same;
      ending = subst (λ (i : Input). Ends i r.result.ending) same r.ensures.ending;
    }
