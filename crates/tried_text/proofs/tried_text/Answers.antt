use Rattle.std.proofs.Common.{ℕ, List, ap, ◌∙◌}
use Rattle.definition.specs.Sheet.{Bytes}
use Rattle.definition.specs.TriedList.{list_limit}
use Rattle.definition.proofs.PlanRuleLaws.{plan_rule}
use Rattle.listing.specs.Text.{answer_for, written_in}
use Rattle.run.specs.Lent.{lent_of}
use Rattle.planner.specs.Rules.{Planned}
use Rattle.tried_text.specs.Printed.{list_rooms}
use Rattle.tried_text.proofs.PrintedLaws.{fresh_lent, text_is, text_fits, open_text}
use Rattle.tried_text.proofs.tried_text.Goals as goal

pub returns : goal.returns
returns c =
    let a = c.args in
    let bytes : Bytes a.sheet.now = λ i. (c.type_inv.sheet i).fits in
    let plan = c.plan in
    let planned : Planned a.sheet.now list_limit _ _ _ = plan.ensures.planned in
    let text = c.listed.ensures in
    let left = lent_of plan.new.edges plan.new.lists in
    let lent = fresh_lent (c.lend-edges.ensures ∙ c.new-edge_arrays.ensures) (c.lend-lists.ensures ∙ c.new-list_arrays.ensures) in
    let answer = c.from-report.ensures ∙ planned.answer in
    let leaves = c.leaves-n.ensures in
    let same = text_is a.sheet.now bytes _ left lent answer planned.lists leaves in
    record {
      result = text.result ∙ ap (λ (t : List ℕ). answer_for t a.out.now) same;
      text = text.text ∙ ap (λ (t : List ℕ). written_in t a.out.now) same;
      size = text_fits a.sheet.now bytes _ left lent answer planned.lists leaves text.size;
      «open» = open_text a.sheet.now bytes;
      kept = plan_rule a.sheet.now bytes list_rooms list_limit;
    }
