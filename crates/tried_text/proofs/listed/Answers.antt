use Rattle.std.proofs.Common.{ℕ, ◌-◌, ◌^◌, ◌<◌, List, ap, ◌∙◌, arith}
use Rattle.listing.specs.Text.{answer_for, written_in}
use Rattle.tried_text.proofs.PrintedLaws.{text_made, text_bound}
use Rattle.tried_text.proofs.listed.Goals as goal

pub returns : goal.returns
returns c =
    let a = c.args in
    let few : a.report.plans - a.n < 2 ^ 32 = omega (arith, c.saturating_sub-made.ensures) in
    let same =
    text_made a.report a.n a.lists.now.pset.now a.lists.now.pleft.now a.lists.now.pright.now c.side_sets.ensures c.side_sets-2.ensures c.saturating_sub-made.ensures in
    record {
      result = c.tried_list.ensures.result ∙ ap (λ (t : List ℕ). answer_for t a.out.now) same;
      text = c.tried_list.ensures.text ∙ ap (λ (t : List ℕ). written_in t a.out.now) same;
      size = text_bound a.report a.n a.lists.now.pset.now a.lists.now.pleft.now a.lists.now.pright.now (omega arith) few (omega arith);
    }
