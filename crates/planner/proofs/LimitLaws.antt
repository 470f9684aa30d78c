-- Two calls on one sheet under two visit limits. Assumes nothing.
use Rattle.std.specs.Prelude.{◌≡◌, true, ◌||◌, List, ℕ}
use Rattle.std.proofs.Common.{sym, ap, ap₂, ◌∙◌}
use Rattle.definition.specs.Sheet.{Bytes}
use Rattle.definition.specs.Call.{Rooms, default_limit, leaves_in, call}
use Rattle.definition.specs.VisitLimits.{ended_within, former_default}
use Rattle.definition.proofs.VisitLimitLaws.{same_under_both}
use Rattle.answer.specs.declared.Report.{Report}
use Rattle.answer.specs.Answers.{reported}
use Rattle.run.specs.Lent.{Lent, rooms_in, holds}
use Rattle.planner.specs.ReadBack.{read_back}
use Rattle.planner.specs.Rules.{Planned}
use Rattle.planner.specs.Limits.{SameOutcome, AlikeIfEnded}
use Rattle.planner.proofs.RuleLaws.{reads}

-- two calls, with lists equally long, that have one outcome in the definition
alike : (bs : List ℕ) → Bytes bs → {h k : Lent} → rooms_in h ≡ rooms_in k → (first second : ℕ) {r s : Report} {l m : Lent}
    → Planned bs first h r l → Planned bs second k s m → call bs (rooms_in h) second ≡ call bs (rooms_in h) first → SameOutcome bs h k r s l m
alike bs bytes {h} {k} rooms first second {r} {s} {l} {m} p q e =
    let same : call bs (rooms_in k) second ≡ call bs (rooms_in h) first = ap (λ (x : Rooms). call bs x second) (sym rooms) ∙ e in
    record {
      report = p.answer ∙ sym (ap reported same) ∙ sym q.answer;
      entries = reads bs bytes first h r l p.answer p.lists ∙ sym same ∙ sym (reads bs bytes second k s m q.answer q.lists);
      lists = λ lent. p.lists ∙ sym (ap₂ holds same (sym lent)) ∙ sym q.lists;
    }

-- the first ended within the second limit, and not with 14
pub under_two_limits : (bs : List ℕ) → Bytes bs → {h k : Lent} → rooms_in h ≡ rooms_in k → (first second : ℕ) {r s : Report} {l m : Lent}
    → Planned bs first h r l → Planned bs second k s m → ended_within second (read_back (leaves_in bs) r l) ≡ true → SameOutcome bs h k r s l m
under_two_limits bs bytes {h} {k} rooms first second {r} {s} {l} {m} p q e =
    alike bs bytes rooms first second p q (p.other_limits second e ∙ reads bs bytes first h r l p.answer p.lists)

-- `plan_default`, and `plan` with the limit that was the default before: "A run that ended within 100,000 looks, and not with 14, answers the
-- same under both"
pub default_and_former : (bs : List ℕ) → Bytes bs → {h k : Lent} {r s : Report} {l m : Lent}
    → Planned bs default_limit h r l → Planned bs former_default k s m → AlikeIfEnded bs h k r s l m
default_and_former bs bytes {h} {k} {r} {s} {l} {m} p q rooms e =
    alike bs bytes rooms default_limit former_default p q (same_under_both bs (rooms_in h) (rw (first, second) e))
  where
    first : call bs (rooms_in h) default_limit ≡ read_back (leaves_in bs) r l
    first = sym (reads bs bytes default_limit h r l p.answer p.lists)

    second : call bs (rooms_in h) former_default ≡ read_back (leaves_in bs) s m
    second = ap (λ (x : Rooms). call bs x former_default) rooms ∙ sym (reads bs bytes former_default k s m q.answer q.lists)
