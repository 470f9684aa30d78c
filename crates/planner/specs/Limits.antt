-- Request 2026-06, over two calls on one sheet. Definitions only.
use Rattle.std.specs.Prelude.{◌≡◌, true, ◌||◌, List, ℕ}
use Rattle.definition.specs.Call.{default_limit, leaves_in}
use Rattle.definition.specs.VisitLimits.{ended_within}
use Rattle.answer.specs.declared.Report.{Report}
use Rattle.run.specs.Lent.{Lent, rooms_in}
use Rattle.planner.specs.ReadBack.{read_back}

-- "answers the same under both": two calls, which report r and s, and whose lists held h and k when lent and hold l and m at exit
pub record SameOutcome (bs : List ℕ) (h k : Lent) (r s : Report) (l m : Lent) : Type 0 where
  pub report : r ≡ s
  pub entries : read_back (leaves_in bs) r l ≡ read_back (leaves_in bs) s m
  -- where the lists held the same before, they hold the same after
  pub lists : h ≡ k → l ≡ m

-- "A run that ended within 100,000 looks, and not with 14": either of the two, with stores equally long
abbrev pub AlikeIfEnded : List ℕ → Lent → Lent → Report → Report → Lent → Lent → Type 0
AlikeIfEnded bs h k r s l m =
    rooms_in h ≡ rooms_in k
    → (ended_within default_limit (read_back (leaves_in bs) r l) || ended_within default_limit (read_back (leaves_in bs) s m)) ≡ true
    → SameOutcome bs h k r s l m
