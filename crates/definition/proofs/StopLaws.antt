-- What stops the search: a stop's number is 0, 12, 13 or 14. Assumes nothing.
use Rattle.std.specs.Prelude.{◌≡◌, refl, ℕ, length}
use Rattle.nodeset.specs.SubsetLaws.{All}
use Rattle.definition.specs.Answers.{plans_full, memo_full, visits_spent}
use Rattle.definition.specs.Hypergraph.{Sided}
use Rattle.definition.specs.Search.{Input, State, kept, visit, attempt, start, search}
use Rattle.definition.proofs.WalkLaws.{solve_keeps}
use Rattle.definition.proofs.StepLaws.{visit_keeps, attempt_keeps}

pub data Stop (n : ℕ) : Type 0 where
  goes_on : n ≡ 0 → Stop n
  plans-full : n ≡ plans_full → Stop n
  memo_full_lem : n ≡ memo_full → Stop n
  visits_spent_lem : n ≡ visits_spent → Stop n

abbrev Known : State → Type 0
Known st = Stop st.stop

known_visit : (i : Input) (st : State) → Known st → Known (visit i st)
known_visit i st k = visit_keeps i Known st k (goes_on refl) (visits_spent_lem refl)

known_attempt : (i : Input) (a b : ℕ) (st : State) → Known st → Known (attempt i a b st)
known_attempt i a b st k = attempt_keeps i Known st k a b (plans-full refl) (memo_full_lem refl) (λ l r c d. goes_on refl)

pub search_stop : (i : Input) → All Sided i.edges → Stop (search i).stop
unfolding search start
search_stop i sided =
    solve_keeps i.edges sided State kept (visit i) (attempt i) Known (known_visit i) (λ a b q. known_attempt i a b) (length i.leaves) (start i) (goes_on refl)
