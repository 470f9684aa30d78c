-- The stop of the search's counts and the number that the definition's state has for it. Assumes nothing.
use Rattle.std.specs.Prelude.{◌≡◌, ℕ}
use Rattle.definition.proofs.StopLaws.{Stop, goes_on, plans-full, memo_full_lem, visits_spent_lem}
use Rattle.store.specs.Counts.{stop_number, stop_with}

-- a number that the definition's search stops with comes back
pub stop_known : (n : ℕ) → Stop n → stop_number (stop_with n) ≡ n
stop_known n (goes_on e) = rw e
stop_known n (plans-full e) = rw e
stop_known n (memo_full_lem e) = rw e
stop_known n (visits_spent_lem e) = rw e
