-- A count and its array, as what a contract sees of them. Assumes nothing.
use Rattle.std.specs.Prelude.{◌≡◌, ℕ, List, ◌+◌, ◌-◌, length, take}
use Rattle.std.proofs.Common.{arith}
use Rattle.std.proofs.lemmas.List.{length-take}

-- the elements and what is counted beyond them are the count
pub parts_counted : {T : Type 0} {places : ℕ} (k : ℕ) (xs : List T) → length xs ≡ places → length (take k xs) + (k - places) ≡ k
parts_counted k xs e = omega (arith, length-take k xs, e)
