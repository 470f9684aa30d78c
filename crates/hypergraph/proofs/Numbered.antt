-- A loop over what an iterator gives, numbered from 0 on. Assumes nothing.
use Rattle.std.specs.Prelude.{◌≡◌, ℕ, ◌+◌, ◌<◌, List, Option, Some, None, length}
use Rattle.std.specs.Iterator.{Yields}
use Rattle.std.specs.Iterator.Adapters.{enumerate_source, enumerate_count, enumerate_steps}
use Rattle.std.specs.List.{enumerate_from}
use Rattle.std.specs.declared.iter.Enumerate.{Enumerate}
use Rattle.std.proofs.Common.{ap, ◌∙◌, arith}
use Rattle.std.proofs.lemmas.Iterator.{YieldsList}
use Rattle.std.proofs.lemmas.Iterator.Consumers.{YieldsList-at, YieldsList-from_enumerate, YieldsList-turn, YieldsList-end}
use Rattle.std.proofs.lemmas.List.FromFn.{length-enumerate_from, get_or-enumerate_from}

-- r: the loop's iterator, over xs. ys: the turns so far
module _ {S A B : Type 0} {steps : S → Option A → S → Type 0} {v : A → B} {xs : List B} {r s : Enumerate S} {t : S}
    (at : r ≡ s) (source : enumerate_source s ≡ t) (count : enumerate_count s ≡ 0) (from : YieldsList steps v t xs)
    (ys : List (ℕ × A)) (u : Enumerate S) (y : Yields (enumerate_steps steps) r ys u) (o : Option (ℕ × A)) (w : Enumerate S) where
  road : YieldsList {B = ℕ × B} (enumerate_steps steps) (λ p. (p.0, v p.1)) r (enumerate_from 0 xs)
  road = YieldsList-at at (YieldsList-from_enumerate (YieldsList-at source from) count)

  -- a turn's number is how many were before it
  pub numbered : (k : ℕ) (x : A) → o ≡ Some (k, x) → enumerate_steps steps u o w → (k ≡ length ys) × (length ys < length xs)
  numbered k x is step =
      let turn = YieldsList-turn road ys u y o w (k, x) is step in
      let h : length ys < length xs = omega (arith, turn.0, length-enumerate_from 0 xs) in
      let e : k ≡ 0 + length ys = ap (λ (p : ℕ × B). p.0) (turn.1 ∙ get_or-enumerate_from 0 xs (length ys) (k, v x) h) in
      (omega arith, h)

  -- at the end there was one turn for each
  pub numbered_all : o ≡ None → enumerate_steps steps u o w → length ys ≡ length xs
  numbered_all is step = (YieldsList-end road ys u y o w is step).1 ∙ length-enumerate_from 0 xs
