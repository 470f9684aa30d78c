-- Laws that stood before `find` searched by `position`, kept as they were; no proof needs them now. Assumes nothing.
use Rattle.std.specs.Prelude.{◌≡◌, List, get_or, take, drop, None, Some}
use Rattle.std.proofs.Common.{drop_of_length-le}
use Prim.Native.Nat.{ℕ, ◌<◌, ◌≤◌, min}
use native.Mathlib.Omega.{arith}
use Rattle.std.proofs.Math.ListN.{length, length-take}
use borrow.Author.Tests.{eq-eqb}
use Rattle.store.specs.Memo.{spot}
use Rattle.store.specs.Laws.{front}

-- ---- the memo, one entry more

module _ (l : List ℕ) (n i s : ℕ) where
  pub spot_here : i < min n (length l) → get_or l i 0 ≡ s → Some i ≡ spot i (drop i (take n l)) s
  unfolding spot
  spot_here h e = rw (front l n i s h, eq-eqb (get_or l i 0) s e, spot)

  pub spot_end : min n (length l) ≤ i → None ≡ spot i (drop i (take n l)) s
  unfolding spot
  spot_end h = let k : length (take n l) ≤ i = omega (arith, length-take n l) in rw (drop_of_length-le (take n l) k)
