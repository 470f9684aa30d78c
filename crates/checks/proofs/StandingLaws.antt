-- Laws that stood before `store_length` was a fold, kept as they were; no proof needs them now. Assumes nothing.
use Rattle.std.specs.Prelude.{◌≡◌, List, ℕ, ◌+◌, ◌≤◌, ◌<◌, min, length, get_or, drop}
use Rattle.std.proofs.Math.Path.{ap}
use Rattle.std.proofs.Common.{arith, add-one, drop-cons, drop_of_length-le}
use Rattle.definition.specs.Call.{store_length}

-- the lengths from place i on, one by one
pub store_step : (ns : List ℕ) (i s t : ℕ) → i < length ns → t ≡ min s (get_or ns i 0)
    → min t (store_length (drop (i + 1) ns)) ≡ min s (store_length (drop i ns))
unfolding store_length
store_step ns i s t h e =
    let first : store_length (drop i ns) ≡ min (get_or ns i 0) (store_length (drop (i + 1) ns)) = rw add-one (ap store_length (drop-cons ns i 0 h)) in
    omega (arith, first, e)

pub store_end : (ns : List ℕ) (i : ℕ) → length ns ≤ i → store_length (drop i ns) ≡ 16777216
unfolding store_length
store_end ns i h = ap store_length (drop_of_length-le ns h)
