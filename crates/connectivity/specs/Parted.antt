-- What every list of classes is: the classes part the leaves.
use Rattle.std.specs.Prelude.{◌≡◌, List, ℕ, ◌^◌, ◌<◌, length, get_or}
use Rattle.nodeset.specs.Sets.{bit}

-- one class for each of the 64 leaves; a leaf is in its class, and that is the class of each leaf in it
pub record Parted (classes : List ℕ) : Type 0 where
  pub long : length classes ≡ 64
  pub small : (i : ℕ) → get_or classes i 0 < 2 ^ 64
  pub own : (i : ℕ) → i < 64 → bit (get_or classes i 0) i ≡ 1
  pub same : (i j : ℕ) → bit (get_or classes i 0) j ≡ 1 → get_or classes j 0 ≡ get_or classes i 0
