-- The entries of a recorded call are within bounds, whatever its words say. Assumes nothing.
use Rattle.std.specs.Prelude.{ℕ, ◌+◌, ◌*◌, ◌≤◌, min}
use Rattle.std.proofs.Common.{arith}

pub edges_fit : (e : ℕ) → (84 ≤ 60000) × (min e 256 ≤ 4096)
edges_fit e = (omega arith, omega arith)

pub plans_fit : (e p : ℕ) → (84 + 28 * min e 256 ≤ 60000) × (min p 1088 ≤ 4096)
plans_fit e p = (omega arith, omega arith)

pub memo_fit : (e p m : ℕ) → (84 + 28 * min e 256 + 40 * min p 1088 ≤ 60000) × (min m 512 ≤ 4096)
memo_fit e p m = (omega arith, omega arith)

pub bounds_fit : (e p m : ℕ) → (min e 256 ≤ 256) × (min p 1088 ≤ 1088) × (min m 512 ≤ 512)
bounds_fit e p m = (omega arith, omega arith, omega arith)
