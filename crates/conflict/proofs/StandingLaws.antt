-- Laws that stood before the structs, kept as they were; no proof needs them now. Assumes nothing.
use mathlib.Core.Path.{◌≡◌, subst}
use mathlib.Core.Bool.{Bool, ◌||◌, not}
use Prim.Native.Nat.{ℕ, ◌<◌, ◌≤◌}
use lib.Dec.{T, leb, eqb, eqb→eq}
use borrow.Author.Tests.{le-leb}
use Rattle.conflict.proofs.Cells.{every, every-at}

-- a rule for the numbers from lo up to hi, by one test over them
pub between : (lo hi n : ℕ) (f : ℕ → ℕ) → T (every hi (λ k. not (leb lo k) || eqb n (f k))) → (k : ℕ) → lo ≤ k → k < hi → n ≡ f k
between lo hi n f t k h l =
    eqb→eq n (f k) (subst (λ (b : Bool). T (not b || eqb n (f k))) (le-leb lo k h) (every-at hi (λ k. not (leb lo k) || eqb n (f k)) t k l))
