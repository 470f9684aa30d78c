-- What an array is that is made by a closure of the index which changes nothing.
use Rattle.std.specs.Prelude.{◌≡◌, ℕ, zero, suc, ◌+◌, ◌≤◌, ◌<◌, List, get_or}
use Rattle.std.proofs.Common.{sym, arith, inl, inr, eq-or-lt_of_le}
use Rattle.std.proofs.Math.Path.{subst}
use Rattle.std.specs.Fn.{Called}
use Rattle.std.specs.Array.{IsFromFnResultFrom}
use denote.Param.Members.{Mut}

module _ {F B : Type 0} (g : Mut F (ℕ × Unit {0}) B) (P : ℕ → B → Type 0) (f : F)
    (h : (i : ℕ) (y : B) (f' : F) → Called g f (i, tt) y f' → P i y × (f' ≡ f)) where
  pub from_fn_same : (ys : List B) (i n : ℕ) → IsFromFnResultFrom g f ys i n → (k : ℕ) (d : B) → i ≤ k → k < i + n → P k (get_or ys k d)
  from_fn_same ys i zero e k d a b = absurd (omega arith)
  from_fn_same ys i (suc n) (q, y, at, called, rest) k d a b =
      let one = h i y q called in
      let later = subst (λ (p : F). IsFromFnResultFrom g p ys (i + 1) n) one.1 rest in
      elim (eq-or-lt_of_le a) [
        | inl e ↦ subst (λ (j : ℕ). P j (get_or ys j d)) e (subst (P i) (sym (at.1 d)) one.0)
        | inr l ↦ from_fn_same ys (i + 1) n later k d (omega arith) (omega arith)
      ]
