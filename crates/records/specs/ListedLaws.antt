-- A list, place by place, and the definitions of Listed, for any type of element. Assumes nothing.
use Prim.Native.Nat.{ℕ, zero, suc, ◌+◌, ◌*◌, ◌≤◌, ◌<◌}
use Rattle.std.specs.Prelude.{Bool, true, false, ◌&&◌, not, List, [], ◌∷◌, ◌≡◌, refl, length, get_or, take, drop}
use Rattle.std.proofs.lemmas.Bool.{false≢true, not-true, not-false}
use Rattle.std.proofs.Math.Bool.{and-true, and-false}
use Rattle.std.proofs.Math.Path.{sym, ap}
use Rattle.std.proofs.Common.{◌∙◌, drop_of_length-le, add-one}
use Rattle.std.proofs.Math.Seq.{drop-cons}
use native.Mathlib.Omega.{arith}
use Rattle.std.specs.List.{list_all, enumerate_from}
use Rattle.records.specs.Listed.{begins, every, all_of}

-- ---- the recorded values

-- a list that is too short
pub begins_short : {A : Type 0} (is : ℕ → A → Bool) (at step n : ℕ) (xs : List A) → length xs < n → false ≡ begins is at step n xs
unfolding begins
begins_short is at step zero xs h = absurd (omega arith)
begins_short is at step (suc n) [] h = refl
begins_short is at step (suc n) (x ∷ xs) h =
    sym (and-false (is at x)) ∙ ap (λ (b : Bool). is at x && b) (begins_short is (at + step) step n xs (omega arith))

-- the first n with their numbers from i on, each tested at its place
pub begins_numbered : {A : Type 0} (is : ℕ → A → Bool) (at step i n : ℕ) (xs : List A) → n ≤ length xs
    → list_all (λ p. is (at + step * p.0) p.1) (enumerate_from i (take n xs)) ≡ begins is (at + step * i) step n xs
unfolding begins
begins_numbered is at step i zero xs h = refl
begins_numbered is at step i (suc n) [] h = absurd (omega arith)
begins_numbered is at step i (suc n) (x ∷ xs) h =
    let next : at + step * (i + 1) ≡ at + step * i + step = omega arith in
    ap (λ (b : Bool). is (at + step * i) x && b) (begins_numbered is at step (i + 1) n xs (omega arith) ∙ ap (λ (k : ℕ). begins is k step n xs) next)

-- ---- the pattern behind them

module _ {A : Type 0} (p : A → Bool) (n : ℕ) (xs : List A) where
  -- up to place i all pass: from there on, the answer is that from place n on
  abbrev pub Passed : ℕ → Type 0
  Passed i = every p (drop i xs) ≡ every p (drop n xs)

  module _ (i : ℕ) (b : Passed i) where
    pub passed_end : length xs ≤ i → true ≡ every p (drop n xs)
    passed_end h = sym (ap (every p) (drop_of_length-le xs h)) ∙ b

    module _ (d : A) (l : i < length xs) where
      pub passed_turn : (t : Bool) → p (get_or xs i d) ≡ t → t && every p (drop (i + 1) xs) ≡ every p (drop n xs)
      passed_turn t e =
          let turn : every p (drop i xs) ≡ p (get_or xs i d) && every p (drop (i + 1) xs) = rw (drop-cons xs i d, add-one) in
          ap (λ (u : Bool). u && every p (drop (i + 1) xs)) (sym e) ∙ sym turn ∙ b

-- ---- tests one after the other, left at the first that fails

pub both : (a b r s : Bool) → r ≡ true → r ≡ a → s ≡ b → s ≡ a && b
both a b r s t e f = f ∙ ap (λ (x : Bool). x && b) (sym t ∙ e)

pub first_fails : (a b r : Bool) → r ≡ false → r ≡ a → r ≡ a && b
first_fails a b r t e = t ∙ ap (λ (x : Bool). x && b) (sym t ∙ e)

-- a test that fails is enough
pub all_fails : (bs : List Bool) (k : ℕ) (r : Bool) → not r ≡ true → r ≡ get_or bs k true → false ≡ all_of bs
all_fails [] k r t e = absurd (false≢true (sym (not-true r t) ∙ e))
all_fails (b ∷ bs) zero r t e = ap (λ (x : Bool). x && all_of bs) (sym (not-true r t) ∙ e)
all_fails (b ∷ bs) (suc k) r t e = sym (and-false b) ∙ ap (λ (x : Bool). b && x) (all_fails bs k r t e)

-- the first holds, and the others decide
pub all_next : (b : Bool) (bs : List Bool) (r s : Bool) → not r ≡ false → r ≡ b → s ≡ all_of bs → s ≡ all_of (b ∷ bs)
all_next b bs r s t e f = f ∙ ap (λ (x : Bool). x && all_of bs) (sym (not-false r t) ∙ e)

pub all_last : (b r : Bool) → r ≡ b → r ≡ all_of (b ∷ [])
all_last b r e = e ∙ sym (and-true b)
