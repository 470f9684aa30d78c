-- Laws that stood before today's forms, kept as they were; no proof needs them now. Assumes nothing.
use Rattle.std.proofs.Common.{◌≡◌, ◌≢◌, ℕ, zero, suc, ◌+◌, ◌-◌, ◌<◌, ◌≤◌, nat_eq, Bool, true, ◌&&◌, List, [], ◌∷◌, length, get_or}
use Rattle.std.proofs.Common.{take, drop, refl, sym, ap, ◌∙◌, arith, length-take-le, add-one}
use borrow.Author.Tests.{ne_eqb}
use Rattle.records.specs.Records.{word_at, line_goes_on}
use Rattle.records.specs.Listed.{begins}
use Rattle.std.proofs.Math.Seq.{drop-cons}
use Rattle.records.specs.RecordLaws.{word_there, word_past}
use Rattle.definition.specs.Sheet.{word}
use Rattle.std.proofs.lemmas.List.{get_or-take, length-take}

-- no byte was left
pub none_read : (n : ℕ) (xs bs : List ℕ) → n ≢ 1 → n ≡ length (take n xs) → take n xs ≡ take 1 bs → nat_eq n 1 ≡ line_goes_on bs
unfolding line_goes_on
none_read n xs [] o l h = ne_eqb _ _ o
none_read n xs (b ∷ bs) o l h = absurd (o (l ∙ ap length h))

pub word_read : (n : ℕ) (xs bs : List ℕ) → n ≡ 4 → 4 ≤ length xs → take n xs ≡ take 4 bs → word_at xs 0 ≡ word_at bs 0
unfolding word
word_read n xs bs e l h =
    let front : take 4 xs ≡ take 4 bs = ap (λ (k : ℕ). take k xs) (sym e) ∙ h in
    let whole : 4 ≤ length bs = omega (arith, length-take 4 xs, length-take 4 bs, ap length front) in
    let at : (i : ℕ) → i < 4 → get_or xs i 0 ≡ get_or bs i 0 =
    λ i s. sym (get_or-take 4 xs i 0 s) ∙ ap (λ (l : List ℕ). get_or l i 0) front ∙ get_or-take 4 bs i 0 s in
    let same : word xs 0 ≡ word bs 0 = omega (arith, at 0 (omega arith), at 1 (omega arith), at 2 (omega arith), at 3 (omega arith)) in
    word_there xs 0 l ∙ same ∙ sym (word_there bs 0 whole)

pub word_cut : (n : ℕ) (xs bs : List ℕ) → n < 4 → n ≡ length (take n xs) → take n xs ≡ take 4 bs → 0 ≡ word_at bs 0
word_cut n xs bs l e h = sym (word_past bs 0 (omega (arith, length-take 4 bs, ap length h)))

-- ---- the recorded values, one after the other

-- the first n alone
begins_take : {A : Type 0} (is : ℕ → A → Bool) (at step n : ℕ) (xs : List A) → begins is at step n (take n xs) ≡ begins is at step n xs
unfolding begins
begins_take is at step zero xs = refl
begins_take is at step (suc n) [] = refl
begins_take is at step (suc n) (x ∷ xs) = ap (λ (b : Bool). is at x && b) (begins_take is (at + step) step n xs)

pub begins_front : {A : Type 0} (is : ℕ → A → Bool) (at step n : ℕ) (xs front : List A) → n ≤ length xs → front ≡ take n xs
    → begins is at step (length front) front ≡ begins is at step n xs
begins_front is at step n xs front h e =
    let k : length front ≡ n = ap length e ∙ length-take-le n xs h in
    ap (λ (m : ℕ). begins is at step m front) k ∙ ap (begins is at step n) e ∙ begins_take is at step n xs

module _ {A : Type 0} (is : ℕ → A → Bool) (at step n : ℕ) (xs : List A) where
  -- up to place i all are as recorded: from there on, at byte `here`, the answer is that for the whole
  abbrev pub Begun : ℕ → ℕ → Type 0
  Begun here i = begins is here step (n - i) (drop i xs) ≡ begins is at step n xs

  pub begun : Begun at 0
  begun = ap (λ (k : ℕ). begins is at step k xs) (omega arith)

  module _ (here i : ℕ) (b : Begun here i) where
    pub begun_end : n ≤ i → true ≡ begins is at step n xs
    unfolding begins
    begun_end h =
        let none : n - i ≡ 0 = omega arith in
        sym (ap (λ (k : ℕ). begins is here step k (drop i xs)) none) ∙ b

    module _ (d : A) (h : i < n) (l : i < length xs) where
      -- the value there is tested, and then the others decide
      pub begun_turn : (t : Bool) → is here (get_or xs i d) ≡ t → t && begins is (here + step) step (n - (i + 1)) (drop (i + 1) xs) ≡ begins is at step n xs
      unfolding begins
      begun_turn t e =
          let left : n - i ≡ suc (n - (i + 1)) = omega arith in
          let turn : begins is here step (n - i) (drop i xs)
          ≡ is here (get_or xs i d) && begins is (here + step) step (n - (i + 1)) (drop (i + 1) xs) = rw (left, drop-cons xs i d, add-one) in
          ap (λ (u : Bool). u && begins is (here + step) step (n - (i + 1)) (drop (i + 1) xs)) (sym e) ∙ sym turn ∙ b
