-- What was read of known bytes, into a list that they may fill. Assumes nothing.
use Rattle.std.proofs.Common.{◌≡◌, ℕ, ◌-◌, ◌≤◌, ◌<◌, true, false, nat_eq, List, Option, None, Some, IfSome, is_some, MatchOption, leb, length, take, refl, sym, ap, ◌∙◌, arith, take_all, le-leb}
use Rattle.std.specs.Bool.{then_some}
use Rattle.std.specs.Int.{w32, from_le_bytes}
use Rattle.std.proofs.lemmas.Bool.{lt-leb, false≢true}
use Rattle.std.proofs.lemmas.List.{length-take}
use borrow.Author.Tests.{eqb-true, eqb-false, leb-true, leb-false}
use Rattle.reading.specs.Front.{front_of, first_word}

some_none : {xs : List ℕ} → Some xs ≡ None → ⊥
some_none e = let f : true ≡ false = ap is_some e in false≢true (sym f)

pub on_known : {P Q : List ℕ → Type 0} (a : Option (List ℕ)) → ((bs : List ℕ) → P bs → Q bs) → IfSome a P → IfSome a Q
on_known None f h = tt
on_known (Some bs) f h = f bs h

-- n bytes were wanted, and k put at the start of xs
module _ (n k : ℕ) (xs bs : List ℕ) (size : length xs ≡ n) (put : k ≡ length (take k xs)) (read : take k xs ≡ take n bs) where
  front_there : k ≡ n → Some xs ≡ front_of n bs
  unfolding front_of
  front_there e =
      let whole : n ≤ length bs = omega (arith, length-take n bs, ap length read) in
      let all : xs ≡ take n bs = sym (take_all k xs (omega arith)) ∙ read in
      rw (le-leb n (length bs) whole, front_of) (ap Some all)

  front_cut : k ≤ n → (k ≡ n → ⊥) → None ≡ front_of n bs
  unfolding front_of
  front_cut h o =
      let less : k ≤ n - 1 = omega (arith, o) in
      rw (lt-leb n (length bs) (omega (arith, length-take n bs, ap length read)), front_of) refl

  pub front_read : (r : Option (List ℕ)) → k ≤ n → r ≡ then_some (nat_eq k n) xs → r ≡ front_of n bs
  front_read r h e = elim (nat_eq k n) as (λ t. nat_eq k n ≡ t → r ≡ front_of n bs) [
    | true ↦ λ q. e ∙ ap (λ t. then_some t xs) q ∙ front_there (eqb-true k n q)
    | false ↦ λ q. e ∙ ap (λ t. then_some t xs) q ∙ front_cut h (eqb-false k n q)
  ] refl

-- what was read says how many bytes there were
pub front_some : (n : ℕ) (bs xs : List ℕ) → Some xs ≡ front_of n bs → (n ≤ length bs) × (xs ≡ take n bs)
unfolding front_of
front_some n bs xs e = elim (leb n (length bs)) as (λ t. leb n (length bs) ≡ t → (n ≤ length bs) × (xs ≡ take n bs)) [
  | true ↦ λ q. (leb-true n (length bs) q, let f : Some xs ≡ Some (take n bs) = rw (front_of, q) at e in cc)
  | false ↦ λ q. let f : Some xs ≡ None = rw (front_of, q) at e in absurd (some_none f)
] refl

pub front_none : (n : ℕ) (bs : List ℕ) → None ≡ front_of n bs → length bs < n
unfolding front_of
front_none n bs e = elim (leb n (length bs)) as (λ t. leb n (length bs) ≡ t → length bs < n) [
  | true ↦ λ q. let f : Some (take n bs) ≡ None = sym (rw (front_of, q) at e) in absurd (some_none f)
  | false ↦ λ q. leb-false n (length bs) q
] refl

-- ---- the first word

first_word_some : (xs bs : List ℕ) → Some xs ≡ front_of 4 bs → from_le_bytes w32 xs ≡ first_word bs
unfolding first_word
first_word_some xs bs e =
    let there = front_some 4 bs xs e in
    rw (le-leb 4 (length bs) there.0, first_word) (ap (from_le_bytes w32) there.1)

first_word_none : (bs : List ℕ) → None ≡ front_of 4 bs → 0 ≡ first_word bs
unfolding first_word
first_word_none bs e = rw (lt-leb 4 (length bs) (front_none 4 bs e), first_word) refl

module _ (n : ℕ) where
  first_word_or : (bs : List ℕ) (r : Option (List ℕ)) → MatchOption r (n ≡ 0) (λ xs. n ≡ from_le_bytes w32 xs) → r ≡ front_of 4 bs → n ≡ first_word bs
  first_word_or bs None m e = m ∙ first_word_none bs e
  first_word_or bs (Some xs) m e = m ∙ first_word_some xs bs e

  pub first_word_read : (a r : Option (List ℕ)) → IfSome a (λ bs. r ≡ front_of 4 bs) → MatchOption r (n ≡ 0) (λ xs. n ≡ from_le_bytes w32 xs)
      → IfSome a (λ bs. n ≡ first_word bs)
  first_word_read a r h m = on_known a (λ bs e. first_word_or bs r m e) h
