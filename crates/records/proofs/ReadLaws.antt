-- What was read of known bytes. In each law `a` is what is known before a read, and `b` after it. Assumes nothing.
use Rattle.std.proofs.Common.{◌≡◌, ℕ, suc, ◌+◌, ◌-◌, ◌<◌, ◌≤◌, Bool, true, false, not, nat_eq, List, [], ◌∷◌, None, Some, IfSome, length, get_or, take, drop, refl, sym, ap, subst, ◌∙◌, arith}
use Rattle.std.specs.Prelude.{Option, unwrap_or}
use Rattle.records.specs.Records.{word_at, line_goes_on, after_line, record_in}
use Rattle.records.specs.RecordLaws.{word_past}
use Rattle.records.proofs.PartLaws.{word_of_part}
use Rattle.reading.specs.Front.{front_of, first_word}
use Rattle.reading.proofs.FrontLaws.{front_some, front_none}
use Rattle.std.proofs.Common.{◌++◌, leb, min, le-leb, take_all}
use Rattle.std.proofs.lemmas.Bool.{lt-leb}
use borrow.Author.Tests.{leb-true, leb-false}
use Rattle.std.proofs.lemmas.List.{length-take, take-append-le}
use Rattle.std.proofs.Math.ListN.{length-drop}

pub on_both : {P Q R : List ℕ → Type 0} (a : Option (List ℕ)) → IfSome a P → IfSome a Q → ((bs : List ℕ) → P bs → Q bs → R bs) → IfSome a R
on_both None p q f = tt
on_both (Some bs) p q f = f bs p q

-- what holds of the bytes after a read of k holds of the others
pub on_rest : (P : List ℕ → Type 0) (a b : Option (List ℕ)) (k : ℕ) → IfSome a (λ bs. b ≡ Some (drop k bs)) → IfSome b P → IfSome a (λ bs. P (drop k bs))
on_rest P None b k r p = tt
on_rest P (Some bs) b k r p = subst (λ o. IfSome o P) r p

-- ---- the line

-- a byte was read
pub goes_on_read : (xs bs : List ℕ) → 1 ≤ length xs → take 1 xs ≡ take 1 bs → not (nat_eq (get_or xs 0 0) 10) ≡ line_goes_on bs
unfolding line_goes_on
goes_on_read [] bs l h = absurd (omega arith)
goes_on_read (x ∷ xs) [] l h = cc
goes_on_read (x ∷ xs) (b ∷ bs) l h = let e : x ≡ b = cc in ap (λ (k : ℕ). not (nat_eq k 10)) e

goes_on_some : (xs bs : List ℕ) → Some xs ≡ front_of 1 bs → not (nat_eq (get_or xs 0 0) 10) ≡ line_goes_on bs
goes_on_some xs bs e =
    let there = front_some 1 bs xs e in
    let one : length xs ≡ 1 = omega (arith, there, length-take 1 bs, ap length there.1) in
    goes_on_read xs bs (omega arith) (take_all 1 xs (omega arith) ∙ there.1)

-- no byte was left
goes_on_none : (bs : List ℕ) → None ≡ front_of 1 bs → false ≡ line_goes_on bs
unfolding line_goes_on
goes_on_none [] e = refl
goes_on_none (b ∷ bs) e = absurd (omega (arith, front_none 1 (b ∷ bs) e))

pub goes_on_byte : (r : Option (List ℕ)) (xs bs : List ℕ) → xs ≡ unwrap_or r (10 ∷ []) → r ≡ front_of 1 bs
    → not (nat_eq (get_or xs 0 0) 10) ≡ line_goes_on bs
goes_on_byte None xs bs u e = ap (λ (l : List ℕ). not (nat_eq (get_or l 0 0) 10)) u ∙ goes_on_none bs e
goes_on_byte (Some ys) xs bs u e = ap (λ (l : List ℕ). not (nat_eq (get_or l 0 0) 10)) u ∙ goes_on_some ys bs e

-- so many bytes may still be read of the line, and what follows it is what follows the whole line
abbrev pub Skipped : Option (List ℕ) → Option (List ℕ) → ℕ → ℕ → Type 0
Skipped a b left n = IfSome a (λ bs. (cs : List ℕ) × (b ≡ Some cs) × (after_line left cs ≡ after_line n bs))

pub skipped : (a : Option (List ℕ)) (n : ℕ) → Skipped a a n n
skipped None n = tt
skipped (Some bs) n = (bs, refl, refl)

module _ (b c : Option (List ℕ)) (n left : ℕ) (more : Bool) (some : 0 < left) where
  turned : (cs ds : List ℕ) → more ≡ line_goes_on cs → after_line left cs ≡ ds
      → (elim more [ true ↦ after_line (left - 1) (drop 1 cs) | false ↦ drop 1 cs ]) ≡ ds
  unfolding after_line
  turned cs ds m e =
      let one : left ≡ suc (left - 1) = omega arith in
      ap (λ (t : Bool). elim t [ true ↦ after_line (left - 1) (drop 1 cs) | false ↦ drop 1 cs ]) m ∙ sym (ap (λ (k : ℕ). after_line k cs) one) ∙ e

  -- the bytes after a turn, and those that follow the line by the answer of the turn
  turn : (a : Option (List ℕ)) → Skipped a b left n → IfSome b (λ cs. more ≡ line_goes_on cs) → IfSome b (λ cs. c ≡ Some (drop 1 cs))
      → IfSome a (λ bs. (cs : List ℕ) × (c ≡ Some (drop 1 cs))
      × ((elim more [ true ↦ after_line (left - 1) (drop 1 cs) | false ↦ drop 1 cs ]) ≡ after_line n bs))
  turn None s m r = tt
  turn (Some bs) s m r =
      let cs = s.0 in (
        cs,
        subst (λ o. IfSome o (λ cs. c ≡ Some (drop 1 cs))) s.1 r,
        turned cs (after_line n bs) (subst (λ o. IfSome o (λ cs. more ≡ line_goes_on cs)) s.1 m) s.2,
      )

  pub skipped_turn : (a : Option (List ℕ)) → more ≡ true → Skipped a b left n → IfSome b (λ cs. more ≡ line_goes_on cs)
      → IfSome b (λ cs. c ≡ Some (drop 1 cs)) → Skipped a c (left - 1) n
  skipped_turn None t s m r = tt
  skipped_turn (Some bs) t s m r =
      let w = turn (Some bs) s m r in
      (drop 1 w.0, w.1, sym (ap (λ (t : Bool). elim t [ true ↦ after_line (left - 1) (drop 1 w.0) | false ↦ drop 1 w.0 ]) t) ∙ w.2)

  pub skipped_end : (a : Option (List ℕ)) → more ≡ false → Skipped a b left n → IfSome b (λ cs. more ≡ line_goes_on cs)
      → IfSome b (λ cs. c ≡ Some (drop 1 cs)) → IfSome a (λ bs. c ≡ Some (after_line n bs))
  skipped_end None t s m r = tt
  skipped_end (Some bs) t s m r =
      let w = turn (Some bs) s m r in
      w.1 ∙ ap (λ (xs : List ℕ). Some xs) (sym (ap (λ (t : Bool). elim t [ true ↦ after_line (left - 1) (drop 1 w.0) | false ↦ drop 1 w.0 ]) t) ∙ w.2)

-- no byte may be read any more
pub skipped_all : (a b : Option (List ℕ)) (n left : ℕ) → left ≡ 0 → Skipped a b left n → IfSome a (λ bs. b ≡ Some (after_line n bs))
unfolding after_line
skipped_all None b n left z s = tt
skipped_all (Some bs) b n left z s = s.1 ∙ ap (λ (xs : List ℕ). Some xs) (sym (ap (λ (k : ℕ). after_line k s.0) z) ∙ s.2)

-- ---- the record

-- the word that is read first is the one at byte 0
pub first_word_is : (bs : List ℕ) → first_word bs ≡ word_at bs 0
unfolding first_word
first_word_is bs = elim (leb 4 (length bs)) as (λ t. leb 4 (length bs) ≡ t → first_word bs ≡ word_at bs 0) [
  | true ↦ λ q. rw (first_word, q) (word_of_part bs (take 4 bs) 0 (leb-true 4 (length bs) q) refl)
  | false ↦ λ q. rw (first_word, q) (sym (word_past bs 0 (leb-false 4 (length bs) q)))
] refl

-- a first word that is not 0 is there
word_whole : (bs : List ℕ) → 0 < word_at bs 0 → 4 ≤ length bs
unfolding word_at
word_whole [] h = absurd (omega arith)
word_whole (a ∷ []) h = absurd (omega arith)
word_whole (a ∷ b ∷ []) h = absurd (omega arith)
word_whole (a ∷ b ∷ c ∷ []) h = absurd (omega arith)
word_whole (a ∷ b ∷ c ∷ d ∷ bs) h = omega arith

module _ (room : ℕ) (bs : List ℕ) (w : ℕ) (is : w ≡ word_at bs 0) where
  pub record_short : w ≤ 4 → [] ≡ record_in room bs
  unfolding record_in
  record_short h =
      let none : word_at bs 0 - 4 ≡ 0 = omega arith in
      elim (leb (word_at bs 0) (min (room + 4) (length bs))) as (λ t. [] ≡ elim t [ true ↦ take (word_at bs 0 - 4) (drop 4 bs) | false ↦ [] ]) [
        | true ↦ ap (λ (k : ℕ). take k (drop 4 bs)) (sym none)
        | false ↦ refl
      ]

  pub record_long : room < w - 4 → [] ≡ record_in room bs
  unfolding record_in
  record_long h = let past : min (room + 4) (length bs) < word_at bs 0 = omega arith in rw (lt-leb _ _ past, record_in)

  module _ (n k : ℕ) (xs : List ℕ) (read : take n xs ≡ take k (drop 4 bs)) (same : k ≡ w - 4) where
    pub record_cut : n < w - 4 → n ≡ length (take n xs) → [] ≡ record_in room bs
    unfolding record_in
    record_cut h e =
        let past : min (room + 4) (length bs) < word_at bs 0 = omega (arith, length-take k (drop 4 bs), length-drop 4 bs, ap length read) in
        rw (lt-leb _ _ past, record_in)

    pub record_read : 4 ≤ w → w - 4 ≤ room → n ≡ w - 4 → n ≡ length (take n xs) → (ys : List ℕ) → take (w - 4) (xs ++ ys) ≡ record_in room bs
    unfolding record_in
    record_read h fits e l ys =
        let whole : word_at bs 0 ≤ min (room + 4) (length bs) =
        omega (arith, length-take k (drop 4 bs), length-drop 4 bs, ap length read, word_whole bs (omega arith)) in
        let front : take (w - 4) (xs ++ ys) ≡ take n xs =
        ap (λ (k : ℕ). take k (xs ++ ys)) (sym e) ∙ take-append-le n xs ys (omega (arith, length-take n xs)) in
        let first : take k (drop 4 bs) ≡ take (word_at bs 0 - 4) (drop 4 bs) = ap (λ (k : ℕ). take k (drop 4 bs)) (same ∙ ap (λ (k : ℕ). k - 4) is) in
        front ∙ read ∙ first ∙ sym (rw (le-leb _ _ whole, record_in))
