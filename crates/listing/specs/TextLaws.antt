-- Laws of the whole text and of the sets read back. Assumes nothing.
use Rattle.std.specs.Prelude.{◌≡◌, None, Some, get_or, set}
use Rattle.std.proofs.Math.Path.{refl, ap}
use Rattle.std.proofs.Common.{sym, ap₂, ◌∙◌, add-zero, add-suc, suc-add, add-one, arith}
use mathlib.Core.List.{List, [], ◌∷◌, ◌++◌, append_assoc, append-nil}
use Prim.Native.Nat.{ℕ, zero, suc, ◌+◌, ◌*◌, ◌-◌, ◌^◌, ◌≤◌, ◌<◌}
use Rattle.std.proofs.Math.Nat.{zero-add, sub_self}
use Rattle.std.proofs.Math.ListN.{length, drop, length-append}
use Rattle.std.proofs.lemmas.List.Edits.{sets}
use Rattle.std.proofs.Math.Seq.{sets-eq}
use borrow.Author.Tests.{lt-ltb, le-ltb}
use Rattle.definition.specs.Lists.{tabulate}
use Rattle.definition.proofs.ListLaws.{length-tabulate, tabulate_more}
use Rattle.definition.specs.Search.{Pair}
use Rattle.definition.specs.TriedList.{decimal, hex16, line, tried_lines, tried_list}
use Rattle.listing.specs.Text.{Puts, pairs_of, answer_for, written_in, head_length, lines_length, side_sets}
use Rattle.listing.specs.Laws.{line-length, sets-append, puts_none, puts_then, decimal_ten, length_hex}

-- ---- lengths

pub head_bound : (answer n visits : ℕ) → answer < 2 ^ 32 → n < 2 ^ 32 → visits < 2 ^ 32 → head_length answer n visits ≤ 33
head_bound answer n visits h k l = omega (arith, decimal_ten answer h, decimal_ten n k, decimal_ten visits l)

pub lines_longer : (n : ℕ) → lines_length (n + 1) ≡ lines_length n + (length (decimal n) + 35)
unfolding lines_length
lines_longer n = rw add-one

pub lines_bound : (n : ℕ) → n ≤ 2 ^ 32 → lines_length n ≤ 45 * n
unfolding lines_length
lines_bound zero h = omega arith
lines_bound (suc n) h = omega (arith, lines_bound n (omega arith), decimal_ten n (omega arith))

-- ---- the lines

lines_append : (n : ℕ) (ps qs : List Pair) → tried_lines n (ps ++ qs) ≡ tried_lines n ps ++ tried_lines (n + length ps) qs
unfolding tried_lines
lines_append n [] qs = ap (λ (k : ℕ). tried_lines k qs) (sym (add-zero n))
lines_append n (p ∷ ps) qs =
    ap (λ (l : List ℕ). line (decimal n) (hex16 p.left) (hex16 p.right) ++ l)
    (lines_append (suc n) ps qs ∙ ap (λ (k : ℕ). tried_lines (suc n) ps ++ tried_lines k qs) (suc-add n (length ps) ∙ sym (add-suc n (length ps))))
    ∙ sym (append_assoc (line (decimal n) (hex16 p.left) (hex16 p.right)) (tried_lines (suc n) ps) (tried_lines (n + suc (length ps)) qs))

module _ (left right : List ℕ) where
  abbrev pair : ℕ → Pair
  pair i = record { left = get_or left i 0; right = get_or right i 0 }

  abbrev line_of : ℕ → List ℕ
  line_of n = line (decimal n) (hex16 (get_or left n 0)) (hex16 (get_or right n 0))

  lines_none : tried_lines 0 (pairs_of left right 0) ≡ []
  unfolding tried_lines tabulate
  lines_none = refl

  lines_more : (n : ℕ) → tried_lines 0 (pairs_of left right (n + 1)) ≡ tried_lines 0 (pairs_of left right n) ++ line_of n
  unfolding tried_lines
  lines_more n =
      ap (tried_lines 0) (tabulate_more n pair pair (λ i h. refl)) ∙ lines_append 0 (tabulate n pair) (pair n ∷ [])
      ∙ ap (λ (k : ℕ). tried_lines 0 (tabulate n pair) ++ tried_lines k (pair n ∷ [])) (zero-add (length (tabulate n pair)) ∙ length-tabulate n pair)
      ∙ ap (λ (l : List ℕ). tried_lines 0 (tabulate n pair) ++ l) (append-nil (line_of n))

  -- the lines of one candidate more, written behind the others
  pub puts_lines_none : (l : List ℕ) (at : ℕ) → Puts (tried_lines 0 (pairs_of left right 0)) l l at at
  puts_lines_none l at = rw lines_none (puts_none l at)

  pub puts_lines_more : (n : ℕ) {x y at m end : ℕ} {a b c : List ℕ} → x ≡ get_or left n 0 → y ≡ get_or right n 0
      → Puts (tried_lines 0 (pairs_of left right n)) a b at m → Puts (line (decimal n) (hex16 x) (hex16 y)) b c m end
      → Puts (tried_lines 0 (pairs_of left right (n + 1))) a c at end
  puts_lines_more n f g p q = rw (lines_more n, ← f, ← g) (puts_then p q)

  pub lines_length_lem : (n : ℕ) → length (tried_lines 0 (pairs_of left right n)) ≡ lines_length n
  unfolding lines_length
  lines_length_lem zero = ap length lines_none
  lines_length_lem (suc n) =
      ap (λ (k : ℕ). length (tried_lines 0 (pairs_of left right k))) (sym (add-one n)) ∙ ap length (lines_more n)
      ∙ length-append (tried_lines 0 (pairs_of left right n)) (line_of n)
      ∙ omega (
        arith,
        lines_length_lem n,
        line-length (decimal n) (hex16 (get_or left n 0)) (hex16 (get_or right n 0)),
        length_hex 16 (get_or left n 0),
        length_hex 16 (get_or right n 0),
      )

  -- ---- the text

  module _ (answer visits n : ℕ) where
    abbrev text : List ℕ
    text = tried_list answer visits (pairs_of left right n)

    pub text_length : length text ≡ head_length answer n visits + lines_length n
    unfolding tried_list
    text_length =
        rw (length-tabulate n pair)
        (length-append (line (decimal answer) (decimal n) (decimal visits)) (tried_lines 0 (pairs_of left right n))
        ∙ omega (arith, line-length (decimal answer) (decimal n) (decimal visits), lines_length_lem n))

    -- the first line and the other lines, written one behind the other
    pub puts_text : {a b c : List ℕ} {at end : ℕ} → Puts (line (decimal answer) (decimal n) (decimal visits)) a b 0 at
        → Puts (tried_lines 0 (pairs_of left right n)) b c at end → Puts text a c 0 end
    unfolding tried_list
    puts_text p q = rw (length-tabulate n pair) (puts_then p q)

-- ---- whether a text fits

module _ (text out : List ℕ) where
  pub no_room : length out < length text → (None ≡ answer_for text out) × (out ≡ written_in text out)
  unfolding answer_for written_in
  no_room h = let t = lt-ltb (length out) (length text) h in (rw (answer_for, t), rw (written_in, t))

  pub room : {end : ℕ} {after : List ℕ} → length text ≤ length out → Puts text out after 0 end
      → (Some end ≡ answer_for text out) × (after ≡ written_in text out)
  unfolding answer_for written_in
  room h p =
      let t = le-ltb (length out) (length text) h in (
        rw (answer_for, t) (ap Some (p.place ∙ zero-add (length text))),
        rw (written_in, t) (p.list ∙ sets-eq text out 0 (rw zero-add h) ∙ ap (λ (k : ℕ). text ++ drop k out) (zero-add (length text))),
      )

-- ---- the sets read back

module _ (pset pside l : List ℕ) (n : ℕ) where
  pub sides_none : l ≡ sets l 0 (side_sets pset pside n n)
  unfolding tabulate
  sides_none = rw sub_self

  -- s: what the list holds so far; i, v: the plan that candidate k names, and its set
  pub sides_more : {s : List ℕ} {k i v : ℕ} → n ≤ k → s ≡ sets l 0 (side_sets pset pside n k) → i ≡ get_or pside k 0 → v ≡ get_or pset i 0
      → set s (k - n) v ≡ sets l 0 (side_sets pset pside n (k + 1))
  sides_more {s} {k} {i} {v} h q f g =
      let side : ℕ → ℕ = λ (j : ℕ). get_or pset (get_or pside (n + j) 0) 0 in
      let e : n + (k - n) ≡ k = omega arith in
      let m : k + 1 - n ≡ k - n + 1 = omega arith in
      let w : 0 + length (tabulate (k - n) side) ≡ k - n = omega (arith, length-tabulate (k - n) side) in
      let x : v ≡ side (k - n) = g ∙ ap (λ (j : ℕ). get_or pset j 0) (f ∙ ap (λ (j : ℕ). get_or pside j 0) (sym e)) in
      ap₂ (λ (r : List ℕ) (j : ℕ). set r j v) q (sym w) ∙ ap (set (sets l 0 (tabulate (k - n) side)) (0 + length (tabulate (k - n) side))) x
      ∙ sym (sets-append (tabulate (k - n) side) (side (k - n) ∷ []) l 0)
      ∙ ap (sets l 0) (sym (tabulate_more (k - n) side side (λ j z. refl)) ∙ ap (λ (j : ℕ). tabulate j side) (sym m))
