-- Parts of a record's bytes that are taken where they are whole. Assumes nothing.
use Rattle.std.proofs.Common.{◌≡◌, ℕ, ◌+◌, ◌-◌, ◌*◌, ◌/◌, ◌<◌, ◌≤◌, List, [], Option, None, Some, length, get_or, take, drop, unwrap_or, inl, inr, sym, ap, ◌∙◌, arith, add-zero}
use Rattle.std.specs.Int.{w32, w64, from_le_bytes}
use Rattle.std.specs.List.{PartBy}
use Rattle.std.proofs.lemmas.List.{get_or-take, get_or-drop}
use Rattle.definition.specs.Sheet.{word}
use Rattle.records.specs.Records.{word_at, long_at, sheet_of, after_sheet}
use Rattle.records.specs.RecordLaws.{word_there, long_there, sheet_whole, sheet_none, rest_there, rest_past}

module _ (bs ys : List ℕ) (at : ℕ) where
  -- a byte of the part
  byte : (n i : ℕ) → ys ≡ take n (drop at bs) → i < n → get_or ys i 0 ≡ get_or bs (at + i) 0
  byte n i e h = ap (λ (l : List ℕ). get_or l i 0) e ∙ get_or-take n (drop at bs) i 0 h ∙ get_or-drop at bs i 0

  first : (n : ℕ) → ys ≡ take n (drop at bs) → 0 < n → get_or ys 0 0 ≡ get_or bs at 0
  first n e h = byte n 0 e h ∙ ap (λ (k : ℕ). get_or bs k 0) (add-zero at)

  pub word_of_part : at + 4 ≤ length bs → ys ≡ take 4 (drop at bs) → from_le_bytes w32 ys ≡ word_at bs at
  unfolding word
  word_of_part h e =
      let same : from_le_bytes w32 ys ≡ word bs at =
      omega (arith, first 4 e (omega arith), byte 4 1 e (omega arith), byte 4 2 e (omega arith), byte 4 3 e (omega arith)) in
      same ∙ sym (word_there bs at h)

  pub long_of_part : at + 8 ≤ length bs → ys ≡ take 8 (drop at bs) → from_le_bytes w64 ys ≡ long_at bs at
  unfolding word
  long_of_part h e =
      let high : (i : ℕ) → i < 4 → get_or ys (4 + i) 0 ≡ get_or bs (at + 4 + i) 0 =
      λ i l. byte 8 (4 + i) e (omega arith) ∙ ap (λ (k : ℕ). get_or bs k 0) (omega arith) in
      let fifth : get_or ys 4 0 ≡ get_or bs (at + 4) 0 = byte 8 4 e (omega arith) in
      let low = word bs at in
      let same : from_le_bytes w64 ys ≡ word bs at + 4294967296 * word bs (at + 4) =
      omega (
        arith,
        first 8 e (omega arith),
        byte 8 1 e (omega arith),
        byte 8 2 e (omega arith),
        byte 8 3 e (omega arith),
        fifth,
        high 1 (omega arith),
        high 2 (omega arith),
        high 3 (omega arith),
      ) in
      same ∙ sym (long_there bs at h)

module _ {R : Type 0} (now : R → List ℕ) (bs : List ℕ) (d : R) (none : now d ≡ []) where
  pub sheet_part : (r : Option R) (w : ℕ) → w ≡ word_at bs 0 → PartBy now bs 4 (4 + w) r → now (unwrap_or r d) ≡ sheet_of bs
  sheet_part None w e (p, q) = none ∙ sym (sheet_none bs (elim p [ inl h ↦ absurd (omega arith) | inr h ↦ omega arith ]))
  sheet_part (Some x) w e (p, q) =
      let size : 4 + w - 4 ≡ word_at bs 0 = omega arith in
      p.2 ∙ ap (λ (k : ℕ). take k (drop 4 bs)) size ∙ sym (sheet_whole bs (omega (arith, p.1)))

  pub rest_part : (r : Option R) (w : ℕ) → w ≡ word_at bs 0 → PartBy now bs (4 + (w + 3) / 4 * 4) (length bs) r → now (unwrap_or r d) ≡ after_sheet bs
  rest_part None w e (p, q) = none ∙ sym (rest_past bs (elim p [ inl h ↦ omega (arith, e) | inr h ↦ absurd (omega arith) ]))
  rest_part (Some x) w e (p, q) = p.2 ∙ sym (rest_there bs (4 + (w + 3) / 4 * 4) (ap (λ (k : ℕ). 4 + (k + 3) / 4 * 4) e))
