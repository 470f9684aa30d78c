use Rattle.std.proofs.Common.{arith, sym, ap, ap₂, refl, ◌∙◌, ◌≡◌, ◌+◌, ◌≤◌, ◌<◌, length, drop, get_or, ℕ, zero, suc, eqb, List, ◌++◌, ◌||◌, false}
use Rattle.std.proofs.Math.ListN.{get_or-append}
use Rattle.std.proofs.Math.Seq.{take-length}
use Rattle.std.proofs.lemmas.List.{get_or-drop, length-append, length-drop, drop_at, drop-drop}
use Rattle.store.specs.Memo.{holds, spot}
use Rattle.store.specs.Laws.{holds_more, spot_past}
use Rattle.store.proofs.sets.skip_eights.Goals as goal

-- k places without s from i on
past : (l : List ℕ) (s i k : ℕ) → holds l i k s ≡ false → i + k ≤ length l → spot (i + k) (drop (i + k) l) s ≡ spot i (drop i l) s
past l s i k e h =
    ap (λ (t : List ℕ). spot (i + k) (drop (i + k) t) s) (sym (take-length l)) ∙ spot_past l s (length l) k i e (omega (arith, h))
    ∙ ap (λ (t : List ℕ). spot i (drop i t) s) (take-length l)

-- what the eight places x say of l from i on, where r is left behind them
abbrev Cut : List ℕ → List ℕ → List ℕ → ℕ → ℕ → Type 0
Cut x r l i s = (i + 8 ≤ length l) × (holds x 0 4 s ≡ holds l i 4 s) × (holds x 4 4 s ≡ holds l (i + 4) 4 s) × (r ≡ drop (i + 8) l)

-- a part x of l, which begins at i
module _ (x r l : List ℕ) (i s : ℕ) (part : drop i l ≡ x ++ r) (eight : length x ≡ 8) (low : i ≤ length l) where
  inside : i + 8 ≤ length l
  inside = omega (arith, sym (length-drop i l) ∙ ap length part ∙ length-append x r)

  at : (j : ℕ) → j < length x → get_or x j 0 ≡ get_or l (i + j) 0
  at j h = sym (get_or-append x r 0 j h) ∙ ap (λ (t : List ℕ). get_or t j 0) (sym part) ∙ get_or-drop i l j 0

  same : (k j m : ℕ) → m ≡ i + j → j + k ≤ 8 → holds x j k s ≡ holds l m k s
  unfolding holds
  same zero j m e h = refl
  same (suc k) j m e h =
      ap₂ ◌||◌ (ap (λ (v : ℕ). eqb v s) (at j (omega arith) ∙ ap (λ (v : ℕ). get_or l v 0) (sym e))) (same k (suc j) (suc m) (omega arith) (omega arith))

  cut : Cut x r l i s
  cut = (
    inside,
    same 4 0 i (omega arith) (omega arith),
    same 4 4 (i + 4) refl (omega arith),
    sym (drop_at x r 8 eight) ∙ ap (drop 8) (sym part) ∙ drop-drop 8 i l,
  )

-- m, what the iterator had left, is cut into the eight x and r
here : (x r l : List ℕ) (s : ℕ) {i n : ℕ} {m : List ℕ} → i ≤ length l → m ≡ drop i l → n ≡ 8 → (m ≡ x ++ r) × (length x ≡ n) → Cut x r l i s
here x r l s {i} low left eight step = cut x r l i s (sym left ∙ step.0) (step.1 ∙ eight) low

pub loop-eight-init : goal.loop-eight-init
loop-eight-init c =
    let e = c.into_iter-eight-iterator.ensures.into_iter_gives in
    let made = c.chunks_exact-eight-items.ensures in
    record { inside = omega arith; size = rw e made.size; rest = rw e made.rest; value = refl }

pub overflow_add-result : goal.overflow_add-result
overflow_add-result c =
    let h = c.loop-eight.invariant in
    omega (arith, (here _ _ c.args.mset.now c.args.s h.inside h.rest h.size c.in-Some.ensures.steps.1).0, c.ranges)

pub returns-then-four_has-2 : goal.returns-then-four_has-2
returns-then-four_has-2 c =
    let a = c.args in
    let h = c.loop-eight.invariant in
    let w = here _ _ c.args.mset.now c.args.s h.inside h.rest h.size c.in-Some.ensures.steps.1 in
    let first = sym w.1 ∙ sym c.four_has.ensures ∙ c.if-four_has.false in
    (omega (arith, w.0), past a.mset.now a.s c.loop-eight.i 4 first (omega (arith, w.0)) ∙ h.value)

pub overflow_add-i : goal.overflow_add-i
overflow_add-i c =
    let h = c.loop-eight.invariant in
    omega (arith, (here _ _ c.args.mset.now c.args.s h.inside h.rest h.size c.in-Some.ensures.steps.1).0, c.ranges)

pub loop-eight-preserved : goal.loop-eight-preserved
loop-eight-preserved c =
    let a = c.args in
    let h = c.loop-eight.invariant in
    let w = here _ _ c.args.mset.now c.args.s h.inside h.rest h.size c.in-Some.ensures.steps.1 in
    let first = sym c.if-four_has.false ∙ c.four_has.ensures ∙ w.1 in
    let second = sym c.if-four_has-2.false ∙ c.four_has-in-loop-eight.ensures ∙ w.2 in
    let neither = sym (holds_more a.mset.now a.s c.loop-eight.i 4 4 first second) in
    record {
      inside = w.0;
      size = c.in-Some.ensures.steps.0 ∙ h.size;
      rest = w.3;
      value = past a.mset.now a.s c.loop-eight.i 8 neither (omega (arith, w.0)) ∙ h.value;
    }
