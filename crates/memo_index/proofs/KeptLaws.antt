-- For the callers of `find` and `enter`: what a kept index gives, and what keeps it. Assumes nothing.
use Rattle.std.proofs.Common.{◌≡◌, ℕ, suc, ◌+◌, ◌<◌, ◌≤◌, min, List, length, get_or, set, take, drop, replicate, None, refl, sym, ap, ◌∙◌, ⊎_elim, add-one}
use Rattle.std.proofs.Common.{arith, length-set, length-take-le, get_or-set_same, get_or-set_other, get_or-take}
use Rattle.std.specs.Option.{option_or}
use Rattle.store.specs.Memo.{spot}
use Rattle.memo_index.specs.Index.{lookup, noted, index_of, Searched, Room, Distinct, Kept}
use Rattle.memo_index.proofs.WalkLaws.{below_or_not}
use Rattle.memo_index.proofs.IndexLaws.{Indexed, index_of_indexed, index_of_same, length_noted}
use Rattle.memo_index.proofs.LookupLaws.{spot_absent, lookup_then_scan}

-- at first, with no entry: 1,024 places, each 0, or a list that is no index
pub kept_at_first : (index sets : List ℕ) → (length index ≡ 1024 → index ≡ replicate 1024 0) → Kept index sets 0
unfolding index_of
kept_at_first index sets h = record { distinct = λ i j u l. absurd (omega arith); within = omega arith; made = h }

pub kept_zeros : (sets : List ℕ) → Kept (replicate 1024 0) sets 0
kept_zeros sets = kept_at_first (replicate 1024 0) sets (λ e. refl)

module _ {index sets : List ℕ} {n : ℕ} (k : Kept index sets n) where
  -- ---- what it gives

  pub kept_searched : length index ≡ 1024 → Searched index sets
  kept_searched e =
      let i : Indexed index sets (min n 512) = rw (k.made e) (index_of_indexed sets n) in
      record { sized = e; ends = omega (arith, i.others); entries = λ p. omega (arith, i.entries p, k.within) }

  pub kept_room : Room index n
  kept_room e h = (kept_searched e).ends

  pub kept_found : (s : ℕ) → length index ≡ 1024 → option_or (lookup index sets s) (spot 512 (drop 512 (take n sets)) s) ≡ spot 0 (take n sets) s
  kept_found s e =
      ap (λ (x : List ℕ). option_or (lookup x sets s) (spot 512 (drop 512 (take n sets)) s)) (k.made e) ∙ lookup_then_scan sets n s k.distinct k.within

  -- ---- what keeps it

  -- other sets behind the first n
  pub kept_front : (other : List ℕ) → n ≤ length other → ((i : ℕ) → i < n → get_or other i 0 ≡ get_or sets i 0) → Kept index other n
  kept_front other w h =
      record {
        distinct = λ i j u l e. k.distinct i j u l (sym (h i (omega arith)) ∙ e ∙ h j l);
        within = w;
        made = λ e. k.made e ∙ sym (index_of_same other sets n h);
      }

  pub kept_taken : (other : List ℕ) → n ≤ length other → take n other ≡ take n sets → Kept index other n
  kept_taken other w e =
      kept_front other w (λ i h. sym (get_or-take n other i 0 h) ∙ ap (λ (l : List ℕ). get_or l i 0) e ∙ get_or-take n sets i 0 h)

  pub kept_write : (i s : ℕ) → n ≤ i → Kept index (set sets i s) n
  kept_write i s h =
      kept_front (set sets i s) (omega (arith, length-set sets i s, k.within)) (λ j l. get_or-set_other sets i j s 0 (λ e. omega arith))

  -- the set at place n, entered
  pub kept_next : Distinct sets (suc n) → n < length sets → Kept (noted index (get_or sets n 0) n) sets (suc n)
  unfolding index_of
  kept_next d w =
      record {
        distinct = d;
        within = w;
        made = λ e. ap (λ (x : List ℕ). noted x (get_or sets n 0) n) (k.made (sym (length_noted index (get_or sets n 0) n) ∙ e));
      }

  -- a new set s at place n
  module _ (s : ℕ) (w : n < length sets) (o : spot 0 (take n sets) s ≡ None) where
    before : (i : ℕ) → i < n → get_or (set sets n s) i 0 ≡ get_or sets i 0
    before i h = get_or-set_other sets n i s 0 (λ e. omega arith)

    last : get_or (set sets n s) n 0 ≡ s
    last = get_or-set_same sets n s 0 w

    still_distinct : Distinct (set sets n s) (suc n)
    still_distinct i j h l e =
        ⊎_elim (λ (u : j < n). k.distinct i j h u (sym (before i (omega arith)) ∙ e ∙ before j u))
        (λ (u : n ≤ j).
        let z : j ≡ n = omega arith in
        let m : i < n = omega arith in
        spot_absent s (take n sets) 0 i o (omega (arith, length-take-le n sets k.within))
        (get_or-take n sets i 0 m ∙ sym (before i m) ∙ (rw z at e) ∙ last))
        (below_or_not j n)

-- a new set s, written at place n and entered
pub kept_entered : {index sets : List ℕ} {n : ℕ} (k : Kept index sets n) {after more : List ℕ} (s : ℕ) → n < length sets → spot 0 (take n sets) s ≡ None
    → more ≡ set sets n s → after ≡ noted index s n → Kept after more (n + 1)
kept_entered {index} {sets} {n} k s w o f g =
    let c = kept_next (kept_write k n s (omega arith)) (still_distinct k s w o) (omega (arith, length-set sets n s)) in
    rw (g, f, add-one) (rw (last k s w o) at c)
