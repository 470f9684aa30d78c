-- The position found through the index is the one found from the memo's front. Assumes nothing.
use Rattle.std.proofs.Common.{◌≡◌, ℕ, zero, suc, ◌+◌, ◌-◌, ◌<◌, ◌≤◌, min, ◌⊎◌, List, [], ◌∷◌, length, get_or, take, drop, Option, Some, None, option_map}
use Rattle.std.proofs.Common.{refl, sym, ap, ◌∙◌, inl, inr, ⊎_elim, le_of_lt, zero-add, add-zero, arith, length-take, length-take-le, drop_of_length-le}
use Rattle.std.proofs.Common.{get_or-take, take-take, take_all, eq-eqb, ne_eqb}
use Rattle.std.proofs.Math.Nat.{min-eq_left, min-eq_right}
use Rattle.std.proofs.lemmas.List.{drop-take, take_rest}
use Rattle.std.specs.Option.{option_or, MatchOption}
use Rattle.store.specs.Memo.{spot}
use Rattle.memo_index.specs.Index.{home, lookup, index_of, Distinct}
use Rattle.memo_index.proofs.WalkLaws.{same_or_not, below_or_not, Vacant, probe_finds, probe_misses}
use Rattle.memo_index.proofs.IndexLaws.{Stands, Indexed, index_of_indexed}

-- ---- the search from the front

module _ (s : ℕ) where
  spot_first : (l : List ℕ) (b i : ℕ) → i < length l → get_or l i 0 ≡ s → ((j : ℕ) → j < i → get_or l j 0 ≡ s → ⊥) → spot b l s ≡ Some (b + i)
  unfolding spot
  spot_first [] b i h e o = absurd (omega arith)
  spot_first (x ∷ l) b zero h e o = rw (eq-eqb x s e, spot, add-zero)
  spot_first (x ∷ l) b (suc i) h e o =
      let z : b + suc i ≡ suc b + i = omega arith in
      rw (ne_eqb x s (o 0 (omega arith)), spot, z) (spot_first l (suc b) i (omega arith) e (λ j t. o (suc j) (omega arith)))

  spot_none : (l : List ℕ) (b : ℕ) → ((j : ℕ) → j < length l → get_or l j 0 ≡ s → ⊥) → spot b l s ≡ None
  unfolding spot
  spot_none [] b o = refl
  spot_none (x ∷ l) b o = rw (ne_eqb x s (o 0 (omega arith)), spot) (spot_none l (suc b) (λ j t. o (suc j) (omega arith)))

  pub spot_absent : (l : List ℕ) (b i : ℕ) → spot b l s ≡ None → i < length l → get_or l i 0 ≡ s → ⊥
  unfolding spot
  spot_absent [] b i n h e = absurd (omega arith)
  spot_absent (x ∷ l) b zero n h e = let m = rw (eq-eqb x s e, spot) at n in cc
  spot_absent (x ∷ l) b (suc i) n h e =
      ⊎_elim (λ (z : x ≡ s). let m = rw (eq-eqb x s z, spot) at n in cc)
      (λ (z : x ≡ s → ⊥). spot_absent l (suc b) i (rw (ne_eqb x s z, spot) at n) (omega arith) e)
      (same_or_not x s)

  spot_parts : (k : ℕ) (l : List ℕ) (b : ℕ) → spot b l s ≡ option_or (spot b (take k l) s) (spot (b + k) (drop k l) s)
  unfolding spot
  spot_parts zero l b = rw add-zero
  spot_parts (suc k) [] b = refl
  spot_parts (suc k) (x ∷ l) b =
      let q : b + suc k ≡ suc b + k = omega arith in
      ⊎_elim (λ (z : x ≡ s). rw (eq-eqb x s z, spot))
      (λ (z : x ≡ s → ⊥). rw (ne_eqb x s z, spot, q) (spot_parts k l (suc b)))
      (same_or_not x s)

  -- counted from b on
  pub spot_from : (l : List ℕ) (a b : ℕ) → option_map (λ i. i + b) (spot a l s) ≡ spot (a + b) l s
  unfolding spot
  spot_from [] a b = refl
  spot_from (x ∷ l) a b =
      let q : suc a + b ≡ suc (a + b) = omega arith in
      ⊎_elim (λ (z : x ≡ s). rw (eq-eqb x s z, spot))
      (λ (z : x ≡ s → ⊥). rw (ne_eqb x s z, spot) (spot_from l (suc a) b ∙ ap (λ (c : ℕ). spot c l s) q))
      (same_or_not x s)

  -- a position found is one of the list's
  pub spot_within : (l : List ℕ) (a i : ℕ) → spot a l s ≡ Some i → i < a + length l
  unfolding spot
  spot_within [] a i e = cc
  spot_within (x ∷ l) a i e =
      ⊎_elim (λ (z : x ≡ s). let m = rw (eq-eqb x s z, spot) at e in let q : a ≡ i = cc in omega arith)
      (λ (z : x ≡ s → ⊥). let m = spot_within l (suc a) i (rw (ne_eqb x s z, spot) at e) in omega arith)
      (same_or_not x s)

  -- past k places
  behind : (l : List ℕ) (n k : ℕ) → k ≤ n → take (n - k) (take (length l - k) (drop k l)) ≡ drop k (take n l)
  behind l n k h =
      let e : k + (n - k) ≡ n = omega arith in
      ap (take (n - k)) (take_rest l k) ∙ sym (drop-take k (n - k) l) ∙ ap (λ (m : ℕ). drop k (take m l)) e

  -- r: what is found there, by a count that begins with 0
  pub scanned : {r : Option ℕ} (l : List ℕ) (n k : ℕ) → k ≤ n → r ≡ spot 0 (take (n - k) (take (length l - k) (drop k l))) s
      → option_map (λ i. i + k) r ≡ spot k (drop k (take n l)) s
  scanned {r} l n k h e =
      ap (option_map (λ i. i + k)) (e ∙ ap (λ (t : List ℕ). spot 0 t s) (behind l n k h)) ∙ spot_from (drop k (take n l)) 0 k
      ∙ ap (λ (a : ℕ). spot a (drop k (take n l)) s) (zero-add k)

  pub scanned_within : {r : Option ℕ} (l : List ℕ) (n k i : ℕ) → k ≤ n → r ≡ spot 0 (take (n - k) (take (length l - k) (drop k l))) s
      → r ≡ Some i → i + k < n
  scanned_within {r} l n k i h e f =
      let t = take (length l - k) (drop k l) in
      omega (arith, spot_within (take (n - k) t) 0 i (sym e ∙ f), length-take (n - k) t)

  pub scanned_none : (l : List ℕ) (n k : ℕ) → n ≤ k → None ≡ spot k (drop k (take n l)) s
  unfolding spot
  scanned_none l n k h = let w : length (take n l) ≤ k = omega (arith, length-take n l) in rw (drop_of_length-le (take n l) w)

  among_or_not : (l : List ℕ) (n : ℕ) → ((i : ℕ) × (i < n) × (get_or l i 0 ≡ s)) ⊎ ((i : ℕ) → i < n → get_or l i 0 ≡ s → ⊥)
  among_or_not l zero = inr (λ i h. absurd (omega arith))
  among_or_not l (suc n) =
      ⊎_elim (λ (z : get_or l n 0 ≡ s). inl (n, omega arith, z))
      (λ (z : get_or l n 0 ≡ s → ⊥).
      ⊎_elim (λ (r : (i : ℕ) × (i < n) × (get_or l i 0 ≡ s)). inl (r.0, omega (arith, r.1), r.2))
      (λ (r : (i : ℕ) → i < n → get_or l i 0 ≡ s → ⊥).
      inr (λ i h e. ⊎_elim (λ (u : i < n). r i u e) (λ (u : n ≤ i). let w : i ≡ n = omega arith in z (rw w at e)) (below_or_not i n)))
      (among_or_not l n))
      (same_or_not (get_or l n 0) s)

-- ---- through an index

module _ (index sets : List ℕ) (n s : ℕ) (k : Indexed index sets n) (d : Distinct sets n) (w : n ≤ length sets) where
  long : length (take n sets) ≡ n
  long = length-take-le n sets w

  below : (q : ℕ) → (Vacant index q → ⊥) → get_or index q 0 - 1 < n
  below q h = omega (arith, k.entries q)

  only : (i j : ℕ) → i < n → j < n → get_or sets i 0 ≡ s → get_or sets j 0 ≡ s → i ≡ j
  only i j h l e f =
      ⊎_elim (λ (u : i < j). absurd (d i j u l (e ∙ sym f)))
      (λ (u : j ≤ i). ⊎_elim (λ (t : j < i). absurd (d j i t h (f ∙ sym e))) (λ (t : i ≤ j). omega arith) (below_or_not j i))
      (below_or_not i j)

  found : (i : ℕ) → i < n → get_or sets i 0 ≡ s → lookup index sets s ≡ spot 0 (take n sets) s
  unfolding lookup
  found i h e =
      let t : Stands index s i = rw e at (k.stands i h) in
      probe_finds index sets s i t.steps 1024 (home s) t.few t.there t.occupied
      (λ q o m. let z = only i (get_or index q 0 - 1) h (below q o) e m in omega arith) e
      ∙ sym (spot_first s (take n sets) 0 i (omega (arith, long)) (get_or-take n sets i 0 h ∙ e)
      (λ j l x. d j i l h (sym (get_or-take n sets j 0 (omega arith)) ∙ x ∙ sym e)) ∙ ap (λ (x : ℕ). Some x) (zero-add i))

  missed : ((i : ℕ) → i < n → get_or sets i 0 ≡ s → ⊥) → lookup index sets s ≡ spot 0 (take n sets) s
  unfolding lookup
  missed o =
      probe_misses index sets s 1024 (home s) (λ q h. o _ (below q h))
      ∙ sym (spot_none s (take n sets) 0 (λ j l x. let m : j < n = omega (arith, long) in o j m (sym (get_or-take n sets j 0 m) ∙ x)))

  lookup_is : lookup index sets s ≡ spot 0 (take n sets) s
  lookup_is = ⊎_elim (λ r. found r.0 r.1 r.2) missed (among_or_not s sets n)

take_both : (m n : ℕ) (l : List ℕ) → take m (take n l) ≡ take (min n m) l
take_both m n l =
    ⊎_elim (λ (h : n < m). rw (min-eq_left (le_of_lt h)) (take_all m (take n l) (omega (arith, length-take n l))))
    (λ (h : m ≤ n). rw (min-eq_right h) (take-take m n l h))
    (below_or_not n m)

-- the first 512 through the index, the others by a scan
pub lookup_then_scan : (sets : List ℕ) (n s : ℕ) → Distinct sets n → n ≤ length sets
    → option_or (lookup (index_of sets n) sets s) (spot 512 (drop 512 (take n sets)) s) ≡ spot 0 (take n sets) s
lookup_then_scan sets n s d w =
    let m : ℕ = min n 512 in
    let l = lookup_is (index_of sets n) sets m s (index_of_indexed sets n) (λ i j h k. d i j h (omega arith)) (omega arith) in
    ap (λ (x : Option ℕ). option_or x (spot 512 (drop 512 (take n sets)) s)) (l ∙ ap (λ (x : List ℕ). spot 0 x s) (sym (take_both 512 n sets)))
    ∙ sym (spot_parts s 512 (take n sets) 0)

-- r: the first answer o, or else x
pub or_else_is : {r : Option ℕ} (o x : Option ℕ) → MatchOption o (r ≡ x) (λ i. r ≡ Some i) → r ≡ option_or o x
or_else_is None x m = m
or_else_is (Some i) x m = m
