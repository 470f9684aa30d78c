-- A walk through the index ends at the first vacant place, and such a place anywhere ends every walk. Assumes nothing.
use Rattle.std.proofs.Common.{◌≡◌, ℕ, zero, suc, ◌+◌, ◌-◌, ◌%◌, ◌<◌, ◌≤◌, Bool, true, false, ◌⊎◌, List, get_or, eqb, ltb, Some, None, refl, sym, ap, ◌∙◌}
use Rattle.std.proofs.Common.{inl, inr, ⊎_elim, mod-lt, mod-eq_of_lt, arith, eq-eqb, ne_eqb, eqb-true, ltb-true, ltb-false}
use borrow.Author.Tests.{eqb-false}
use Rattle.memo_index.specs.Index.{home, next, free, probe}

pub same_or_not : (a b : ℕ) → (a ≡ b) ⊎ (a ≡ b → ⊥)
same_or_not a b = go (eqb a b) refl
  where
    go : (t : Bool) → eqb a b ≡ t → (a ≡ b) ⊎ (a ≡ b → ⊥)
    go true e = inl (eqb-true a b e)
    go false e = inr (eqb-false a b e)

pub below_or_not : (a b : ℕ) → (a < b) ⊎ (b ≤ a)
below_or_not a b = go (ltb a b) refl
  where
    go : (t : Bool) → ltb a b ≡ t → (a < b) ⊎ (b ≤ a)
    go true e = inl (ltb-true a b e)
    go false e = inr (ltb-false a b e)

pub home_in : (s : ℕ) → home s < 1024
home_in s = let h : s % 1021 < 1021 = mod-lt s (omega arith) in omega arith

next_up : (p : ℕ) → p < 1023 → next p ≡ p + 1
unfolding next
next_up p h = mod-eq_of_lt (omega arith)

next_round : (p : ℕ) → p ≡ 1023 → next p ≡ 0
unfolding next
next_round p e = rw e

next_in : (p : ℕ) → next p < 1024
unfolding next
next_in p = mod-lt (p + 1) (omega arith)

-- the place j places after p
unfoldable pub around : ℕ → ℕ → ℕ
around p zero = p
around p (suc j) = around (next p) j

-- the occupied ones of k places from p on, up to the first vacant one
unfoldable pub run : ℕ → List ℕ → ℕ → ℕ
run zero index p = 0
run (suc k) index p = elim (eqb (get_or index p 0) 0) [ true ↦ 0 | false ↦ suc (run k index (next p)) ]

module _ (index : List ℕ) where
  abbrev pub Vacant : ℕ → Type 0
  Vacant p = get_or index p 0 ≡ 0

  pub run_vacant : (k p : ℕ) → Vacant p → run (suc k) index p ≡ 0
  unfolding run
  run_vacant k p e = rw (eq-eqb _ _ e, run)

  run_on : (k p : ℕ) → (Vacant p → ⊥) → run (suc k) index p ≡ suc (run k index (next p))
  unfolding run
  run_on k p e = rw (ne_eqb _ _ e, run)

  pub free_vacant : (k p : ℕ) → Vacant p → free (suc k) index p ≡ p
  unfolding free
  free_vacant k p e = rw (eq-eqb _ _ e, free)

  free_on : (k p : ℕ) → (Vacant p → ⊥) → free (suc k) index p ≡ free k index (next p)
  unfolding free
  free_on k p e = rw (ne_eqb _ _ e, free)

  less_on : (k p : ℕ) → (Vacant p → ⊥) → run (suc k) index p < suc k → run k index (next p) < k
  less_on k p v h = let q = run_on k p v in omega arith

  -- ---- with more places to go nothing changes where the walk ends

  run_more : (k p : ℕ) → run k index p < k → run (suc k) index p ≡ run k index p
  run_more zero p h = absurd (omega arith)
  run_more (suc k) p h =
      ⊎_elim (λ v. run_vacant (suc k) p v ∙ sym (run_vacant k p v))
      (λ v. run_on (suc k) p v ∙ ap suc (run_more k (next p) (less_on k p v h)) ∙ sym (run_on k p v))
      (same_or_not (get_or index p 0) 0)

  free_more : (k p : ℕ) → run k index p < k → free (suc k) index p ≡ free k index p
  free_more zero p h = absurd (omega arith)
  free_more (suc k) p h =
      ⊎_elim (λ v. free_vacant (suc k) p v ∙ sym (free_vacant k p v))
      (λ v. free_on (suc k) p v ∙ free_more k (next p) (less_on k p v h) ∙ sym (free_on k p v))
      (same_or_not (get_or index p 0) 0)

  -- ---- a vacant place ends the walk

  -- from p on: if p is vacant, or if the walk from the place after it ends
  ends_at : (k p q : ℕ) → next p ≡ q → run k index q < k → run (suc k) index p < suc k
  ends_at k p q n h =
      ⊎_elim (λ v. omega (arith, run_vacant k p v))
      (λ v. let m : run k index (next p) < k = rw n h in omega (arith, run_on k p v))
      (same_or_not (get_or index p 0) 0)

  ends_up : (d k p : ℕ) → p + d < 1024 → Vacant (p + d) → d < k → run k index p < k
  ends_up d zero p h e l = absurd (omega arith)
  ends_up zero (suc k) p h e l = let q : p + 0 ≡ p = omega arith in omega (arith, run_vacant k p (rw q at e))
  ends_up (suc d) (suc k) p h e l =
      let q : p + suc d ≡ p + 1 + d = omega arith in
      ends_at k p (p + 1) (next_up p (omega arith)) (ends_up d k (p + 1) (omega arith) (rw q at e) (omega arith))

  ends_round : (d k p q : ℕ) → p + d ≡ 1023 → q < 1024 → Vacant q → d + 1 + q < k → run k index p < k
  ends_round d zero p q h i e l = absurd (omega arith)
  ends_round zero (suc k) p q h i e l =
      let z : 0 + q ≡ q = omega arith in
      ends_at k p 0 (next_round p (omega arith)) (ends_up q k 0 (omega arith) (rw z e) (omega arith))
  ends_round (suc d) (suc k) p q h i e l =
      ends_at k p (p + 1) (next_up p (omega arith)) (ends_round d k (p + 1) q (omega arith) i e (omega arith))

  pub ends : (p q : ℕ) → p < 1024 → q < 1024 → Vacant q → run 1024 index p < 1024
  ends p q h i e =
      ⊎_elim (λ l. ends_round (1023 - p) 1024 p q (omega arith) i e (omega arith))
      (λ l. let z : p + (q - p) ≡ q = omega arith in ends_up (q - p) 1024 p (omega arith) (rw z e) (omega arith))
      (below_or_not q p)

  -- ---- where the walk ends

  pub free_is_vacant : (k p : ℕ) → run k index p < k → Vacant (free k index p)
  free_is_vacant zero p h = absurd (omega arith)
  free_is_vacant (suc k) p h =
      ⊎_elim (λ v. rw (free_vacant k p v) v) (λ v. rw (free_on k p v) (free_is_vacant k (next p) (less_on k p v h))) (same_or_not (get_or index p 0) 0)

  pub free_around : (k p : ℕ) → run k index p < k → around p (run k index p) ≡ free k index p
  unfolding around
  free_around zero p h = absurd (omega arith)
  free_around (suc k) p h =
      ⊎_elim (λ v. rw (free_vacant k p v, run_vacant k p v))
      (λ v. rw (free_on k p v, run_on k p v) (free_around k (next p) (less_on k p v h)))
      (same_or_not (get_or index p 0) 0)

  pub free_in : (k p : ℕ) → p < 1024 → free k index p < 1024
  unfolding free
  free_in zero p h = h
  free_in (suc k) p h =
      ⊎_elim (λ v. rw (free_vacant k p v) h) (λ v. rw (free_on k p v) (free_in k (next p) (next_in p))) (same_or_not (get_or index p 0) 0)

  pub run_occupied : (k p j : ℕ) → j < run k index p → Vacant (around p j) → ⊥
  unfolding around run
  run_occupied zero p j h x = absurd (omega arith)
  run_occupied (suc k) p zero h x = let q = run_vacant k p x in absurd (omega arith)
  run_occupied (suc k) p (suc j) h x =
      ⊎_elim (λ v. let q = run_vacant k p v in absurd (omega arith))
      (λ v. let q = run_on k p v in run_occupied k (next p) j (omega arith) x)
      (same_or_not (get_or index p 0) 0)

  -- ---- a place further on, with as many to go

  pub run_step : (p : ℕ) → run 1024 index p < 1024 → (Vacant p → ⊥) → suc (run 1024 index ((p + 1) % 1024)) ≡ run 1024 index p
  unfolding next
  run_step p h v = ap suc (run_more 1023 (next p) (less_on 1023 p v h)) ∙ sym (run_on 1023 p v)

  pub free_step : (p : ℕ) → run 1024 index p < 1024 → (Vacant p → ⊥) → free 1024 index ((p + 1) % 1024) ≡ free 1024 index p
  unfolding next
  free_step p h v = free_more 1023 (next p) (less_on 1023 p v h) ∙ sym (free_on 1023 p v)

  -- ---- the search for a set

  module _ (sets : List ℕ) (s : ℕ) where
    abbrev pub Here : ℕ → Type 0
    Here p = get_or sets (get_or index p 0 - 1) 0 ≡ s

    pub probe_vacant : (k p : ℕ) → Vacant p → probe (suc k) index sets s p ≡ None
    unfolding probe
    probe_vacant k p e = rw (eq-eqb _ _ e, probe)

    pub probe_here : (k p : ℕ) → (Vacant p → ⊥) → Here p → probe (suc k) index sets s p ≡ Some (get_or index p 0 - 1)
    unfolding probe
    probe_here k p e m = rw (ne_eqb _ _ e, probe, eq-eqb _ _ m)

    probe_on : (k p : ℕ) → (Vacant p → ⊥) → (Here p → ⊥) → probe (suc k) index sets s p ≡ probe k index sets s (next p)
    unfolding probe
    probe_on k p e m = rw (ne_eqb _ _ e, probe, ne_eqb _ _ m)

    probe_more : (k p : ℕ) → run k index p < k → probe (suc k) index sets s p ≡ probe k index sets s p
    probe_more zero p h = absurd (omega arith)
    probe_more (suc k) p h =
        ⊎_elim (λ v. probe_vacant (suc k) p v ∙ sym (probe_vacant k p v))
        (λ v. ⊎_elim (λ w. probe_here (suc k) p v w ∙ sym (probe_here k p v w))
        (λ w. probe_on (suc k) p v w ∙ probe_more k (next p) (less_on k p v h) ∙ sym (probe_on k p v w))
        (same_or_not (get_or sets (get_or index p 0 - 1) 0) s))
        (same_or_not (get_or index p 0) 0)

    -- a place further on, with as many to go
    pub probe_step : (p : ℕ) → run 1024 index p < 1024 → (Vacant p → ⊥) → (Here p → ⊥)
        → probe 1024 index sets s ((p + 1) % 1024) ≡ probe 1024 index sets s p
    unfolding next
    probe_step p h v w = probe_more 1023 (next p) (less_on 1023 p v h) ∙ sym (probe_on 1023 p v w)

    -- where no entry but that of position i is s, and no place before it is vacant, it is found
    pub probe_finds : (i d k p : ℕ) → d < k → get_or index (around p d) 0 ≡ suc i → ((j : ℕ) → j < d → Vacant (around p j) → ⊥)
        → ((q : ℕ) → (Vacant q → ⊥) → Here q → get_or index q 0 ≡ suc i) → get_or sets i 0 ≡ s → probe k index sets s p ≡ Some i
    unfolding around
    probe_finds i d zero p h t o u m = absurd (omega arith)
    probe_finds i zero (suc k) p h t o u m =
        let z : get_or index p 0 - 1 ≡ i = omega arith in
        probe_here k p (λ e. omega arith) (rw z m) ∙ ap (λ (x : ℕ). Some x) z
    probe_finds i (suc d) (suc k) p h t o u m =
        let v : Vacant p → ⊥ = o 0 (omega arith) in
        ⊎_elim (λ w. let f = u p v w in let z : get_or index p 0 - 1 ≡ i = omega arith in probe_here k p v w ∙ ap (λ (x : ℕ). Some x) z)
        (λ w. probe_on k p v w ∙ probe_finds i d k (next p) (omega arith) t (λ j l. o (suc j) (omega arith)) u m)
        (same_or_not (get_or sets (get_or index p 0 - 1) 0) s)

    -- where no entry is s, none is found
    pub probe_misses : (k p : ℕ) → ((q : ℕ) → (Vacant q → ⊥) → Here q → ⊥) → probe k index sets s p ≡ None
    unfolding probe
    probe_misses zero p u = refl
    probe_misses (suc k) p u =
        ⊎_elim (λ v. probe_vacant k p v) (λ v. probe_on k p v (u p v) ∙ probe_misses k (next p) u) (same_or_not (get_or index p 0) 0)
