-- Laws that stood before the structs, kept as they were; no proof needs them now. Assumes nothing.
use Rattle.std.specs.Prelude.{◌≡◌, refl, ℕ, zero, suc, ◌-◌, ◌^◌, ◌<◌, ◌≤◌, Bool, true, false, List, [], ◌∷◌, eqb}
use Rattle.std.proofs.Common.{sym, ap, ◌∙◌, subst, arith, eq-eqb, ne_eqb, eqb-true}
use Rattle.std.proofs.lemmas.Bool.{eqb-false}
use Rattle.nodeset.specs.Sets.{singleton, highest, difference, all_below}
use Rattle.nodeset.specs.Subsets.{non_empty_subsets, singletons, next_subset}
use Rattle.nodeset.specs.SubsetLaws.{Steps}
use Rattle.nodeset.proofs.SubsetLaws.{subsets_steps, next_last}
use Rattle.nodeset.proofs.SingletonLaws.{singletons_step, rest_less, singletons_none}
use Rattle.definition.specs.Walk.{each}

-- ---- what comes next in a loop of the search, with a stop number that is 0 until it has stopped: 0, its end, also where it has

-- the subset of s after t
unfoldable pub subset_after : ℕ → ℕ → ℕ → ℕ
subset_after s t stop = elim (eqb stop 0) [ true ↦ next_subset s t | false ↦ 0 ]

-- the leaves left of s without those of v
unfoldable pub leaves_after : ℕ → ℕ → ℕ → ℕ
leaves_after s v stop = elim (eqb stop 0) [ true ↦ difference s v | false ↦ 0 ]

-- how many leaves are left to do
unfoldable pub count_after : ℕ → ℕ → ℕ
count_after j stop = elim (eqb stop 0) [ true ↦ j | false ↦ 0 ]

pub subset_go : (s t stop : ℕ) → stop ≡ 0 → next_subset s t ≡ subset_after s t stop
unfolding subset_after
subset_go s t stop h = rw (eq-eqb stop 0 h, subset_after)

pub subset_stop : (s t stop : ℕ) → (stop ≡ 0 → ⊥) → 0 ≡ subset_after s t stop
unfolding subset_after
subset_stop s t stop h = rw (ne_eqb stop 0 h, subset_after)

pub leaves_go : (s v stop : ℕ) → stop ≡ 0 → difference s v ≡ leaves_after s v stop
unfolding leaves_after
leaves_go s v stop h = rw (eq-eqb stop 0 h, leaves_after)

pub leaves_stop : (s v stop : ℕ) → (stop ≡ 0 → ⊥) → 0 ≡ leaves_after s v stop
unfolding leaves_after
leaves_stop s v stop h = rw (ne_eqb stop 0 h, leaves_after)

pub count_go : (j stop : ℕ) → stop ≡ 0 → j ≡ count_after j stop
unfolding count_after
count_go j stop h = rw (eq-eqb stop 0 h, count_after)

pub count_stop : (j stop : ℕ) → (stop ≡ 0 → ⊥) → 0 ≡ count_after j stop
unfolding count_after
count_stop j stop h = rw (ne_eqb stop 0 h, count_after)

pub count_le : (j stop : ℕ) → count_after j stop ≤ j
count_le j stop = go (eqb stop 0) refl
  where
    go : (b : Bool) → eqb stop 0 ≡ b → count_after j stop ≤ j
    go true q = omega (arith, count_go j stop (eqb-true _ _ q))
    go false q = omega (arith, count_stop j stop (eqb-false _ _ q))

-- ---- the subsets

-- at t, with these subsets yet to come, t the first of them; 0 when there are none
abbrev pub At : ℕ → ℕ → List ℕ → Type 0
At s t [] = t ≡ 0
At s t (u ∷ r) = (u ≡ t) × (0 < t) × (t ≤ s) × Steps s t r

pub at_next : (s t : ℕ) (r : List ℕ) → s < 2 ^ 64 → Steps s t r → At s (next_subset s t) r
at_next s t [] h p = ap (next_subset s) p ∙ next_last s h
at_next s t (v ∷ r) h p =
    (sym p.2, omega (arith, p.0, p.2), omega (arith, p.1, p.2), subst (λ (x : ℕ). Steps s x r) (sym p.2) p.3)

-- how far the loop has to go: 0 at the end
pub far : ℕ → ℕ → ℕ
far s zero = 0
far s (suc t) = suc (s - suc t)

pub far_up : (s t v : ℕ) → (v ≡ 0 → ⊥) → t < v → v ≤ s → (t ≡ 0 → ⊥) → far s v < far s t
unfolding far
far_up s zero v f l h g = absurd (g refl)
far_up s (suc t) zero f l h g = absurd (f refl)
far_up s (suc t) (suc v) f l h g = omega arith

pub far_zero : (s t v : ℕ) → v ≡ 0 → (t ≡ 0 → ⊥) → far s v < far s t
unfolding far
far_zero s zero v e g = absurd (g refl)
far_zero s (suc t) v e g = rw e (omega arith)

module _ {S : Type 0} (stop : S → ℕ) where
  -- f over the subsets that are left, from here, gives the whole
  pub record Passing (f : ℕ → S → S) (s : ℕ) (whole : S) (t : ℕ) (st : S) : Type 0 where
    pub rest : List ℕ
    pub place : At s t rest
    pub does : each f rest st ≡ whole

  abbrev pub Frozen : (S → S) → Type 0
  Frozen f = (st : S) → (stop st ≡ 0 → ⊥) → f st ≡ st

  pub each_frozen : (f : ℕ → S → S) → ((t : ℕ) → Frozen (f t)) → (ts : List ℕ) → Frozen (each f ts)
  each_frozen f z [] st h = refl
  each_frozen f z (t ∷ ts) st h = ap (each f ts) (z t st h) ∙ each_frozen f z ts st h

  module _ (f : ℕ → S → S) (frozen : (t : ℕ) → Frozen (f t)) (s : ℕ) (hs : s < 2 ^ 64) where
    resume : (whole : S) (t : ℕ) (r : List ℕ) (st : S) → Steps s t r → each f r st ≡ whole → Passing f s whole (subset_after s t (stop st)) st
    resume whole t r st p w = go (eqb (stop st) 0) refl
      where
        go : (b : Bool) → eqb (stop st) 0 ≡ b → Passing f s whole (subset_after s t (stop st)) st
        go true e = rw (← subset_go s t (stop st) (eqb-true _ _ e)) record { rest = r; place = at_next s t r hs p; does = w }
        go false e =
            rw (← subset_stop s t (stop st) (eqb-false _ _ e))
            record { rest = []; place = refl; does = sym (each_frozen f frozen r st (eqb-false _ _ e)) ∙ w }

    pub passing_start : (st : S) (t : ℕ) → t ≡ subset_after s 0 (stop st) → Passing f s (each f (non_empty_subsets s) st) t st
    passing_start st t e = rw e (resume (each f (non_empty_subsets s) st) 0 (non_empty_subsets s) st (subsets_steps s hs) refl)

    pub passing_next : {whole : S} {t : ℕ} {st : S} (u : S) (t' : ℕ) → Passing f s whole t st → (t ≡ 0 → ⊥) → u ≡ f t st
        → t' ≡ subset_after s t (stop u) → Passing f s whole t' u
    passing_next {whole} {t} {st} u t' p h e d = go p.rest p.place p.does
      where
        go : (r : List ℕ) → At s t r → each f r st ≡ whole → Passing f s whole t' u
        go [] a w = absurd (h a)
        go (x ∷ r) a w = rw d (resume whole t r u a.3 (ap (each f r) (e ∙ ap (λ (y : ℕ). f y st) (sym a.0)) ∙ w))

    pub passing_less : {whole : S} {t : ℕ} {st : S} (z t' : ℕ) → Passing f s whole t st → (t ≡ 0 → ⊥) → t' ≡ subset_after s t z → far s t' < far s t
    passing_less {whole} {t} {st} z t' p h d = rw d (go p.rest p.place (eqb z 0) refl)
      where
        next_far : (r : List ℕ) → At s (next_subset s t) r → Steps s t r → far s (next_subset s t) < far s t
        next_far [] a q = far_zero s t (next_subset s t) a h
        next_far (y ∷ r) a q =
            let up : t < next_subset s t = omega (arith, q.0, q.2) in
            far_up s t (next_subset s t) (λ k. omega (arith, a.1)) up a.2 h

        go : (r : List ℕ) → At s t r → (b : Bool) → eqb z 0 ≡ b → far s (subset_after s t z) < far s t
        go [] a b e = absurd (h a)
        go (x ∷ r) a true e = rw (← subset_go s t z (eqb-true _ _ e)) (next_far r (at_next s t r hs a.3) a.3)
        go (x ∷ r) a false e = rw (← subset_stop s t z (eqb-false _ _ e)) (far_zero s t 0 refl h)

  pub passing_end : {f : ℕ → S → S} {s : ℕ} {whole : S} {t : ℕ} {st : S} → Passing f s whole t st → t ≡ 0 → st ≡ whole
  passing_end {f} {s} {whole} {t} {st} p h = go p.rest p.place p.does
    where
      go : (r : List ℕ) → At s t r → each f r st ≡ whole → st ≡ whole
      go [] a w = w
      go (x ∷ r) a w = absurd (omega (arith, a.1))

-- ---- the leaves of a set, from the highest down

pub leaves_less : (v b stop : ℕ) → 0 < v → v < 2 ^ 64 → b ≡ singleton (highest v) → leaves_after v b stop < v
leaves_less v b stop p h e = go (eqb stop 0) refl
  where
    go : (t : Bool) → eqb stop 0 ≡ t → leaves_after v b stop < v
    go true q = subst (λ (x : ℕ). x < v) (leaves_go v b stop (eqb-true _ _ q)) (subst (λ (x : ℕ). difference v x < v) (sym e) (rest_less v p h))
    go false q = subst (λ (x : ℕ). x < v) (leaves_stop v b stop (eqb-false _ _ q)) p

module _ {S : Type 0} (stop : S → ℕ) (f : ℕ → S → S) (frozen : (t : ℕ) → Frozen stop (f t)) where
  pub falling_next : {whole st : S} (u : S) {v : ℕ} (b v' : ℕ) → each f (singletons v) st ≡ whole → 0 < v → v < 2 ^ 64 → b ≡ singleton (highest v)
      → u ≡ f b st → v' ≡ leaves_after v b (stop u) → each f (singletons v') u ≡ whole
  falling_next {whole} {st} u {v} b v' w p h eb eu ev = ap (λ (x : ℕ). each f (singletons x) u) ev ∙ go (eqb (stop u) 0) refl
    where
      rest : each f (singletons (difference v b)) u ≡ whole
      rest =
          ap (each f (singletons (difference v b))) eu
          ∙ ap (λ (x : ℕ). each f (singletons (difference v x)) (f x st)) eb
          ∙ ap (λ (l : List ℕ). each f l st) (sym (singletons_step v p h))
          ∙ w

      go : (t : Bool) → eqb (stop u) 0 ≡ t → each f (singletons (leaves_after v b (stop u))) u ≡ whole
      go true q = ap (λ (x : ℕ). each f (singletons x) u) (sym (leaves_go v b (stop u) (eqb-true _ _ q))) ∙ rest
      go false q =
          ap (λ (x : ℕ). each f (singletons x) u) (sym (leaves_stop v b (stop u) (eqb-false _ _ q)))
          ∙ ap (λ (l : List ℕ). each f l u) singletons_none
          ∙ sym (each_frozen stop f frozen (singletons (difference v b)) u (eqb-false _ _ q))
          ∙ rest

  pub falling_end : {whole st : S} {v : ℕ} → each f (singletons v) st ≡ whole → v ≡ 0 → st ≡ whole
  falling_end {whole} {st} {v} w e =
      sym (ap (λ (l : List ℕ). each f l st) singletons_none) ∙ ap (λ (x : ℕ). each f (singletons x) st) (sym e) ∙ w

-- ---- the leaves of the question: `from k` does the first k

module _ {S : Type 0} (stop : S → ℕ) (leaf : ℕ → ℕ → S → S) (from : ℕ → S → S) (frozen : (k : ℕ) → Frozen stop (from k))
    (from_zero : (st : S) → from 0 st ≡ st)
    (from_suc : (v : ℕ) (st : S) → from (suc v) st ≡ from v (leaf (singleton v) (all_below (suc v)) st)) where
  pub count_next : {whole st : S} (u : S) (k a x k' : ℕ) → from k st ≡ whole → (k ≡ 0 → ⊥) → a ≡ singleton (k - 1) → x ≡ all_below k → u ≡ leaf a x st
      → k' ≡ count_after (k - 1) (stop u) → from k' u ≡ whole
  count_next {whole} {st} u zero a x k' w p ea ex eu ek = absurd (p refl)
  count_next {whole} {st} u (suc k) a x k' w p ea ex eu ek = ap (λ (z : ℕ). from z u) ek ∙ go (eqb (stop u) 0) refl
    where
      less : suc k - 1 ≡ k
      less = omega arith

      rest : from (suc k - 1) u ≡ whole
      rest =
          ap (λ (z : ℕ). from z u) less
          ∙ ap (from k) (eu ∙ ap (λ (z : ℕ). leaf z x st) (ea ∙ ap singleton less) ∙ ap (λ (z : ℕ). leaf (singleton k) z st) ex)
          ∙ sym (from_suc k st)
          ∙ w

      go : (b : Bool) → eqb (stop u) 0 ≡ b → from (count_after (suc k - 1) (stop u)) u ≡ whole
      go true q = ap (λ (z : ℕ). from z u) (sym (count_go (suc k - 1) (stop u) (eqb-true _ _ q))) ∙ rest
      go false q =
          ap (λ (z : ℕ). from z u) (sym (count_stop (suc k - 1) (stop u) (eqb-false _ _ q)))
          ∙ from_zero u
          ∙ sym (frozen (suc k - 1) u (eqb-false _ _ q))
          ∙ rest

  pub count_end : {whole st : S} {k : ℕ} → from k st ≡ whole → k ≡ 0 → st ≡ whole
  count_end {whole} {st} {k} w e = sym (from_zero st) ∙ ap (λ (z : ℕ). from z st) (sym e) ∙ w
