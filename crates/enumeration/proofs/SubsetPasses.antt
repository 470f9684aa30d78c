-- The one law of `enumerate_cmp_rec` and `enumerate_csg_rec`: each is two passes over the nonempty subsets of a neighborhood, of which the second is
-- the function itself, one level deeper, after a visit of each subset. Over any state. Assumes nothing.
use Rattle.std.specs.Prelude.{◌≡◌, refl, ℕ, zero, suc, ◌-◌, List, [], ◌∷◌}
use Rattle.std.proofs.Common.{sym, ap, ◌∙◌, subst, arith}
use Rattle.std.specs.Int.Bits.{bit_or}
use Rattle.nodeset.specs.Subsets.{subsets_of, non_empty_subsets}
use Rattle.definition.specs.Walk.{each}

-- ---- what holds of each step

pub record Preorder {S : Type 0} (R : S → S → Type 0) : Type 0 where
  pub same : (st : S) → R st st
  pub then : {a b c : S} → R a b → R b c → R a c

pub each_keeps : {A S : Type 0} {R : S → S → Type 0} → Preorder R → (f : A → S → S) → ((a : A) (st : S) → R st (f a st))
    → (l : List A) (st : S) → R st (each f l st)
each_keeps o f h [] st = o.same st
each_keeps o f h (a ∷ l) st = o.then (h a st) (each_keeps o f h l (f a st))

-- ---- the two passes

module _ {S : Type 0} (visit : S → S) (neighbors : ℕ → ℕ → ℕ) where
  -- one subset t in the second pass, where y is excluded
  abbrev pub again : (ℕ → ℕ → ℕ → S → S) → ℕ → ℕ → ℕ → ℕ → S → S
  again from d s y t st = from d (bit_or s t) y (visit st)

  -- `from d s x` is the two passes; first: one subset in the first
  pub record TwoPass (first : ℕ → ℕ → S → S) (from : ℕ → ℕ → ℕ → S → S) : Type 0 where
    pub none : (s x : ℕ) (st : S) → from 0 s x st ≡ st
    pub both : (d s x : ℕ) (st : S)
        → let ts = non_empty_subsets (neighbors s x) in
        from (suc d) s x st ≡ each (again from d s (bit_or x (neighbors s x))) ts (each (first s) ts st)

  module _ {first : ℕ → ℕ → S → S} {from : ℕ → ℕ → ℕ → S → S} (two : TwoPass first from) where
    pub two_none : (d s x : ℕ) (st : S) → d ≡ 0 → st ≡ from d s x st
    two_none zero s x st e = sym (two.none s x st)
    two_none (suc d) s x st e = absurd (omega arith)

    -- without a neighbour there is no subset
    pub two_empty : (d s x : ℕ) (st : S) → neighbors s x ≡ 0 → st ≡ from d s x st
    unfolding non_empty_subsets subsets_of
    two_empty zero s x st e = sym (two.none s x st)
    two_empty (suc d) s x st e =
        sym
        (two.both d s x st
        ∙ ap (λ (n : ℕ). each (again from d s (bit_or x n)) (non_empty_subsets n) (each (first s) (non_empty_subsets n) st)) e)

    -- u after the first pass
    pub two_both : (d s x m y : ℕ) (st u : S) → (d ≡ 0 → ⊥) → m ≡ neighbors s x → y ≡ bit_or x m → u ≡ each (first s) (non_empty_subsets m) st
        → each (again from (d - 1) s y) (non_empty_subsets m) u ≡ from d s x st
    two_both zero s x m y st u h em ey e = absurd (h refl)
    two_both (suc d) s x m y st u h em ey e =
        let z : suc d - 1 ≡ d = omega arith in
        rw (z, e, ey, em, two.both d s x st)

    -- one subset of the second pass, v after its visit, where the set with it has no neighbours
    pub again_empty : (d s y t : ℕ) (st : S) {v : S} {n : ℕ} → v ≡ visit st → n ≡ neighbors (bit_or s t) y → n ≡ 0 → v ≡ again from d s y t st
    again_empty d s y t st ev en z = ev ∙ two_empty d (bit_or s t) y (visit st) (sym en ∙ z)

    -- what holds of each step of both passes holds of the whole
    module _ {R : S → S → Type 0} (o : Preorder R) (visit_keeps : (st : S) → R st (visit st)) (first_keeps : (s t : ℕ) (st : S) → R st (first s t st)) where
      pub two_keeps : (d s x : ℕ) (st : S) → R st (from d s x st)
      two_keeps zero s x st = subst (R st) (sym (two.none s x st)) (o.same st)
      two_keeps (suc d) s x st =
          let n = neighbors s x in
          let ts = non_empty_subsets n in
          let last : (t : ℕ) (u : S) → R u (again from d s (bit_or x n) t u) =
          λ t u. o.then (visit_keeps u) (two_keeps d (bit_or s t) (bit_or x n) (visit u)) in
          subst (R st) (sym (two.both d s x st)) (o.then (each_keeps o (first s) (first_keeps s) ts st) (each_keeps o _ last ts (each (first s) ts st)))

      pub again_keeps : (d s y t : ℕ) (st : S) → R st (again from d s y t st)
      again_keeps d s y t st = o.then (visit_keeps st) (two_keeps d (bit_or s t) y (visit st))
