-- One candidate more: what was kept before stays defined, a pair that qualifies is made, and what is kept after it. Assumes nothing.
use Rattle.std.specs.Prelude.{◌≡◌, refl, ◌⊎◌, false, List, [], ◌∷◌, ◌++◌, ℕ, suc, ◌+◌, ◌≤◌, ◌<◌, length, eqb}
use Rattle.std.proofs.Common.{sym, ap, ◌∙◌, subst, inl, inr, true≢false, le_refl, lt_of_lt_of_le, le_of_suc-le-suc, eq-or-lt_of_le, add-one, arith, length-append, eq-eqb, ne_eqb}
use Rattle.std.proofs.Math.ListN.{get_or-append}
use Rattle.std.proofs.lemmas.List.{get_or_at, take-append-le}
use Rattle.std.proofs.Math.Seq.{get_or-append_seam}
use Rattle.definition.specs.EstimateOrder.{Earliest, AtLeast, MoreThan}
use Rattle.definition.proofs.EstimateOrderLaws.{earliest_same, earliest_skip, earliest_keep, earliest_last, earliest_replace}
use Rattle.definition.specs.Search.{plan_of, Plan, Pair, Input, absent}
use Rattle.definition.specs.Kept.{pair_of, estimate_of, union, made_for, Several, KeptAfter, single, larger, Qualifies, Made, Candidates}
use Rattle.definition.proofs.KeptLaws.{kept_below, single_not_several}

pub length_more : {A : Type 0} (l : List A) (x : A) → length (l ++ (x ∷ [])) ≡ suc (length l)
length_more l x = length-append l (x ∷ []) ∙ add-one (length l)

module _ (n : ℕ) (ts : List Pair) (ps : List Plan) (size : length ps ≡ n + length ts) (t : Pair) (q : Plan) where
  pair_old : (k : ℕ) → k < length ts → pair_of (ts ++ (t ∷ [])) k ≡ pair_of ts k
  pair_old k h = get_or-append ts (t ∷ []) _ k h

  pub pair_new : pair_of (ts ++ (t ∷ [])) (length ts) ≡ t
  pair_new = get_or-append_seam ts t [] _

  plan_old : (p : ℕ) → p < length ps → plan_of (ps ++ (q ∷ [])) p ≡ plan_of ps p
  plan_old p h = get_or-append ps (q ∷ []) absent p h

  pub plan_new : plan_of (ps ++ (q ∷ [])) (n + length ts) ≡ q
  plan_new = get_or_at ps q [] absent (n + length ts) size

  -- what is kept after k candidates depends on these alone
  earliest_grows : (s k j : ℕ) → k ≤ length ts → Earliest (estimate_of n ps) (made_for ts s) k j → Earliest (estimate_of n (ps ++ (q ∷ []))) (made_for (ts ++ (t ∷ [])) s) k j
  earliest_grows s k j l =
      earliest_same (estimate_of n ps) (estimate_of n (ps ++ (q ∷ []))) (made_for ts s) (made_for (ts ++ (t ∷ [])) s) k j
      (λ x h. ap (λ (p : Plan). p.estimate) (sym (plan_old (n + x) (omega arith))))
      (λ x h. ap (λ (p : Pair). eqb (union p) s) (sym (pair_old x (lt_of_lt_of_le h l))))

  kept_grows : (k s p : ℕ) → k ≤ length ts → KeptAfter n ts ps k s p → KeptAfter n (ts ++ (t ∷ [])) (ps ++ (q ∷ [])) k s p
  kept_grows k s p l (single h e) = single h e
  kept_grows k s p l (larger v j e b) = larger v j e (earliest_grows s k j l b)

  -- whether the new one is made for s
  for_set : (s : ℕ) → made_for (ts ++ (t ∷ [])) s (length ts) ≡ eqb (union t) s
  for_set s = ap (λ (p : Pair). eqb (union p) s) pair_new

  pub kept_other : (s p : ℕ) → (union t ≡ s → ⊥) → KeptAfter n ts ps (length ts) s p → KeptAfter n (ts ++ (t ∷ [])) (ps ++ (q ∷ [])) (suc (length ts)) s p
  kept_other s p d (single h e) = single h e
  kept_other s p d (larger v j e b) =
      larger v j e (earliest_skip _ (made_for (ts ++ (t ∷ [])) s) (length ts) j (for_set s ∙ ne_eqb (union t) s d) (earliest_grows s (length ts) j (le_refl _) b))

  pub for_other : (s : ℕ) → (union t ≡ s → ⊥) → ((k : ℕ) → k < length ts → made_for ts s k ≡ false) → (k : ℕ) → k < suc (length ts) → made_for (ts ++ (t ∷ [])) s k ≡ false
  for_other s d f k h = elim (eq-or-lt_of_le (le_of_suc-le-suc h)) [
    | inl e ↦ ap (made_for (ts ++ (t ∷ [])) s) e ∙ for_set s ∙ ne_eqb (union t) s d
    | inr l ↦ ap (λ (p : Pair). eqb (union p) s) (pair_old k l) ∙ f k l
  ]

  module _ (v : Several (union t)) where
    -- the first of its set is kept
    pub kept_first : ((k : ℕ) → k < length ts → made_for ts (union t) k ≡ false) → KeptAfter n (ts ++ (t ∷ [])) (ps ++ (q ∷ [])) (suc (length ts)) (union t) (n + length ts)
    kept_first f =
        larger v (length ts) refl
        (earliest_last (estimate_of n (ps ++ (q ∷ []))) (made_for (ts ++ (t ∷ [])) (union t)) (length ts) (for_set (union t) ∙ eq-eqb (union t) (union t) refl)
        (λ k l e. absurd (true≢false (sym e ∙ ap (λ (p : Pair). eqb (union p) (union t)) (pair_old k l) ∙ f k l))))

    old_cost : (j : ℕ) → j < length ts → estimate_of n (ps ++ (q ∷ [])) j ≡ estimate_of n ps j
    old_cost j h = ap (λ (p : Plan). p.estimate) (plan_old (n + j) (omega arith))

    new_cost : estimate_of n (ps ++ (q ∷ [])) (length ts) ≡ q.estimate
    new_cost = ap (λ (p : Plan). p.estimate) plan_new

    -- then it takes the place of a costlier one, and not of one that costs as much or less
    pub kept-cheaper : (o : ℕ) → KeptAfter n ts ps (length ts) (union t) o → MoreThan (plan_of ps o).estimate.cost q.estimate.cost
        → KeptAfter n (ts ++ (t ∷ [])) (ps ++ (q ∷ [])) (suc (length ts)) (union t) (n + length ts)
    kept-cheaper o (single h e) c = absurd (single_not_several o (subst Several e v))
    kept-cheaper o (larger w j e b) c =
        larger v (length ts) refl
        (earliest_replace (estimate_of n (ps ++ (q ∷ []))) (made_for (ts ++ (t ∷ [])) (union t)) (length ts) j (for_set (union t) ∙ eq-eqb (union t) (union t) refl)
        (rw (old_cost j b.within, new_cost) (subst (λ (x : ℕ). MoreThan (plan_of ps x).estimate.cost q.estimate.cost) e c))
        (earliest_grows (union t) (length ts) j (le_refl _) b))

    pub kept_dearer : (o : ℕ) → KeptAfter n ts ps (length ts) (union t) o → AtLeast q.estimate.cost (plan_of ps o).estimate.cost
        → KeptAfter n (ts ++ (t ∷ [])) (ps ++ (q ∷ [])) (suc (length ts)) (union t) o
    kept_dearer o (single h e) c = absurd (single_not_several o (subst Several e v))
    kept_dearer o (larger w j e b) c =
        larger v j e
        (earliest_keep (estimate_of n (ps ++ (q ∷ []))) (made_for (ts ++ (t ∷ [])) (union t)) (length ts) j
        (rw (old_cost j b.within, new_cost) (subst (λ (x : ℕ). AtLeast q.estimate.cost (plan_of ps x).estimate.cost) e c))
        (earliest_grows (union t) (length ts) j (le_refl _) b))

-- a pair that qualifies, made into a plan, gives a list of candidates again
module _ (i : Input) (ts : List Pair) (ps : List Plan) (c : Candidates i ts ps) (t : Pair) (q : Plan)
    (new : Qualifies i.edges (length i.leaves) ts ps (length ts) t q) (made : Made i ps t q) where
  qualifies_grows : (k : ℕ) (u : Pair) (p : Plan) → k ≤ length ts → Qualifies i.edges (length i.leaves) ts ps k u p
      → Qualifies i.edges (length i.leaves) (ts ++ (t ∷ [])) (ps ++ (q ∷ [])) k u p
  qualifies_grows k u p l h =
      let grows = kept_grows (length i.leaves) ts ps c.count t q k in
      record { apart = h.apart; left = grows _ _ l h.left; right = grows _ _ l h.right; edge = h.edge }

  made_grows : (k : ℕ) (u : Pair) (p : Plan) → k ≤ length ts → Qualifies i.edges (length i.leaves) ts ps k u p → Made i ps u p → Made i (ps ++ (q ∷ [])) u p
  made_grows k u p l h m =
      let old = plan_old (length i.leaves) ts ps c.count t q in
      let size = c.count in
      let x = kept_below h.left in
      let y = kept_below h.right in
      let old_left = old p.left (omega arith) in
      let old_right = old p.right (omega arith) in
      record {
        taken = m.taken;
        connection = rw (old_left, old_right) m.connection;
        set = m.set;
        lead = m.lead;
        kind = m.kind;
        estimate = rw (old_left, old_right) m.estimate;
      }

  -- a fact of each candidate and of the one more
  each_more : (P : ℕ → Pair → Plan → Type 0) → ((k : ℕ) → k < length ts → P k (pair_of ts k) (plan_of ps (length i.leaves + k))) → P (length ts) t q
      → (k : ℕ) → k < length (ts ++ (t ∷ [])) → P k (pair_of (ts ++ (t ∷ [])) k) (plan_of (ps ++ (q ∷ [])) (length i.leaves + k))
  each_more P f g k h = go (eq-or-lt_of_le (le_of_suc-le-suc (subst (λ (x : ℕ). k < x) (length_more ts t) h)))
    where
      n : ℕ
      n = length i.leaves

      go : (k ≡ length ts) ⊎ (k < length ts) → P k (pair_of (ts ++ (t ∷ [])) k) (plan_of (ps ++ (q ∷ [])) (length i.leaves + k))
      go (inl e) = rw (e, pair_new n ts ps c.count t q, plan_new n ts ps c.count t q) g
      go (inr l) = rw (pair_old n ts ps c.count t q k l, plan_old n ts ps c.count t q (length i.leaves + k) (omega (arith, c.count))) (f k l)

  pub candidates_more : Candidates i (ts ++ (t ∷ [])) (ps ++ (q ∷ []))
  candidates_more =
      record {
        count = omega (arith, length_more ts t, length_more ps q, c.count);
        leaves = take-append-le (length i.leaves) ps (q ∷ []) (omega (arith, c.count)) ∙ c.leaves;
        qualify =
            each_more (Qualifies i.edges (length i.leaves) (ts ++ (t ∷ [])) (ps ++ (q ∷ []))) (λ k h. qualifies_grows k _ _ (omega arith) (c.qualify k h))
            (qualifies_grows (length ts) t q (le_refl _) new);
        made =
            each_more (λ k u p. Made i (ps ++ (q ∷ [])) u p) (λ k h. made_grows k _ _ (omega arith) (c.qualify k h) (c.made k h))
            (made_grows (length ts) t q (le_refl _) new made);
      }
