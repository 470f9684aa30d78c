-- What any list of candidates that qualify gives: each plan joins every leaf of its set once, has a connecting edge at each join, and its rows
-- and cost are finite and not negative; at most one plan is kept for a set. Assumes nothing.
use Rattle.std.specs.Prelude.{◌≡◌, refl, ◌⊎◌, Bool, true, false, List, [], ◌∷◌, ◌++◌, map, ℕ, zero, suc, ◌+◌, ◌-◌, ◌*◌, ◌^◌, ◌≤◌, ◌<◌, length, get_or, drop, eqb}
use Rattle.std.proofs.Common.{sym, ap, ap₂, ◌∙◌, subst, inl, inr, true≢false, le_refl, le_trans, le-add_right, lt_of_lt_of_le, lt_of_not-le, not-suc-le-zero, le_of_suc-le-suc, le_antisymm, lt_irrefl, arith, length-drop, get_or-take, get_or-drop, ext_get_or, pow_pos, eqb-true, eq-eqb}
use Rattle.std.proofs.Math.Option.{Option, none, some}
use Rattle.std.proofs.Math.Nat.{le-suc}
use Rattle.std.proofs.Math.Decide.{dec_le}
use Rattle.std.proofs.lemmas.List.{length-map}
use Rattle.std.proofs.Math.Pow.{pow-lt}
use Rattle.std.specs.Int.Bits.{bit_or}
use Rattle.std.proofs.lemmas.Nat.{or_lt, ones_cat, ones-le}
use Rattle.std.specs.Int.Count.{ones, ones_in}
use Rattle.std.proofs.lemmas.Bool.{eqb-false}
use Rattle.nodeset.specs.Sets.{bit, singleton}
use Rattle.nodeset.specs.SetLaws.{Apart, bit-lt, bit-or, bit_one, bit_one_other, bit_one_cases, bit_empty, singleton_is, singleton_none}
use Rattle.nodeset.specs.SubsetLaws.{All}
use Rattle.definition.specs.Hypergraph.{connecting}
use Rattle.definition.proofs.TakenLaws.{taken_from}
use Rattle.definition.proofs.EstimateOrderLaws.{kept, earliest_unique, KeepsEarliest, kept_earliest}
use Rattle.definition.specs.EstimateBounds.{Bounded}
use Rattle.definition.proofs.EstimateBoundsLaws.{leaf_bounded, candidate_bounded, selectivities_of_lem}
use Rattle.definition.proofs.Depth.{ones_or}
use Rattle.definition.specs.Search.{plan_of, Leaf, Plan, Pair, Input, absent, leaf_plans}
use Rattle.definition.specs.Kept.{pair_of, estimate_of, union, made_for, Several, KeptAfter, single, larger, Candidates, Meets, occurs, JoinsOnce, EdgeAtEachJoin}
use Rattle.definition.specs.PlanRule.{WithinLimits, Finite, pair_in, pairs_in}

-- ---- sets

union_several : (a b x y : ℕ) → Apart a b → bit a x ≡ 1 → bit b y ≡ 1 → Several (bit_or a b)
union_several a b x y d h k =
    record { one = x; other = y; distinct = λ e. clash (subst (λ (z : ℕ). bit b z ≡ 1) (sym e) k); has_one = omega (arith, bit-or a b x, d x); has_other = omega (arith, bit-or a b y, d y) }
  where
    clash : bit b x ≡ 1 → ⊥
    clash k = omega (arith, d x)

pub single_not_several : (p : ℕ) → Several (singleton p) → ⊥
single_not_several p v = go (dec_le 64 p)
  where
    go : Dec (64 ≤ p) → ⊥
    go (yes h) =
        let e : bit 0 v.one ≡ 1 = subst (λ (s : ℕ). bit s v.one ≡ 1) (singleton_none p h) v.has_one in
        omega (arith, bit_empty v.one)
    go (no h) =
        let q = singleton_is p (lt_of_not-le h) in
        let e : bit (2 ^ p) v.one ≡ 1 = subst (λ (s : ℕ). bit s v.one ≡ 1) q v.has_one in
        let f : bit (2 ^ p) v.other ≡ 1 = subst (λ (s : ℕ). bit s v.other ≡ 1) q v.has_other in
        far e f (bit_one_cases p v.one) (bit_one_cases p v.other)
      where
        far : bit (2 ^ p) v.one ≡ 1 → bit (2 ^ p) v.other ≡ 1 → (bit (2 ^ p) v.one ≡ 0) ⊎ (p ≡ v.one) → (bit (2 ^ p) v.other ≡ 0) ⊎ (p ≡ v.other) → ⊥
        far e f (inl x) w = omega arith
        far e f (inr x) (inl y) = omega arith
        far e f (inr x) (inr y) = v.distinct (sym x ∙ y)

pub singleton_inj : (a b : ℕ) → a < 64 → b < 64 → singleton a ≡ singleton b → a ≡ b
singleton_inj a b h k e = le_antisymm (pow-le a b q) (pow-le b a (sym q))
  where
    q : 2 ^ a ≡ 2 ^ b
    q = sym (singleton_is a h) ∙ e ∙ singleton_is b k

    pow-le : (a b : ℕ) → 2 ^ a ≡ 2 ^ b → a ≤ b
    pow-le a b e = elim (dec_le a b) [ yes l ↦ l | no n ↦ absurd (lt_irrefl (2 ^ b) (subst (λ (x : ℕ). 2 ^ b < x) e (pow-lt (lt_of_not-le n)))) ]

ones_single : (p : ℕ) → ones (2 ^ p) ≡ 1
unfolding ones ones_in
ones_single p =
    let e : 2 ^ p ≡ 1 * 2 ^ p + 0 = omega arith in
    ap ones e ∙ ones_cat p 1 0 (pow_pos p)

-- ---- leaves

pub leaf_plans-set : (n : ℕ) (ls : List Leaf) (m : ℕ) → m < length ls → (get_or (leaf_plans n ls) m absent).set ≡ singleton (n + m)
unfolding leaf_plans
leaf_plans-set n [] m h = absurd (not-suc-le-zero h)
leaf_plans-set n (l ∷ ls) zero h = ap singleton (omega arith)
leaf_plans-set n (l ∷ ls) (suc m) h = leaf_plans-set (suc n) ls m (le_of_suc-le-suc h) ∙ ap singleton (omega arith)

leaf_plans_bounded : (n : ℕ) (ls : List Leaf) (m : ℕ) → m < length ls → All (λ (l : Leaf). (l.rows ≤ 2 ^ 48) × (l.columns ≤ 4096)) ls
    → Bounded 1 (get_or (leaf_plans n ls) m absent).estimate
unfolding leaf_plans
leaf_plans_bounded n [] m h w = absurd (not-suc-le-zero h)
leaf_plans_bounded n (l ∷ ls) zero h w = leaf_bounded l.rows l.columns w.0.0 w.0.1
leaf_plans_bounded n (l ∷ ls) (suc m) h w = leaf_plans_bounded (suc n) ls m (le_of_suc-le-suc h) w.1

-- ---- one plan at most is kept for a set

pub kept_below : {n : ℕ} {ts : List Pair} {ps : List Plan} {k s p : ℕ} → KeptAfter n ts ps k s p → p < n + k
kept_below (single h e) = omega arith
kept_below (larger v j e b) = omega (arith, b.within)

pub kept_unique : (n : ℕ) (ts : List Pair) (ps : List Plan) (k s p q : ℕ) → n ≤ 64 → KeptAfter n ts ps k s p → KeptAfter n ts ps k s q → p ≡ q
kept_unique n ts ps k s p q m (single h e) (single g f) = singleton_inj p q (omega arith) (omega arith) (sym e ∙ f)
kept_unique n ts ps k s p q m (single h e) (larger v j f b) = absurd (single_not_several p (subst Several e v))
kept_unique n ts ps k s p q m (larger v j f b) (single h e) = absurd (single_not_several q (subst Several e v))
kept_unique n ts ps k s p q m (larger v j e b) (larger w l f d) = e ∙ ap (λ (x : ℕ). n + x) (earliest_unique _ _ k j l b d) ∙ sym f

-- ---- the leaves met are determined by the plan

pub meets_unique : (n : ℕ) (ps : List Plan) {p : ℕ} {xs ys : List ℕ} → Meets n ps p xs → Meets n ps p ys → xs ≡ ys
meets_unique n ps (Meets.at_leaf h e) (Meets.at_leaf g f) = e ∙ sym f
meets_unique n ps (Meets.at_leaf h e) (Meets.at_join g l r s f) = absurd (omega arith)
meets_unique n ps (Meets.at_join g l r s f) (Meets.at_leaf h e) = absurd (omega arith)
meets_unique n ps (Meets.at_join g l r s e) (Meets.at_join g' l' r' s' f) = e ∙ ap₂ (λ (x y : List ℕ). x ++ y) (meets_unique n ps r r') (meets_unique n ps s s') ∙ sym f

pub occurs-append : (i : ℕ) (xs ys : List ℕ) → occurs i (xs ++ ys) ≡ occurs i xs + occurs i ys
occurs-append i [] ys = omega arith
occurs-append i (x ∷ xs) ys = omega (arith, occurs-append i xs ys)

get_or-map_in : {A B : Type 0} (f : A → B) (l : List A) (k : ℕ) (d : B) (e : A) → k < length l → get_or (map f l) k d ≡ f (get_or l k e)
get_or-map_in f [] k d e h = absurd (not-suc-le-zero h)
get_or-map_in f (x ∷ l) zero d e h = refl
get_or-map_in f (x ∷ l) (suc k) d e h = get_or-map_in f l k d e (le_of_suc-le-suc h)

-- ---- the candidates

module _ (i : Input) (ts : List Pair) (ps : List Plan) (c : Candidates i ts ps) where
  -- candidate k
  abbrev plan : ℕ → Plan
  plan k = plan_of ps (length i.leaves + k)

  leaf-plan : (p : ℕ) → p < length i.leaves → plan_of ps p ≡ plan_of (leaf_plans 0 i.leaves) p
  leaf-plan p h = sym (get_or-take (length i.leaves) ps p absent h) ∙ ap (λ (l : List Plan). plan_of l p) c.leaves

  leaf-set : (p : ℕ) → p < length i.leaves → (plan_of ps p).set ≡ singleton p
  leaf-set p h = ap (λ (q : Plan). q.set) (leaf-plan p h) ∙ leaf_plans-set 0 i.leaves p h ∙ ap singleton (omega arith)

  -- a kept plan is one of the set
  pub kept_set : (k s p : ℕ) → k ≤ length ts → KeptAfter (length i.leaves) ts ps k s p → (plan_of ps p).set ≡ s
  kept_set k s p l (single h e) = leaf-set p h ∙ sym e
  kept_set k s p l (larger v j e b) =
      ap (λ (x : ℕ). (plan_of ps x).set) e ∙ (c.made j (lt_of_lt_of_le b.within l)).set ∙ eqb-true (union (pair_of ts j)) s b.chosen

  -- what holds of the leaves, and of a candidate where it holds of its two plans, holds of every plan
  pub by_candidates : (P : ℕ → Type 0) → ((p : ℕ) → p < length i.leaves → P p)
      → ((k : ℕ) → k < length ts → P (plan k).left → P (plan k).right → P (length i.leaves + k))
      → (p : ℕ) → p < length ps → P p
  by_candidates P leaf join p h = go (suc p) p (le_refl (suc p)) h
    where
      go : (m p : ℕ) → p < m → p < length ps → P p
      go zero p l h = absurd (not-suc-le-zero l)
      go (suc m) p l h = pick (dec_le (length i.leaves) p) (go m)
        where
          pick : Dec (length i.leaves ≤ p) → ((q : ℕ) → q < m → q < length ps → P q) → P p
          pick (no g) r = leaf p (lt_of_not-le g)
          pick (yes g) r =
              let k = p - length i.leaves in
              let e : length i.leaves + k ≡ p = omega arith in
              let b : k < length ts = omega (arith, c.count) in
              let q = c.qualify k b in
              let x = kept_below q.left in
              let y = kept_below q.right in
              subst P e (join k b (r _ (omega (arith, x, c.count)) (omega (arith, x, c.count))) (r _ (omega (arith, y, c.count)) (omega (arith, y, c.count))))

  -- the sets of a candidate's two plans are the pair's
  left_set : (k : ℕ) → k < length ts → (plan_of ps (plan k).left).set ≡ (pair_of ts k).left
  left_set k h = kept_set k _ _ (le_trans (le-suc k) h) (c.qualify k h).left

  right_set : (k : ℕ) → k < length ts → (plan_of ps (plan k).right).set ≡ (pair_of ts k).right
  right_set k h = kept_set k _ _ (le_trans (le-suc k) h) (c.qualify k h).right

  there : (k : ℕ) → k < length ts → length i.leaves + k < length ps
  there k h = omega (arith, c.count)

  -- plan p joins every leaf of its own set once
  abbrev Once : ℕ → Type 0
  Once p = JoinsOnce (length i.leaves) ps (plan_of ps p).set p

  pub joins_once : length i.leaves ≤ 64 → (p : ℕ) → p < length ps → JoinsOnce (length i.leaves) ps (plan_of ps p).set p
  joins_once m = by_candidates Once leaf join
    where
      leaf : (p : ℕ) → p < length i.leaves → Once p
      leaf p h =
          record {
            leaves = p ∷ [];
            met = Meets.at_leaf h refl;
            once = λ j. subst (λ (s : ℕ). occurs j (p ∷ []) ≡ bit s j) (sym (leaf-set p h ∙ singleton_is p (omega arith))) (go j (eqb p j) refl);
          }
        where
          go : (j : ℕ) (b : Bool) → eqb p j ≡ b → elim b [ true ↦ 1 | false ↦ 0 ] + 0 ≡ bit (2 ^ p) j
          go j true e = sym (subst (λ (x : ℕ). bit (2 ^ p) x ≡ 1) (eqb-true p j e) (bit_one p))
          go j false e = sym (bit_one_other p j (eqb-false p j e))

      join : (k : ℕ) → k < length ts → Once (plan k).left → Once (plan k).right → Once (length i.leaves + k)
      join k h x y =
          record {
            leaves = x.leaves ++ y.leaves;
            met = Meets.at_join (le-add_right _ k) (there k h) x.met y.met refl;
            once = λ j.
                let t = pair_of ts k in
                let l : occurs j x.leaves ≡ bit t.left j = x.once j ∙ ap (λ (s : ℕ). bit s j) (left_set k h) in
                let r : occurs j y.leaves ≡ bit t.right j = y.once j ∙ ap (λ (s : ℕ). bit s j) (right_set k h) in
                let u : bit (plan k).set j ≡ bit (union t) j = ap (λ (s : ℕ). bit s j) (c.made k h).set in
                omega (arith, occurs-append j x.leaves y.leaves, bit-or t.left t.right j, (c.qualify k h).apart j);
          }

  pub edge-at-each-join : (p : ℕ) → p < length ps → EdgeAtEachJoin i.edges (length i.leaves) ps p
  edge-at-each-join =
      by_candidates (EdgeAtEachJoin i.edges (length i.leaves) ps) (λ p h. EdgeAtEachJoin.at_leaf h)
      (λ k h x y. EdgeAtEachJoin.at_join (le-add_right _ k) (there k h) (rw (left_set k h, right_set k h) (c.qualify k h).edge) x y)

  -- so every candidate's plan joins each leaf of the pair's two sets once, with a connecting edge at each join
  pub candidate_joins : length i.leaves ≤ 64 → (k : ℕ) → k < length ts
      → JoinsOnce (length i.leaves) ps (union (pair_of ts k)) (length i.leaves + k) × EdgeAtEachJoin i.edges (length i.leaves) ps (length i.leaves + k)
  candidate_joins m k h = (rw (← (c.made k h).set) (joins_once m _ (there k h)), edge-at-each-join _ (there k h))

  -- rows and costs, by the number of leaves in the plan's set
  abbrev InBounds : ℕ → Type 0
  InBounds p = ((plan_of ps p).set < 2 ^ 64) × Bounded (ones (plan_of ps p).set) (plan_of ps p).estimate

  bounded : WithinLimits i → (p : ℕ) → p < length ps → InBounds p
  bounded w = by_candidates InBounds leaf join
    where
      leaf : (p : ℕ) → p < length i.leaves → InBounds p
      leaf p h =
          let m : p < 64 = omega (arith, w.count) in
          let e = leaf-set p h ∙ singleton_is p m in
          rw (e, ones_single p) (pow-lt m, subst (λ (q : Plan). Bounded 1 q.estimate) (sym (leaf-plan p h)) (leaf_plans_bounded 0 i.leaves p h w.leaves))

      join : (k : ℕ) → k < length ts → InBounds (plan k).left → InBounds (plan k).right → InBounds (length i.leaves + k)
      join k h x y =
          let q = plan k in
          let l = plan_of ps q.left in
          let r = plan_of ps q.right in
          let d : Apart l.set r.set = rw (left_set k h, right_set k h) (c.qualify k h).apart in
          let e : q.set ≡ bit_or l.set r.set = (c.made k h).set ∙ ap₂ bit_or (sym (left_set k h)) (sym (right_set k h)) in
          let small : bit_or l.set r.set < 2 ^ 64 = or_lt 64 l.set r.set x.0 y.0 in
          let o = ones_or l.set r.set d in
          let t = pair_of ts k in
          let taken = taken_from i.edges i.kinds i.selectivities _ (connecting i.edges t.left t.right) _ (c.made k h).connection in
          rw (e, o, (c.made k h).estimate, taken.rows)
          (small, candidate_bounded q.kind l.estimate r.estimate _ (ones l.set) (ones r.set) x.1 y.1 (selectivities_of_lem i.edges i.selectivities _ w.selectivities) (omega (arith, ones-le 64 (bit_or l.set r.set) small, o)))

  pub all_finite : WithinLimits i → (p : ℕ) → p < length ps → Finite (plan_of ps p)
  all_finite w p h = let b = (bounded w p h).1 in record { rows = b.rows; cost = b.cost.sign }

  -- a plan's set has a leaf
  some_leaf : length i.leaves ≤ 64 → (p : ℕ) → p < length ps → (x : ℕ) × (bit (plan_of ps p).set x ≡ 1)
  some_leaf m =
      by_candidates (λ p. (x : ℕ) × (bit (plan_of ps p).set x ≡ 1)) (λ p h. (p, ap (λ (s : ℕ). bit s p) (leaf-set p h ∙ singleton_is p (omega arith)) ∙ bit_one p))
      (λ k h x y.
      let t = pair_of ts k in
      let a = left_set k h in
      let b = (c.made k h).set in
      let e : bit t.left x.0 ≡ 1 = subst (λ (s : ℕ). bit s x.0 ≡ 1) a x.1 in
      let f = bit-lt t.right x.0 in
      (x.0, ap (λ (s : ℕ). bit s x.0) b ∙ omega (arith, bit-or t.left t.right x.0)))

  pub pair_several : length i.leaves ≤ 64 → (k : ℕ) → k < length ts → Several (union (pair_of ts k))
  pair_several m k h =
      let q = c.qualify k h in
      let x = some_leaf m (plan k).left (omega (arith, kept_below q.left, c.count)) in
      let y = some_leaf m (plan k).right (omega (arith, kept_below q.right, c.count)) in
      union_several (pair_of ts k).left (pair_of ts k).right x.0 y.0 q.apart (rw (left_set k h) at x.1) (rw (right_set k h) at y.1)

  -- a set for which a candidate was made has a plan
  pub kept_exists : WithinLimits i → (k j : ℕ) → k ≤ length ts → j < k → (p : ℕ) × KeptAfter (length i.leaves) ts ps k (union (pair_of ts j)) p
  kept_exists w k j l h =
      go (kept (estimate_of (length i.leaves) ps) (made_for ts (union (pair_of ts j))) k)
      (kept_earliest (estimate_of (length i.leaves) ps) (made_for ts (union (pair_of ts j))) k (λ x g. (all_finite w _ (there x (lt_of_lt_of_le g l))).cost))
    where
      go : (o : Option ℕ) → KeepsEarliest (estimate_of (length i.leaves) ps) (made_for ts (union (pair_of ts j))) k o
          → (p : ℕ) × KeptAfter (length i.leaves) ts ps k (union (pair_of ts j)) p
      go none f = absurd (true≢false (sym (eq-eqb (union (pair_of ts j)) (union (pair_of ts j)) refl) ∙ f j h))
      go (some x) b = (length i.leaves + x, larger (pair_several w.count j (lt_of_lt_of_le h l)) x refl b)

  -- the pair's sets, read back from the plans
  pub read_back_lem : ts ≡ pairs_in (length i.leaves) ps
  read_back_lem =
      ext_get_or (record { left = 0; right = 0 }) ts (pairs_in (length i.leaves) ps) size
      (λ k h.
      ap₂ (λ (a b : ℕ). record { left = a; right = b }) (sym (left_set k h)) (sym (right_set k h))
      ∙ sym
      (get_or-map_in (pair_in ps) (drop (length i.leaves) ps) k _ absent (omega (arith, length-drop (length i.leaves) ps, c.count))
      ∙ ap (pair_in ps) (get_or-drop (length i.leaves) ps k absent)))
    where
      size : length ts ≡ length (pairs_in (length i.leaves) ps)
      size = omega (arith, length-map (drop (length i.leaves) ps) (pair_in ps), length-drop (length i.leaves) ps, c.count)
