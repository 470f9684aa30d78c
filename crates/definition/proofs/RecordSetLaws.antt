-- When a join's record sets are worked out, no edge links its two sides yet: its own edges would be the first. So the record sets are never
-- widened, nor the edges of a join that is not Inner, nor the first edge of an Inner join. Assumes nothing.
use Rattle.std.specs.Prelude.{◌≡◌, ◌⊎◌, Bool, ◌&&◌, not, length, get_or, eqb}
use Rattle.std.proofs.Math.Path.{refl, ap₂}
use Rattle.std.proofs.Common.{sym, ◌∙◌, subst, true≢false, le_trans, lt_of_lt_of_le, arith, pow_mono, eqb-true, eq-eqb}
use Rattle.std.proofs.Math.Logic.{inl, inr}
use Rattle.std.proofs.Math.Bool.{true, false}
use mathlib.Core.List.{List, [], ◌∷◌, ◌++◌, map}
use Prim.Native.Nat.{ℕ, zero, suc, ◌+◌, ◌^◌, ◌≤◌, ◌<◌}
use Rattle.std.proofs.Math.Nat.{le_refl}
use Rattle.std.specs.Int.Bits.{bit_and, bit_or, or_add_and}
use Rattle.std.proofs.lemmas.Nat.{and_comm, or_lt, and_le_l, and_le_r}
use Rattle.nodeset.specs.Sets.{bit, disjoint, singleton, lowest, Apart, In}
use Rattle.nodeset.specs.SetLaws.{bit-lt, bit_empty, bit_one_cases, singleton_is, lowest_of, apart_disjoint}
use Rattle.nodeset.specs.SubsetLaws.{All}
use Rattle.definition.proofs.ListLaws.{length-tabulate, get_d_tabulate}
use Rattle.definition.specs.Question.{OpenItem, OpenQuestion, leaf, leaf_count}
use Rattle.definition.specs.Tables.{assoc, l_asscom, r_asscom}
use Rattle.definition.specs.Hypergraph.{Edge}
use Rattle.definition.specs.Connected.{own_classes, one_class, met, merge, merges, round, rounds, connected}
use Rattle.definition.specs.Edges.{JoinRecord, Sides, Build, side_set, linked, gained, inside, widened_left, widened_right, widen, sides_for, join, build_from, empty_build}
use Rattle.definition.proofs.Settled.{sub_of, sub_trans, sub-or_l, sub-or_r, or-sub}
use Rattle.definition.proofs.AllLaws.{all_map, all_of, all_get, all_mapped}
use Rattle.definition.proofs.EdgeLaws.{apart_parts, apart_or, apart_sym, not_empty, LiesIn, Working, Piled, from_reached, empty_reached}

-- ---- classes of which each lies on one side of a border, C or D, stay so when a set that lies on one side is merged

module _ (C D : ℕ → Type 0) (empty : C 0) (both : (a b : ℕ) → C a → C b → C (bit_or a b)) (far : (p s : ℕ) → s < 2 ^ 64 → D p → C s → disjoint p s ≡ true)
    (s : ℕ) (set : s < 2 ^ 64) (side : C s) where
  met_side : (t : ℕ) (ps : List ℕ) → C t → All (λ p. C p ⊎ D p) ps → C (met s t ps)
  unfolding met
  met_side t [] c a = c
  met_side t (p ∷ ps) c a = met_side (elim (disjoint p s) [ true ↦ t | false ↦ bit_or t p ]) ps (go (disjoint p s) refl a.0) a.1
    where
      go : (x : Bool) → disjoint p s ≡ x → C p ⊎ D p → C (elim x [ true ↦ t | false ↦ bit_or t p ])
      go true e o = c
      go false e (inl h) = both t p c h
      go false e (inr h) = absurd (true≢false (sym (far p s set h side) ∙ e))

  merge_side : (ps : List ℕ) → All (λ p. C p ⊎ D p) ps → All (λ p. C p ⊎ D p) (merge s ps)
  unfolding merge
  merge_side ps a = all_mapped (λ p. C p ⊎ D p) _ ps (all_map (λ p o. go p (disjoint p s) o) ps a)
    where
      go : (p : ℕ) (x : Bool) → C p ⊎ D p → C (elim x [ true ↦ p | false ↦ met s 0 ps ]) ⊎ D (elim x [ true ↦ p | false ↦ met s 0 ps ])
      go p true o = o
      go p false o = inl (met_side 0 ps empty a)

-- ---- the border of a set w: a set lies in w, or apart from it

abbrev Split : ℕ → ℕ → Type 0
Split w p = In p w ⊎ Apart p w

swap : {A B : Type 0} → A ⊎ B → B ⊎ A
swap (inl a) = inr a
swap (inr b) = inl b

in_empty : (w : ℕ) → In 0 w
in_empty w i = omega (arith, bit_empty i)

apart_empty : (w : ℕ) → Apart 0 w
apart_empty w i = omega (arith, bit_empty i)

apart_test : (p s : ℕ) → s < 2 ^ 64 → Apart s p → disjoint p s ≡ true
apart_test p s h a = eq-eqb (bit_and p s) 0 (and_comm p s ∙ apart_disjoint s p h a)

-- a set that is in w and apart from it is empty
both_empty : (s w : ℕ) → 0 < s → s < 2 ^ 64 → In s w → Apart s w → ⊥
both_empty s w p h i a = let l = lowest s in omega (arith, (lowest_of s p h).has, i l, a l)

module _ (w : ℕ) where
  merge_split : (s : ℕ) (ps : List ℕ) → s < 2 ^ 64 → Split w s → All (Split w) ps → All (Split w) (merge s ps)
  merge_split s ps h (inl i) a =
      merge_side (λ p. In p w) (λ p. Apart p w) (in_empty w) (λ x y. or-sub x y w)
      (λ p t k d c. apart_test p t k (λ j. omega (arith, c j, d j))) s h i ps a
  merge_split s ps h (inr o) a =
      all_map (λ p. swap) (merge s ps)
      (merge_side (λ p. Apart p w) (λ p. In p w) (apart_empty w) (λ x y. apart_or x y w)
      (λ p t k d c. apart_test p t k (λ j. omega (arith, c j, d j))) s h o ps (all_map (λ p. swap) ps a))

  own_split : All (Split w) own_classes
  own_split =
      all_of (Split w) 0 own_classes
      (λ i h.
      let l : i < 64 = omega (arith, length-tabulate 64 singleton) in
      subst (Split w) (sym (get_d_tabulate 64 singleton i 0 l ∙ singleton_is i l)) (one i (bit w i) refl (bit-lt w i)))
    where
      one : (i v : ℕ) → bit w i ≡ v → v < 2 → Split w (2 ^ i)
      one i zero e h = inr (λ j. elim (bit_one_cases i j) [ inl z ↦ omega arith | inr q ↦ omega (arith, subst (λ (x : ℕ). bit w x ≡ 0) q e) ])
      one i (suc zero) e h = inl (λ j. elim (bit_one_cases i j) [ inl z ↦ omega arith | inr q ↦ omega (arith, bit-lt (2 ^ i) j, subst (λ (x : ℕ). bit w x ≡ 1) q e) ])
      one i (suc (suc v)) e h = absurd (omega arith)

  -- edges that do not cross the border
  abbrev Kept : Edge → Type 0
  Kept e = (bit_or e.left e.right < 2 ^ 64) × Split w (bit_or e.left e.right)

  round_split : (skip : ℕ) (es : List Edge) (ps : List ℕ) → All Kept es → All (Split w) ps
      → All (Split w) (round skip (map (λ (e : Edge). e.left) es) (map (λ (e : Edge). e.right) es) ps)
  unfolding round
  round_split skip [] ps k a = a
  round_split skip (e ∷ es) ps k a = round_split skip es _ k.1 (go (merges skip e.left e.right ps))
    where
      go : (x : Bool) → All (Split w) (elim x [ true ↦ merge (bit_or e.left e.right) ps | false ↦ ps ])
      go true = merge_split (bit_or e.left e.right) ps k.0.0 k.0.1 a
      go false = a

  rounds_split : (c skip : ℕ) (es : List Edge) (ps : List ℕ) → All Kept es → All (Split w) ps
      → All (Split w) (rounds c skip (map (λ (e : Edge). e.left) es) (map (λ (e : Edge). e.right) es) ps)
  unfolding rounds
  rounds_split zero skip es ps k a = a
  rounds_split (suc c) skip es ps k a = rounds_split c skip es _ k (round_split skip es ps k a)

  -- a set in w and one apart from it are not connected
  module _ (es : List Edge) (kept : All Kept es) (a b : ℕ) (a-set : a < 2 ^ 64) (b-set : b < 2 ^ 64) where
    no_class : 0 < a → 0 < b → In a w → Apart b w → (p : ℕ) → Split w p → In (bit_or a b) p → ⊥
    no_class pa pb i o p (inl h) u = both_empty b w pb b-set (sub_trans b p w (sub_trans b (bit_or a b) p (sub-or_r a b) u) h) o
    no_class pa pb i o p (inr h) u = both_empty a w pa a-set i (apart_parts a w p w (sub_trans a (bit_or a b) p (sub-or_l a b) u) (λ j. omega arith) h)

    not-connected : In a w → Apart b w → (skip : ℕ) → connected (map (λ (e : Edge). e.left) es) (map (λ (e : Edge). e.right) es) a b skip ≡ false
    unfolding connected one_class
    not-connected i o skip = go (eqb a 0) (eqb b 0) (one_class (bit_or a b) classes) refl refl refl
      where
        classes : List ℕ
        classes = rounds (length (map (λ (e : Edge). e.left) es)) skip (map (λ (e : Edge). e.left) es) (map (λ (e : Edge). e.right) es) (merge b (merge a own_classes))

        split : All (Split w) classes
        split = rounds_split _ skip es _ kept (merge_split b _ b-set (inr o) (merge_split a own_classes a-set (inl i) own_split))

        go : (x y z : Bool) → eqb a 0 ≡ x → eqb b 0 ≡ y → one_class (bit_or a b) classes ≡ z → not x && not y && z ≡ false
        go true y z e f g = refl
        go false true z e f g = refl
        go false false false e f g = refl
        go false false true e f g =
            let p = get_or classes (lowest (bit_or a b)) 0 in
            absurd (no_class (not_empty a e) (not_empty b f) i o p (all_get (Split w) 0 classes (lowest (bit_or a b)) split (inl (in_empty w))) (sub_of (bit_or a b) p g))

-- ---- so an earlier join inside our side w has no link to our other side v

gained_none : (allowed link : Bool) (t s : ℕ) → link ≡ false → gained allowed link t s ≡ s
gained_none true link t s e = refl
gained_none false link t s e = rw (e, gained)

or_above_l : (a b : ℕ) → a ≤ bit_or a b
or_above_l a b = omega (arith, or_add_and a b, and_le_r a b)

or_above_r : (a b : ℕ) → b ≤ bit_or a b
or_above_r a b = omega (arith, or_add_and a b, and_le_l a b)

module _ (es : List Edge) (w v : ℕ) (w-set : w < 2 ^ 64) (v-set : v < 2 ^ 64) (apart : Apart v w) (kept : All (Kept w) es) (j : JoinRecord) (e : inside j w ≡ true) where
  abbrev all : ℕ
  all = bit_or j.left_nodes j.right_nodes

  all_below_lem : all ≤ w
  all_below_lem = subst (λ (x : ℕ). x ≤ w) (eqb-true (bit_and all w) all e) (and_le_r all w)

  left_unlinked : linked es j j.left_nodes v ≡ false
  left_unlinked =
      not-connected w es kept j.left_nodes v (omega (arith, all_below_lem, or_above_l j.left_nodes j.right_nodes)) v-set
      (sub_trans j.left_nodes all w (sub-or_l j.left_nodes j.right_nodes) (sub_of all w e)) apart _

  right_unlinked : linked es j j.right_nodes v ≡ false
  right_unlinked =
      not-connected w es kept j.right_nodes v (omega (arith, all_below_lem, or_above_r j.left_nodes j.right_nodes)) v-set
      (sub_trans j.right_nodes all w (sub-or_r j.left_nodes j.right_nodes) (sub_of all w e)) apart _

module _ (es : List Edge) (l r : ℕ) (l_set : l < 2 ^ 64) (r_set : r < 2 ^ 64) (apart : Apart l r) (kept-l : All (Kept l) es) (kept-r : All (Kept r) es) where
  widen_none : (t : ℕ) (js : List JoinRecord) (s : Sides) → widen es t l r js s ≡ s
  unfolding widen
  widen_none t [] s = refl
  widen_none t (j ∷ js) s =
      widen_none t js _ ∙ ap₂ (λ (x y : ℕ). sides x y) (go_left (inside j l) refl) (go_right (inside j r) refl)
    where
      sides : ℕ → ℕ → Sides
      sides x y = record { left = x; right = y }

      go_left : (b : Bool) → inside j l ≡ b → elim b [ true ↦ widened_left es t r j s.left | false ↦ s.left ] ≡ s.left
      go_left true e =
          gained_none (l_asscom j.type t) _ j.tes_right _ (left_unlinked es l r l_set r_set (apart_sym l r apart) kept-l j e)
          ∙ gained_none (assoc j.type t) _ j.tes_left _ (right_unlinked es l r l_set r_set (apart_sym l r apart) kept-l j e)
      go_left false e = refl

      go_right : (b : Bool) → inside j r ≡ b → elim b [ true ↦ widened_right es t l j s.right | false ↦ s.right ] ≡ s.right
      go_right true e =
          gained_none (r_asscom j.type t) _ j.tes_left _ (right_unlinked es r l r_set l_set apart kept-r j e)
          ∙ gained_none (assoc j.type t) _ j.tes_right _ (left_unlinked es r l r_set l_set apart kept-r j e)
      go_right false e = refl

-- ---- along the walk

-- an edge that lies in one thing on a pile of things that are in w or apart from it
lies_split : (w : ℕ) (p : List ℕ) (e : Edge) → All (Split w) p → LiesIn p e → Split w (bit_or e.left e.right)
lies_split w [] e a h = absurd h
lies_split w (s ∷ p) e a (inl h) =
    elim a.0 [
      | inl i ↦ inl (sub_trans (bit_or e.left e.right) s w h i)
      | inr o ↦ inr (apart_parts (bit_or e.left e.right) w s w h (λ j. le_refl (bit w j)) o)
    ]
lies_split w (s ∷ p) e a (inr h) = lies_split w p e a.1 h

module _ (n k : ℕ) (few : n ≤ 64) (below : k ≤ n) (b : Build) (l r : ℕ) (rest : List ℕ) (w : Working n k (r ∷ (l ∷ rest)) b) (piled : Piled k (r ∷ (l ∷ rest))) where
  set_64 : (s : ℕ) → s < 2 ^ k → s < 2 ^ 64
  set_64 s h = lt_of_lt_of_le h (pow_mono (le_trans below few))

  kept_by : (v : ℕ) → All (Split v) (r ∷ (l ∷ rest)) → All (Kept v) b.edges
  kept_by v a =
      all_map (λ e h. (or_lt 64 e.left e.right (lt_of_lt_of_le h.good.left_set (pow_mono few)) (lt_of_lt_of_le h.good.right_set (pow_mono few)), lies_split v (r ∷ (l ∷ rest)) e a h.lies))
      b.edges w.edges

  sides_plain : (t : ℕ) (cs : List ℕ) → sides_for b t l r cs ≡ record { left = side_set b.leaves l cs; right = side_set b.leaves r cs }
  unfolding sides_for
  sides_plain t cs =
      widen_none b.edges l r (set_64 l piled.3.1) (set_64 r piled.1) (apart_sym r l piled.2.0)
      (kept_by l (inr piled.2.0, (inl (λ i. le_refl (bit l i)), all_map (λ s o. inr (apart_sym l s o)) rest piled.3.2)))
      (kept_by r (inl (λ i. le_refl (bit r i)), (inr (apart_sym r l piled.2.0), all_map (λ s o. inr (apart_sym r s o)) rest piled.2.1)))
      t b.joins _

leaves_before : (is js : List OpenItem) → leaf_count is ≤ leaf_count (is ++ js)
unfolding leaf_count
leaves_before [] js = omega arith
leaves_before (i ∷ is) js = go (eqb i.kind leaf) (leaves_before is js)
  where
    go : (x : Bool) → leaf_count is ≤ leaf_count (is ++ js)
        → (elim x [ true ↦ suc (leaf_count is) | false ↦ leaf_count is ]) ≤ (elim x [ true ↦ suc (leaf_count (is ++ js)) | false ↦ leaf_count (is ++ js) ])
    go true h = omega arith
    go false h = h

-- wherever the walk comes upon a join, its sides for any columns are the side sets, not widened
pub record_sets_plain : (q : OpenQuestion) → leaf_count q.items ≤ 64 → (before after : List OpenItem) → q.items ≡ before ++ after
    → (l r : ℕ) (rest : List ℕ) → (build_from join q 0 before empty_build).pile ≡ r ∷ (l ∷ rest) → (t : ℕ) (cs : List ℕ)
    → sides_for (build_from join q 0 before empty_build) t l r cs
    ≡ record { left = side_set (build_from join q 0 before empty_build).leaves l cs; right = side_set (build_from join q 0 before empty_build).leaves r cs }
record_sets_plain q few before after e l r rest p t cs =
    let m : leaf_count before ≤ leaf_count q.items = rw e (leaves_before before after) in
    let n = leaf_count before in
    let few : n ≤ 64 = omega arith in
    let b = build_from join q 0 before empty_build in
    let reached = from_reached n few q 0 before 0 empty_build (omega arith) (empty_reached n) in
    sides_plain n (0 + n) few (omega arith) b l r rest (subst (λ (x : List ℕ). Working n (0 + n) x b) p reached.work) (subst (λ (x : List ℕ). Piled (0 + n) x) p reached.pile) t cs
