-- Along a walk: a join always finds two on the pile, one is left at the end, and the number of edges is that of the items' words. Assumes
-- nothing.
use Rattle.std.specs.Prelude.{◌≡◌, Bool, ltb}
use Rattle.std.proofs.Math.Path.{refl}
use Rattle.std.proofs.Common.{sym, ap, ◌∙◌, true≢false, eqb-true, ne_eqb, ltb-false}
use Rattle.std.proofs.Math.Bool.{true, false}
use mathlib.Core.List.{List, [], ◌∷◌, ◌++◌, append-nil}
use Prim.Native.Nat.{ℕ, suc, ◌+◌, ◌-◌, ◌^◌, ◌≤◌, ◌<◌}
use native.Mathlib.Omega.{arith}
use Rattle.std.proofs.Math.ListN.{length, length-append}
use Rattle.std.proofs.Math.Dec.{eqb}
use Rattle.std.proofs.lemmas.Bool.{eqb-false}
use Rattle.std.specs.Int.Bits.{or_zero_r}
use Rattle.nodeset.specs.Sets.{all_below}
use Rattle.nodeset.specs.SetLaws.{all_below_is}
use Rattle.nodeset.specs.SubsetLaws.{All}
use Rattle.definition.specs.Lists.{concat_map}
use Rattle.definition.specs.Question.{Range, part, OpenItem, OpenQuestion, inner, cross_product, leaf, leaf_count, ends_with_one, is_walk}
use Rattle.definition.proofs.QuestionLaws.{part_length}
use Rattle.definition.specs.Tables.{type_of}
use Rattle.definition.specs.Edges.{Sides, Build, sides_for, inner_edges, other_edges, join_item, cross_item, leaf_item, join, on_pile, build_item, build_from, empty_build, build_hypergraph, edge_count}
use Rattle.definition.proofs.EdgeLaws.{union_of, build_reached}

abbrev height : Build → ℕ
height b = length b.pile

abbrev edges_so_far : Build → ℕ
edges_so_far b = length b.edges

-- ---- the height of the pile

pub join-height : (q : OpenQuestion) (j : ℕ) (i : OpenItem) (l r : ℕ) (rest : List ℕ) (b : Build) → length (join q j i l r rest b).pile ≡ suc (length rest)
unfolding cross_item join_item
join-height q j i l r rest b = go (eqb i.kind cross_product)
  where
    go : (x : Bool) → height (elim x [ true ↦ cross_item j l r rest b | false ↦ join_item q j i l r rest b ]) ≡ suc (length rest)
    go true = refl
    go false = refl

-- where the rest of a walk is right, a join finds two
two_below : (i : OpenItem) (is : List OpenItem) (h : ℕ) → eqb i.kind leaf ≡ false → ends_with_one (i ∷ is) h ≡ true → (2 ≤ h) × (ends_with_one is (h - 1) ≡ true)
unfolding ends_with_one
two_below i is h e w = go (ltb h 2) refl (rw (e, ends_with_one) at w)
  where
    go : (x : Bool) → ltb h 2 ≡ x → elim x [ true ↦ false | false ↦ ends_with_one is (h - 1) ] ≡ true → (2 ≤ h) × (ends_with_one is (h - 1) ≡ true)
    go true f v = absurd (true≢false (sym v))
    go false f v = (ltb-false h 2 f, v)

module _ (q : OpenQuestion) where
  -- one item, of a walk that is right from there on
  pub item-height : (j : ℕ) (i : OpenItem) (is : List OpenItem) (b : Build) → ends_with_one (i ∷ is) (height b) ≡ true
      → ends_with_one is (height (build_item join q j i b)) ≡ true
  unfolding ends_with_one build_item leaf_item
  item-height j i is b w = go (eqb i.kind leaf) refl
    where
      on : (p : List ℕ) → (2 ≤ length p) × (ends_with_one is (length p - 1) ≡ true) → ends_with_one is (height (on_pile join q j i p b)) ≡ true
      on [] v = absurd (omega arith)
      on (r ∷ []) v = absurd (omega arith)
      on (r ∷ (l ∷ rest)) v =
          let lower : suc (suc (length rest)) - 1 ≡ suc (length rest) = omega arith in
          rw (join-height q j i l r rest b) (rw lower at v.1)

      go : (x : Bool) → eqb i.kind leaf ≡ x → ends_with_one is (height (build_item join q j i b)) ≡ true
      go true e = rw (e, build_item) (rw (e, ends_with_one) at w)
      go false e = rw (e, build_item) (on b.pile (two_below i is (height b) e w))

  -- the items before
  from-height : (j : ℕ) (before is : List OpenItem) (b : Build) → ends_with_one (before ++ is) (height b) ≡ true
      → ends_with_one is (height (build_from join q j before b)) ≡ true
  unfolding build_from
  from-height j [] is b w = w
  from-height j (i ∷ before) is b w = from-height (suc j) before is (build_item join q j i b) (item-height j i (before ++ is) b w)

whole_walk : (is : List OpenItem) → is_walk is ≡ true → 0 < length is → ends_with_one is 0 ≡ true
whole_walk [] w h = absurd (omega arith)
whole_walk (i ∷ is) w h = w

-- on a walk no join finds fewer than two
pub walk_finds_two : (q : OpenQuestion) → is_walk q.items ≡ true → (before : List OpenItem) (i : OpenItem) (after : List OpenItem) → q.items ≡ before ++ (i ∷ after)
    → (i.kind ≡ leaf → ⊥) → 2 ≤ length (build_from join q 0 before empty_build).pile
walk_finds_two q w before i after e k =
    let walk : ends_with_one (before ++ (i ∷ after)) 0 ≡ true = rw e at (whole_walk q.items w (omega (arith, ap length e, length-append before (i ∷ after)))) in
    (two_below i after (length (build_from join q 0 before empty_build).pile) (ne_eqb i.kind leaf k) (from-height q 0 before (i ∷ after) empty_build walk)).0

-- "one thing remains at the end": the set of all leaves
pub walk_ends : (q : OpenQuestion) → is_walk q.items ≡ true → 0 < length q.items → leaf_count q.items ≤ 64
    → (build_from join q 0 q.items empty_build).pile ≡ all_below (leaf_count q.items) ∷ []
unfolding ends_with_one
walk_ends q w h few = one (build_from join q 0 q.items empty_build).pile (eqb-true _ 1 ends) (build_reached q few).whole
  where
    ends : ends_with_one [] (height (build_from join q 0 q.items empty_build)) ≡ true
    ends = from-height q 0 q.items [] empty_build (rw append-nil (whole_walk q.items w h))

    one : (p : List ℕ) → length p ≡ 1 → union_of p ≡ 2 ^ leaf_count q.items - 1 → p ≡ all_below (leaf_count q.items) ∷ []
    one [] l u = absurd (omega arith)
    one (s ∷ []) l u = ap (λ (x : ℕ). x ∷ []) (sym (or_zero_r s) ∙ u ∙ sym (all_below_is (leaf_count q.items) few))
    one (s ∷ (t ∷ p)) l u = absurd (omega arith)

-- ---- the number of edges

module _ (q : OpenQuestion) where
  -- the range of a join lies in the table of predicates
  abbrev pub JoinFits : OpenItem → Type 0
  JoinFits i = (i.kind ≡ leaf → ⊥) → i.range.first + i.range.count ≤ length q.predicates

  inner_count : (columns : List ℕ) (j l r m : ℕ) (ps : List Range) (b : Build) → edges_so_far (inner_edges columns j l r m ps b) ≡ edges_so_far b + length ps
  unfolding inner_edges
  inner_count columns j l r m [] b = omega arith
  inner_count columns j l r m (p ∷ ps) b = inner_count columns j l r (suc m) ps _ ∙ simp length-append (omega arith)

  other_count : (s : Sides) (j t m : ℕ) (ps : List Range) (b : Build) → edges_so_far (other_edges s j t m ps b) ≡ edges_so_far b + length ps
  unfolding other_edges
  other_count s j t m [] b = omega arith
  other_count s j t m (p ∷ ps) b = other_count s j t (suc m) ps _ ∙ simp length-append (omega arith)

  join_count : (j : ℕ) (i : OpenItem) (l r : ℕ) (rest : List ℕ) (b : Build) → edges_so_far (join_item q j i l r rest b) ≡ edges_so_far b + length (part i.range q.predicates)
  unfolding join_item
  join_count j i l r rest b = go (eqb i.kind inner)
    where
      t : ℕ
      t = type_of i.kind

      ps : List Range
      ps = part i.range q.predicates

      s : Sides
      s = sides_for b t l r (concat_map (λ (x : Range). part x q.columns) ps)

      go : (x : Bool) → edges_so_far (elim x [ true ↦ inner_edges q.columns j l r i.range.first ps b | false ↦ other_edges s j t i.range.first ps b ]) ≡ edges_so_far b + length ps
      go true = inner_count q.columns j l r i.range.first ps b
      go false = other_count s j t i.range.first ps b

  -- an item and those after it
  pub item_count_lem : (j : ℕ) (i : OpenItem) (is : List OpenItem) (b : Build) → JoinFits i → ends_with_one (i ∷ is) (height b) ≡ true
      → edges_so_far (build_item join q j i b) + edge_count is ≡ edges_so_far b + edge_count (i ∷ is)
  unfolding build_item leaf_item cross_item edge_count
  item_count_lem j i is b f w = go (eqb i.kind leaf) refl
    where
      either : (l r : ℕ) (rest : List ℕ) (x : Bool) → eqb i.kind leaf ≡ false
          → edges_so_far (elim x [ true ↦ cross_item j l r rest b | false ↦ join_item q j i l r rest b ]) + edge_count is
          ≡ edges_so_far b + (elim x [ true ↦ 1 + edge_count is | false ↦ i.range.count + edge_count is ])
      either l r rest true e = simp length-append (omega arith)
      either l r rest false e =
          omega (arith, join_count j i l r rest b, part_length i.range q.predicates (f (eqb-false i.kind leaf e)))

      on : (p : List ℕ) → eqb i.kind leaf ≡ false → 2 ≤ length p
          → edges_so_far (on_pile join q j i p b) + edge_count is
          ≡ edges_so_far b + (elim (eqb i.kind cross_product) [ true ↦ 1 + edge_count is | false ↦ i.range.count + edge_count is ])
      on [] e v = absurd (omega arith)
      on (r ∷ []) e v = absurd (omega arith)
      on (r ∷ (l ∷ rest)) e v = either l r rest (eqb i.kind cross_product) e

      go : (x : Bool) → eqb i.kind leaf ≡ x → edges_so_far (build_item join q j i b) + edge_count is ≡ edges_so_far b + edge_count (i ∷ is)
      go true e = rw (e, build_item, edge_count)
      go false e = rw (e, build_item, edge_count) (on b.pile e (two_below i is (height b) e w).0)

  from_count : (j : ℕ) (is : List OpenItem) (b : Build) → All JoinFits is → ends_with_one is (height b) ≡ true
      → edges_so_far (build_from join q j is b) ≡ edges_so_far b + edge_count is
  unfolding build_from edge_count
  from_count j [] b a w = omega arith
  from_count j (i ∷ is) b a w =
      from_count (suc j) is (build_item join q j i b) a.1 (item-height q j i is b w) ∙ item_count_lem j i is b a.0 w

-- "The number of edges follows from the items' words alone"
pub edges-counted : (q : OpenQuestion) → is_walk q.items ≡ true → All (JoinFits q) q.items → length (build_hypergraph q) ≡ edge_count q.items
unfolding build_hypergraph build_from edge_count
edges-counted q w a = go q.items w a
  where
    go : (is : List OpenItem) → is_walk is ≡ true → All (JoinFits q) is → edges_so_far (build_from join q 0 is empty_build) ≡ edge_count is
    go [] v f = refl
    go (i ∷ is) v f = from_count q 0 (i ∷ is) empty_build f v ∙ omega arith
