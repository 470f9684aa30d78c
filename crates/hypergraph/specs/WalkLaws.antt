-- One item after the other: what is built, and that there is room for what comes. Assumes nothing.
use Rattle.std.specs.Prelude.{◌≡◌, Bool, true, false, ℕ, ◌+◌, ◌-◌, ◌≤◌, ◌<◌, drop, eqb, sum_by}
use Rattle.std.proofs.Math.Path.{refl, sym, ap, ap₂}
use Rattle.std.proofs.Common.{◌∙◌, arith, add-one, length-append, drop_of_length-le, eq-eqb, ne_eqb, eqb-true}
use mathlib.Core.List.{List, [], ◌∷◌, map}
use Rattle.std.proofs.Math.ListN.{length, get_or, take}
use Rattle.std.proofs.lemmas.Bool.{eqb-false}
use Rattle.definition.specs.Lists.{concat_map}
use Rattle.std.proofs.lemmas.List.{length-map}
use Rattle.std.proofs.lemmas.List.Recursion.{is_sum_by}
use Rattle.definition.specs.Question.{Range, part, Question, Item, OpenItem, OpenQuestion, cross_product, leaf}
use Rattle.definition.specs.Question.{item, open_item, open_question, leaf_count, ends_with_one}
use Rattle.definition.proofs.QuestionLaws.{open_item_lem, counts-leaf, counts-join, finds_two, walk_items, length_open_items, length_open_predicates}
use Rattle.definition.specs.Sheet.{question_of}
use Rattle.definition.specs.Accepted.{Sound}
use Rattle.definition.specs.Tables.{type_of}
use Rattle.definition.specs.Edges.{Build, Sides, JoinRecord, sides_for, join_item, cross_item, leaf_item, join, on_pile}
use Rattle.definition.specs.Edges.{build_item, build_from, empty_build, build_hypergraph, edge_count}
use Rattle.definition.specs.Hypergraph.{Edge}
use Rattle.definition.proofs.EdgeCount.{JoinFits, join-height, item-height, item_count_lem}
use Rattle.definition.proofs.InputLaws.{sound_edges-counted}
use Rattle.ses.specs.View.{columns_at, Fit, Named}
use Rattle.sheet.specs.declared.Range as declared
use Rattle.tes.specs.Views.{join_of}
use Rattle.builder.specs.Builds.{LeavesFit, empty, pile_of, build_of, edges_in, edges_held, EdgeLists, with_leaf, Longer, Added, RoomFor}
use Rattle.builder.specs.declared.HypergraphBuilder.{HypergraphBuilder}
use Rattle.builder.specs.Laws.{pile_two}
use Rattle.joins.specs.Joins.{edges_by, Ready}
use Rattle.joins.specs.Laws.{longer_less, longer_added}
use Rattle.joins.specs.JoinLaws.{by_rest}
use Rattle.hypergraph.specs.HeldLaws.{pile_length, edges_held_lem, lists_held}
use Rattle.hypergraph.specs.Walk.{item_edges, Along}

-- ---- the number of edges

count_cons : (i : OpenItem) (is : List OpenItem) → edge_count (i ∷ is) ≡ item_edges i + edge_count is
unfolding edge_count item_edges
count_cons i is = go (eqb i.kind leaf) (eqb i.kind cross_product)
  where
    go : (x y : Bool) → (elim x [ true ↦ edge_count is | false ↦ elim y [ true ↦ 1 + edge_count is | false ↦ i.range.count + edge_count is ] ])
        ≡ (elim x [ true ↦ 0 | false ↦ elim y [ true ↦ 1 | false ↦ i.range.count ] ]) + edge_count is
    go true y = omega arith
    go false true = refl
    go false false = refl

-- the edges of all items are the sum of each one's
pub edges_summed : (xs : List Item) → edge_count (map open_item xs) ≡ sum_by (λ (x : Item). item_edges (open_item x)) xs
unfolding edge_count
edges_summed xs =
    is_sum_by (λ (ys : List Item). edge_count (map open_item ys)) (λ (x : Item). item_edges (open_item x)) refl
    (λ x ys. count_cons (open_item x) (map open_item ys)) xs

module _ (q : Question) (k : ℕ) where
  pub edges_step : k < length q.items
      → edge_count (drop k (open_question q).items) ≡ item_edges (open_item (item q k)) + edge_count (drop (k + 1) (open_question q).items)
  edges_step h = ap edge_count (open_item_lem q k h) ∙ count_cons (open_item (item q k)) (drop (k + 1) (open_question q).items)

-- ---- an item

module _ (q : OpenQuestion) (k : ℕ) (i : OpenItem) (b c : Build) where
  pub leaf_built : (n : ℕ) (p : Range) → i.kind ≡ leaf → length b.leaves ≡ n → p ≡ i.range → c ≡ with_leaf n (part p q.columns) b → c ≡ build_item join q k i b
  unfolding build_item leaf_item
  leaf_built n p e f g h =
      rw (eq-eqb i.kind leaf e, build_item) (h ∙ ap₂ (λ (m : ℕ) (x : Range). with_leaf m (part x q.columns) b) (sym f) g)

  pub join_built : (p : List ℕ) → let n = length p in 2 ≤ n → b.pile ≡ pile_of p → (i.kind ≡ leaf → ⊥)
      → c ≡ join q k i (get_or p (n - 2) 0) (get_or p (n - 1) 0) (drop 2 b.pile) b → c ≡ build_item join q k i b
  unfolding build_item
  join_built p two pile e h =
      let n = length p in
      let w : b.pile ≡ get_or p (n - 1) 0 ∷ (get_or p (n - 2) 0 ∷ pile_of (take (n - 2) p)) = pile ∙ pile_two p two in
      h ∙ sym (rw (ne_eqb i.kind leaf e, build_item) (
      ap (λ (x : List ℕ). on_pile join q k i x b) w
      ∙ ap (λ (x : List ℕ). join q k i (get_or p (n - 2) 0) (get_or p (n - 1) 0) (drop 2 x) b) (sym w)))

-- ---- the counts of a build

-- a join adds one record and takes one thing off the pile
join_tally : (q : OpenQuestion) (k : ℕ) (i : OpenItem) (l r : ℕ) (rest : List ℕ) (b : Build)
    → ((join q k i l r rest b).leaves ≡ b.leaves) × (length (join q k i l r rest b).joins ≡ length b.joins + 1)
unfolding cross_item join_item
join_tally q k i l r rest b = go (eqb i.kind cross_product)
  where
    t : ℕ
    t = type_of i.kind

    s : Sides
    s = sides_for b t l r (concat_map (λ (p : Range). part p q.columns) (part i.range q.predicates))

    after : Bool → Build
    after x = elim x [ true ↦ cross_item k l r rest b | false ↦ join_item q k i l r rest b ]

    go : (x : Bool) → ((after x).leaves ≡ b.leaves) × (length (after x).joins ≡ length b.joins + 1)
    go true = (refl, length-append b.joins _)
    go false =
        let w = by_rest q k i.kind t i.range l r s b in
        (w.leaves, length-append (edges_by q k i.kind t i.range l r s b).joins _ ∙ ap (λ (js : List JoinRecord). length js + 1) w.joins)

module _ (sheet : List ℕ) (b : HypergraphBuilder) (e : EdgeLists) where
  pub leaves_held : length (build_of sheet b e).leaves ≡ length b.leaves.items
  leaves_held = length-map b.leaves.items (λ (r : declared.Range). columns_at sheet r.first r.count)

  joins_held : length (build_of sheet b e).joins ≡ length b.joins.items
  joins_held = length-map b.joins.items join_of

  height_held : length (build_of sheet b e).pile ≡ length b.pile.items
  height_held = pile_length b.pile.items

-- ---- along the walk

abbrev items_of : List ℕ → List OpenItem
items_of sheet = (open_question (question_of sheet)).items

module _ (sheet : List ℕ) (k : ℕ) (b : HypergraphBuilder) (l : EdgeLists) (w : Along sheet k b l) (h : k < length (question_of sheet).items) where
  abbrev q : Question
  q = question_of sheet

  abbrev i : OpenItem
  i = open_item (item q k)

  abbrev is : List OpenItem
  is = drop (k + 1) (items_of sheet)

  on : ends_with_one (drop k (items_of sheet)) (length b.pile.items) ≡ true
  on = w.walk (omega (arith, length_open_items q))

  pub room_leaf : i.kind ≡ leaf → (length b.leaves.items < 64) × (length b.pile.items < 64)
  room_leaf e = let c = counts-leaf q k h e in (omega (arith, w.leaves), omega (arith, w.leaves, w.joins))

  pub along_ready : Ready sheet b
  along_ready = record { leaves = w.fits }

  module _ (e : i.kind ≡ leaf → ⊥) where
    pub two : 2 ≤ length b.pile.items
    two = finds_two q k h (length b.pile.items) e on

    pub room_join : RoomFor b
    room_join = record { two = two; joins = omega (arith, two, w.joins, w.fits.few) }

    pub room_edges : Longer (b.edges + item_edges i) l
    room_edges = longer_less (omega (arith, edges_step q k h)) w.edges

    pub named : Sound q → (p : Range) → p ≡ (item q k).range → Named sheet p.first p.count
    named s p f = rw f (record { inside = s.join_ranges k h e; ranges = s.predicate_ranges })

  pub leaf-fits : Sound q → (p : Range) → p ≡ (item q k).range → i.kind ≡ leaf → Fit sheet p.first p.count
  leaf-fits s p f e = rw f (s.leaf_ranges k h e)

  -- after the item
  module _ (c : HypergraphBuilder) (m : EdgeLists) (built : build_of sheet c m ≡ build_item join (open_question q) k i (build_of sheet b l)) (s : Sound q) where
    abbrev next : Build
    next = build_item join (open_question q) k i (build_of sheet b l)

    here : drop k (items_of sheet) ≡ i ∷ is
    here = open_item_lem q k h

    height-next : length next.pile ≡ length c.pile.items
    height-next = sym (ap (λ (x : Build). length x.pile) built) ∙ height_held sheet c m

    joins_next : length next.joins ≡ length c.joins.items
    joins_next = sym (ap (λ (x : Build). length x.joins) built) ∙ joins_held sheet c m

    leaves-next : length next.leaves ≡ length c.leaves.items
    leaves-next = sym (ap (λ (x : Build). length x.leaves) built) ∙ leaves_held sheet c m

    edges-next : length next.edges ≡ c.edges
    edges-next = sym (ap (λ (x : Build). length x.edges) built) ∙ edges_held_lem c.edges m

    walked : ends_with_one (i ∷ is) (length (build_of sheet b l).pile) ≡ true
    walked = rw (sym here, height_held sheet b l) on

    abbrev d : Build
    d = build_of sheet b l

    abbrev Tally : Type 0
    Tally =
        (length next.leaves + leaf_count is ≡ length b.leaves.items + leaf_count (drop k (items_of sheet)))
        × (length next.joins + length next.pile ≡ length next.leaves)

    tally : Tally
    unfolding build_item leaf_item leaf_count
    tally = go (eqb i.kind leaf) refl
      where
        onto : (p : List ℕ) → 2 ≤ length p → length d.joins + length p ≡ length d.leaves
            → let x = on_pile join (open_question q) k i p d in (x.leaves ≡ d.leaves) × (length x.joins + length x.pile ≡ length d.leaves)
        onto [] z y = absurd (omega arith)
        onto (r ∷ []) z y = absurd (omega arith)
        onto (r ∷ (l ∷ rest)) z y =
            let t = join_tally (open_question q) k i l r rest d in
            (t.0, omega (arith, t.1, join-height (open_question q) k i l r rest d, y))

        sum : length d.joins + length d.pile ≡ length d.leaves
        sum = omega (arith, joins_held sheet b l, height_held sheet b l, leaves_held sheet b l, w.joins)

        go : (x : Bool) → eqb i.kind leaf ≡ x → Tally
        go true e =
            let f = eqb-true i.kind leaf e in
            rw (e, build_item) (
              omega (arith, length-append d.leaves (part i.range q.columns ∷ []), leaves_held sheet b l, counts-leaf q k h f),
              omega (arith, length-append d.leaves (part i.range q.columns ∷ []), sum),
            )
        go false e =
            let f = eqb-false i.kind leaf e in
            let t = onto d.pile (omega (arith, two f, height_held sheet b l)) sum in
            rw (e, build_item) (
              omega (arith, ap length t.0, leaves_held sheet b l, counts-join q k h f),
              omega (arith, ap length t.0, t.1),
            )

    pub along_next : LeavesFit sheet c → Added b.edges c.edges l m → Along sheet (k + 1) c m
    along_next fits added =
        record {
          fits = fits;
          walk = λ z. rw (sym height-next) (item-height (open_question q) k i is (build_of sheet b l) walked);
          leaves = omega (arith, tally.0, leaves-next, w.leaves);
          joins = omega (arith, tally.1, leaves-next, joins_next, height-next);
          edges = longer_added added room w.edges;
        }
      where
        fit : JoinFits (open_question q) i
        fit e = omega (arith, s.join_ranges k h e, length_open_predicates q)

        room : c.edges + edge_count is ≤ b.edges + edge_count (drop k (items_of sheet))
        room = omega (arith, item_count_lem (open_question q) k i is (build_of sheet b l) fit walked, edges-next, edges_held_lem b.edges l, ap edge_count here)

  -- after a join or a cross product of the two top things on the pile
  module _ (s : Sound q) (e : i.kind ≡ leaf → ⊥) (c : HypergraphBuilder) (m : EdgeLists) (n : ℕ) (p : Range) where
    abbrev height : ℕ
    height = length b.pile.items

    abbrev joined_as : ℕ → ℕ → OpenItem → Build
    joined_as x y o = join (open_question q) k o x y (drop 2 (build_of sheet b l).pile) (build_of sheet b l)

    pub join-next : {x y : ℕ} → n ≡ i.kind → p ≡ i.range → x ≡ get_or b.pile.items (height - 2) 0 → y ≡ get_or b.pile.items (height - 1) 0
        → build_of sheet c m ≡ joined_as x y (record { kind = n; range = p }) → LeavesFit sheet c → Added b.edges c.edges l m
        → (build_of sheet c m ≡ build_item join (open_question q) k i (build_of sheet b l)) × (Along sheet (k + 1) c m × Added b.edges c.edges l m)
    join-next {x} {y} kind range left right made fits added =
        let is : joined_as x y (record { kind = n; range = p }) ≡ joined_as (get_or b.pile.items (height - 2) 0) (get_or b.pile.items (height - 1) 0) i =
        ap₂ (λ (z : ℕ) (r : Range). joined_as x y (record { kind = z; range = r })) kind range ∙ ap₂ (λ (u v : ℕ). joined_as u v i) left right in
        let built = join_built (open_question q) k i (build_of sheet b l) (build_of sheet c m) b.pile.items (two e) refl e (made ∙ is) in
        (built, (along_next c m built s fits added, added))

-- ---- the first item, and the end

pub along_start : (sheet : List ℕ) (e : EdgeLists) → Sound (question_of sheet) → Longer (edge_count (items_of sheet)) e → Along sheet 0 empty e
along_start sheet e s longer =
    record {
      fits = record { few = omega arith; inside = λ k h. absurd (omega arith) };
      walk = λ z. sym (walk_items (question_of sheet) (omega (arith, length_open_items (question_of sheet)))) ∙ s.walk;
      leaves = omega (arith, s.few_leaves);
      joins = refl;
      edges = longer_less (omega arith) longer;
    }

-- the items from k on
abbrev pub rest : List ℕ → ℕ → Build → Build
rest sheet k b = build_from join (open_question (question_of sheet)) k (drop k (items_of sheet)) b

pub rest_step : (sheet : List ℕ) (k : ℕ) (b c : Build) → k < length (question_of sheet).items
    → c ≡ build_item join (open_question (question_of sheet)) k (open_item (item (question_of sheet) k)) b → rest sheet (k + 1) c ≡ rest sheet k b
unfolding build_from
rest_step sheet k b c h e =
    ap₂ (λ (n : ℕ) (x : Build). build_from join (open_question (question_of sheet)) n (drop (k + 1) (items_of sheet)) x) (add-one k) e
    ∙ sym (ap (λ (l : List OpenItem). build_from join (open_question (question_of sheet)) k l b) (open_item_lem (question_of sheet) k h))

pub rest_end : (sheet : List ℕ) (k : ℕ) (b : Build) → length (question_of sheet).items ≤ k → rest sheet k b ≡ b
unfolding build_from
rest_end sheet k b h =
    let g : length (items_of sheet) ≤ k = omega (arith, length_open_items (question_of sheet)) in
    ap (λ (l : List OpenItem). build_from join (open_question (question_of sheet)) k l b) (drop_of_length-le (items_of sheet) g)

module _ (sheet : List ℕ) (b : HypergraphBuilder) (e : EdgeLists) (built : build_of sheet b e ≡ rest sheet 0 empty_build) where
  whole-edges : edges_in b.edges e ≡ build_hypergraph (open_question (question_of sheet))
  unfolding build_hypergraph
  whole-edges = ap (λ (x : Build). x.edges) built

  pub whole_count : b.edges ≡ length (build_hypergraph (open_question (question_of sheet)))
  whole_count = sym (edges_held_lem b.edges e) ∙ ap length whole-edges

  pub whole_few : Sound (question_of sheet) → b.edges ≡ edge_count (items_of sheet)
  whole_few s = whole_count ∙ sound_edges-counted (question_of sheet) s

  pub whole-lists : (h : EdgeLists) → Added 0 b.edges h e → Longer b.edges e → e ≡ edges_held (build_hypergraph (open_question (question_of sheet))) h
  whole-lists h a l = lists_held 0 b.edges h e a l ∙ ap (λ (es : List Edge). edges_held es h) whole-edges
