-- The next item as it is read: what each function that builds it asks, and what holds after it. Assumes nothing.
use Rattle.std.specs.Prelude.{◌≡◌, List, ℕ, ◌+◌, ◌-◌, ◌≤◌, ◌<◌, length, get_or, drop}
use Rattle.std.proofs.Common.{sym, ap, ◌∙◌, arith}
use Rattle.definition.specs.Question as question
use Rattle.definition.specs.Question.{item, open_item, open_question, leaf, cross_product}
use Rattle.definition.specs.Sheet.{question_of}
use Rattle.definition.specs.Edges.{Build, join_item, cross_item, join, build_item}
use Rattle.ses.specs.View.{columns_at, Fit}
use Rattle.sheet.specs.Views.{range_of, item_of}
use Rattle.sheet.specs.declared.Item.{Item}
use Rattle.builder.specs.Builds.{LeavesFit, build_of, EdgeLists, with_leaf, Longer, Added, RoomFor}
use Rattle.builder.specs.declared.HypergraphBuilder.{HypergraphBuilder}
use Rattle.joins.specs.Joins.{Ready}
use Rattle.joins.specs.Laws.{added_none, added_to, longer_less}
use Rattle.hypergraph.specs.ItemLaws.{one_edge_lem, each-predicate, by_cross, by_join}
use Rattle.hypergraph.specs.WalkLaws.{leaves_held, leaf_built, join-next, room_leaf, along_ready, two, room_join, room_edges, leaf-fits, along_next}
use Rattle.hypergraph.specs.Walk.{Along, Next}

module _ {sheet : List ℕ} {k : ℕ} {x : Item} {b : HypergraphBuilder} {l : EdgeLists} (n : Next sheet k x b l) where
  abbrev q : question.Question
  q = question_of sheet

  kind : x.kind ≡ (item q k).kind
  kind = ap (λ (i : question.Item). i.kind) n.read

  range : range_of x.range ≡ (item q k).range
  range = ap (λ (i : question.Item). i.range) n.read

  -- what holds after the item, with the builder c and the lists m
  pub record Built (c : HypergraphBuilder) (m : EdgeLists) : Type 0 where
    pub built : build_of sheet c m ≡ build_item join (open_question q) k (open_item (item q k)) (build_of sheet b l)
    pub along : Along sheet (k + 1) c m
    pub rest : Added b.edges c.edges l m

  -- ---- a leaf

  module _ (e : x.kind ≡ leaf) where
    pub leaf_room : (length b.leaves.items < 64) × (length b.pile.items < 64)
    leaf_room = room_leaf sheet k b l n.along n.within (sym kind ∙ e)

    pub leaf_next : (c : HypergraphBuilder) → c.edges ≡ b.edges
        → build_of sheet c l ≡ with_leaf (length b.leaves.items) (columns_at sheet x.range.first x.range.count) (build_of sheet b l)
        → (LeavesFit sheet b → Fit sheet x.range.first x.range.count → LeavesFit sheet c) → Built c l
    leaf_next c same made fits =
        let is = sym kind ∙ e in
        let built =
        leaf_built (open_question q) k (open_item (item q k)) (build_of sheet b l) (build_of sheet c l) _ (range_of x.range) is
        (leaves_held sheet b l) range made in
        let added = added_to (sym same) (added_none b.edges l) in
        let fit = leaf-fits sheet k b l n.along n.within n.sound (range_of x.range) range is in
        record { built = built; along = along_next sheet k b l n.along n.within c l built n.sound (fits n.along.fits fit) added; rest = added }

  -- ---- a join or a cross product

  module _ (e : x.kind ≡ leaf → ⊥) where
    not_leaf : (item q k).kind ≡ leaf → ⊥
    not_leaf f = e (kind ∙ f)

    pub join_two : 2 ≤ length b.pile.items
    join_two = two sheet k b l n.along n.within not_leaf

    pub cross_room : x.kind ≡ cross_product → Longer (b.edges + 1) l × RoomFor b
    cross_room f =
        let one = one_edge_lem (open_item (item q k)) (sym kind ∙ f) in
        (longer_less (omega (arith, one)) (room_edges sheet k b l n.along n.within not_leaf), room_join sheet k b l n.along n.within not_leaf)

    pub join_room : (x.kind ≡ cross_product → ⊥) → Ready sheet b × Longer (b.edges + x.range.count) l × RoomFor b
    join_room f =
        let many = each-predicate (open_item (item q k)) not_leaf (λ g. f (kind ∙ g)) in (
          along_ready sheet k b l n.along n.within,
          longer_less (omega (arith, many, ap (λ (r : question.Range). r.count) range)) (room_edges sheet k b l n.along n.within not_leaf),
          room_join sheet k b l n.along n.within not_leaf,
        )

    -- after the two top things on the pile are joined
    module _ (c : HypergraphBuilder) (m : EdgeLists) {left right : ℕ} (at_left : left ≡ get_or b.pile.items (length b.pile.items - 2) 0)
        (at_right : right ≡ get_or b.pile.items (length b.pile.items - 1) 0) (fits : LeavesFit sheet c) (added : Added b.edges c.edges l m) where
      abbrev was : Build
      was = build_of sheet b l

      joined : build_of sheet c m ≡ join (open_question q) k (open_item (item_of x)) left right (drop 2 was.pile) was → Built c m
      joined made =
          let next =
          join-next sheet k b l n.along n.within n.sound not_leaf c m _ (range_of x.range) kind range at_left at_right made fits added in
          record { built = next.0; along = next.1.0; rest = next.1.1 }

      pub cross_next : x.kind ≡ cross_product → build_of sheet c m ≡ cross_item k left right (drop 2 was.pile) was → Built c m
      cross_next f made = joined (by_cross (open_question q) k _ was (build_of sheet c m) _ _ _ f made)

      pub join_next : (x.kind ≡ cross_product → ⊥)
          → build_of sheet c m ≡ join_item (open_question q) k (open_item (item_of x)) left right (drop 2 was.pile) was → Built c m
      join_next f made = joined (by_join (open_question q) k _ was (build_of sheet c m) _ _ _ f made)
