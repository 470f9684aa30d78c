-- A question apart from the bytes it comes in. Document 01, 'The question sheet': items, predicates, columns.
use Rattle.std.specs.Prelude.{ℕ, suc, ◌+◌, ◌-◌, Bool, true, false, List, [], ◌∷◌, map, get_or, take, drop, eqb, leb, ltb}

pub record Range : Type 0 where
  pub first : ℕ
  pub count : ℕ

-- "first plus count is at most the table's count"
abbrev pub fits : Range → ℕ → Bool
fits r n = leb (r.first + r.count) n

abbrev pub part : {A : Type 0} → Range → List A → List A
part r xs = take r.count (drop r.first xs)

-- "Kind 0 Inner, 1 LeftSemi, 2 LeftAnti, 3 LeftOuter, 4 RightOuter, 5 FullOuter, 6 Single, 7 LeftMark": a join, with its range of
-- predicates. "Kind 8 CrossProduct". "Kind 9 leaf: rows", with its range of columns. Of the others rows is the word that should be 0.
pub record Item : Type 0 where
  pub kind : ℕ
  pub rows : ℕ
  pub range : Range

abbrev pub inner : ℕ
inner = 0

abbrev pub cross_product : ℕ
cross_product = 8

abbrev pub leaf : ℕ
leaf = 9

-- the selectivity is document 01's share, "the part of row pairs kept, in 65,536ths"; the range is one of columns
pub record Predicate : Type 0 where
  pub selectivity : ℕ
  pub range : Range

pub record Question : Type 0 where
  pub items : List Item
  pub predicates : List Predicate
  pub columns : List ℕ

-- item i and predicate i; past the end, one that names nothing
abbrev pub item : Question → ℕ → Item
item q i = get_or q.items i (record { kind = inner; rows = 0; range = record { first = 0; count = 0 } })

abbrev pub predicate : Question → ℕ → Predicate
predicate q i = get_or q.predicates i (record { selectivity = 0; range = record { first = 0; count = 0 } })

-- ---- the open question: no row counts, no selectivities

pub record OpenItem : Type 0 where
  pub kind : ℕ
  pub range : Range

pub record OpenQuestion : Type 0 where
  pub items : List OpenItem
  pub predicates : List Range
  pub columns : List ℕ

abbrev pub open_item : Item → OpenItem
open_item i = record { kind = i.kind; range = i.range }

abbrev pub open_question : Question → OpenQuestion
open_question q =
    record {
      items = map open_item q.items;
      predicates = map (λ (p : Predicate). p.range) q.predicates;
      columns = q.columns;
    }

-- ---- the walk

-- "Leaves are numbered as they come."
unfoldable pub leaf_count : List OpenItem → ℕ
leaf_count [] = 0
leaf_count (i ∷ is) = elim (eqb i.kind leaf) [ true ↦ suc (leaf_count is) | false ↦ leaf_count is ]

-- "a leaf is put on a pile, a join takes inner then outer off and puts itself on; one thing remains at the end." h: how many are on the pile
unfoldable pub ends_with_one : List OpenItem → ℕ → Bool
ends_with_one [] h = eqb h 1
ends_with_one (i ∷ is) h =
    elim (eqb i.kind leaf) [
      | true ↦ ends_with_one is (suc h)
      | false ↦ elim (ltb h 2) [ true ↦ false | false ↦ ends_with_one is (h - 1) ]
    ]

-- "A walk of no items is allowed"
abbrev pub is_walk : List OpenItem → Bool
is_walk [] = true
is_walk (i ∷ is) = ends_with_one (i ∷ is) 0
