-- The declared records as those of Edges.antt, and what the functions over them say of their results. Fields of edges that a function is not
-- lent may be any.
use Rattle.std.specs.Prelude.{◌≡◌, Bool, true, false, List, map, ℕ, length}
use Rattle.definition.specs.Tables.{Asked, cell, refused, assoc}
use Rattle.definition.specs.Hypergraph.{Edge}
use Rattle.definition.specs.Edges as edges
use Rattle.definition.specs.Edges.{linked, gained, inside, widened_left, widened_right, widen}
use Rattle.definition.specs.EdgeView.{edges_of}
use Rattle.tes.specs.declared.JoinRecord.{JoinRecord}
use Rattle.tes.specs.declared.Sides.{Sides}
use Rattle.tes.specs.declared.NewJoin.{NewJoin}

-- the cell; no, where a table refuses
abbrev pub allows : Asked → Bool
allows (cell b) = b
allows (refused a) = false

abbrev pub join_of : JoinRecord → edges.JoinRecord
join_of j =
    record {
      type = j.join_type;
      left_nodes = j.left_nodes;
      right_nodes = j.right_nodes;
      tes_left = j.tes_left;
      tes_right = j.tes_right;
    }

abbrev pub sides_of : Sides → edges.Sides
sides_of s = record { left = s.left; right = s.right }

abbrev pub joins_of : List JoinRecord → List edges.JoinRecord
joins_of js = map join_of js

-- the join with its sides exchanged
abbrev pub turned : edges.JoinRecord → edges.JoinRecord
turned j =
    record { type = j.type; left_nodes = j.right_nodes; right_nodes = j.left_nodes; tes_left = j.tes_right; tes_right = j.tes_left }

-- the sides s after one earlier join, as `widen` of Edges.antt takes it
abbrev pub widened_by : List Edge → ℕ → ℕ → ℕ → edges.JoinRecord → edges.Sides → edges.Sides
widened_by es t l r j s =
    record {
      left = elim (inside j l) [ true ↦ widened_left es t r j s.left | false ↦ s.left ];
      right = elim (inside j r) [ true ↦ widened_right es t l j s.right | false ↦ s.right ];
    }

-- a side's set s after a join inside it, as that join's left side sees it. t: our type; across: our other side; asscom: what the table says
-- that is asked beside assoc
abbrev pub widened_side : List Edge → ℕ → Bool → ℕ → edges.JoinRecord → ℕ → ℕ
widened_side es t asscom across j s =
    gained asscom (linked es j j.left_nodes across) j.tes_right (gained (assoc j.type t) (linked es j j.right_nodes across) j.tes_left s)

module _ (left right : List ℕ) where
  -- what a fact says of these edges, whatever their other fields
  abbrev pub OfEdges : (List Edge → Type 0) → Type 0
  OfEdges P = (predicate source type : List ℕ) → P (edges_of (length left) left right predicate source type)

  -- x: whether the edges link j's leaves `from` to our side `to`
  abbrev pub Linked : JoinRecord → ℕ → ℕ → Bool → Type 0
  Linked j from to x = OfEdges (λ es. x ≡ linked es (join_of j) from to)

  -- x: s, with `add` where the table says no and that link is there
  abbrev pub Gained : Bool → JoinRecord → ℕ → ℕ → ℕ → ℕ → ℕ → Type 0
  Gained allowed j from to add s x = OfEdges (λ es. x ≡ gained allowed (linked es (join_of j) from to) add s)

  -- x: the set s of our side that j lies in, as j's left side sees it
  abbrev pub WidenedSide : ℕ → Bool → ℕ → JoinRecord → ℕ → ℕ → Type 0
  WidenedSide t asscom across j s x = OfEdges (λ es. x ≡ widened_side es t asscom across (join_of j) s)

  -- x: our left side's set s, widened by j
  abbrev pub WidenedLeft : NewJoin → JoinRecord → ℕ → ℕ → Type 0
  WidenedLeft n j s x = OfEdges (λ es. x ≡ widened_left es n.join_type n.whole.right (join_of j) s)

  -- x: our right side's set s, widened by j
  abbrev pub WidenedRight : NewJoin → JoinRecord → ℕ → ℕ → Type 0
  WidenedRight n j s x = OfEdges (λ es. x ≡ widened_right es n.join_type n.whole.left (join_of j) s)

  -- x: both sets, after j
  abbrev pub WidenedBy : NewJoin → JoinRecord → Sides → Sides → Type 0
  WidenedBy n j s x =
      OfEdges (λ es. sides_of x ≡ widened_by es n.join_type n.whole.left n.whole.right (join_of j) (sides_of s))

  -- x: both sets, after the joins
  abbrev pub Widened : NewJoin → List JoinRecord → Sides → Sides → Type 0
  Widened n js start x =
      OfEdges (λ es. sides_of x ≡ widen es n.join_type n.whole.left n.whole.right (joins_of js) (sides_of start))
