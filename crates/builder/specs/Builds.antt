-- What a builder holds, as the definition's build, and what its functions keep of it.
use Rattle.std.specs.Prelude.{◌≡◌, List, [], ◌∷◌, ◌++◌, reverse, ℕ, ◌+◌, ◌-◌, ◌≤◌, ◌<◌, length, drop, replicate, bit_or, Option, Some, None}
use Rattle.nodeset.specs.Sets.{singleton}
use Rattle.nodeset.specs.declared.PredicateId.{PredicateId}
use Rattle.definition.specs.Lists.{column}
use Rattle.definition.specs.Hypergraph.{Edge, none32}
use Rattle.definition.specs.Edges.{Build, JoinRecord, with_join}
use Rattle.definition.specs.EdgeView.{edges_of}
use Rattle.sheet.specs.declared.Range.{Range}
use Rattle.ses.specs.View.{leaves_of, Fits}
use Rattle.tes.specs.Views.{joins_of}
use Rattle.tes.specs.declared.JoinRecord as record_lem
use Rattle.copy_vec.specs.CopyVec.{CopyVec, pushed, shortened}
use Rattle.builder.specs.declared.EdgeLists as declared
use Rattle.builder.specs.declared.HypergraphBuilder.{HypergraphBuilder}

-- ---- the lists

pub record EdgeLists : Type 0 where
  pub left : List ℕ
  pub right : List ℕ
  pub predicate : List ℕ
  pub source : List ℕ
  pub kind : List ℕ

abbrev pub edge_lists : List ℕ → List ℕ → List ℕ → List ℕ → List ℕ → EdgeLists
edge_lists a b c d e = record { left = a; right = b; predicate = c; source = d; kind = e }

-- what the caller's lists hold
abbrev pub edge_lists_of : declared.EdgeLists → EdgeLists
edge_lists_of e = edge_lists e.left.now e.right.now e.predicate.now e.source.now e.kind.now

-- the caller's lists are the same ones, whatever they hold
abbrev pub SameEdgeLists : declared.EdgeLists → declared.EdgeLists → Type 0
SameEdgeLists a b =
    (b.left.ghost_name ≡ a.left.ghost_name)
    × (b.right.ghost_name ≡ a.right.ghost_name)
    × (b.predicate.ghost_name ≡ a.predicate.ghost_name)
    × (b.source.ghost_name ≡ a.source.ghost_name)
    × (b.kind.ghost_name ≡ a.kind.ghost_name)

-- no list is shorter than x
pub record Longer (x : ℕ) (h : EdgeLists) : Type 0 where
  pub left : x ≤ length h.left
  pub right : x ≤ length h.right
  pub predicate : x ≤ length h.predicate
  pub source : x ≤ length h.source
  pub kind : x ≤ length h.kind

abbrev pub edges_held : List Edge → EdgeLists → EdgeLists
edges_held es h =
    record {
      left = column (λ (e : Edge). e.left) es h.left;
      right = column (λ (e : Edge). e.right) es h.right;
      predicate = column (λ (e : Edge). e.predicate) es h.predicate;
      source = column (λ (e : Edge). e.source) es h.source;
      kind = column (λ (e : Edge). e.type) es h.kind;
    }

-- from list x to list y nothing is changed behind the first n places
pub record Behind (n : ℕ) (x y : List ℕ) : Type 0 where
  pub length_same : length y ≡ length x
  pub same : drop n y ≡ drop n x

-- from the lists h to the lists g only edges m to n - 1 are written
pub record Added (m n : ℕ) (h g : EdgeLists) : Type 0 where
  pub grown : m ≤ n
  pub left : Behind n h.left g.left
  pub right : Behind n h.right g.right
  pub predicate : Behind n h.predicate g.predicate
  pub source : Behind n h.source g.source
  pub kind : Behind n h.kind g.kind

-- ---- the builder

-- no element in 64 places
abbrev empty_vec : {T : Type 0} → T → CopyVec T
empty_vec blank = record { items = []; spare = replicate 64 blank; beyond = 0 }

abbrev pub empty : HypergraphBuilder
empty =
    record {
      edges = 0;
      leaves = empty_vec (record { first = 0; count = 0 });
      joins = empty_vec (record { join_type = 0; left_nodes = 0; right_nodes = 0; tes_left = 0; tes_right = 0 });
      pile = empty_vec 0;
    }

abbrev pub more_edges : ℕ → HypergraphBuilder → HypergraphBuilder
more_edges m b = record { edges = b.edges + m; leaves = b.leaves; joins = b.joins; pile = b.pile }

-- a join's record more, and the join in place of the two top things on the pile
abbrev pub one_join : record_lem.JoinRecord → HypergraphBuilder → HypergraphBuilder
one_join j b =
    record {
      edges = b.edges;
      leaves = b.leaves;
      joins = pushed j b.joins;
      pile = pushed (bit_or j.left_nodes j.right_nodes) (shortened (length b.pile.items - 2) b.pile);
    }

-- a leaf more, in the builder and on the pile
abbrev pub one_leaf : Range → HypergraphBuilder → HypergraphBuilder
one_leaf p b =
    record {
      edges = b.edges;
      leaves = pushed p b.leaves;
      joins = b.joins;
      pile = pushed (singleton (length b.leaves.items)) b.pile;
    }

-- ---- what they say together

abbrev pub edges_in : ℕ → EdgeLists → List Edge
edges_in n h = edges_of n h.left h.right h.predicate h.source h.kind

-- an edge's predicate, or none
abbrev pub predicate_number : Option PredicateId → ℕ
predicate_number (Some p) = p.0
predicate_number None = none32

-- the things on the pile, its top first
abbrev pub pile_of : List ℕ → List ℕ
pile_of p = reverse p

abbrev pub build_of : List ℕ → HypergraphBuilder → EdgeLists → Build
build_of sheet b e =
    record {
      leaves = leaves_of sheet b.leaves.items;
      edges = edges_in b.edges e;
      joins = joins_of b.joins.items;
      pile = pile_of b.pile.items;
    }

-- a fact about each sheet and all edges
abbrev pub ForAllLists : (List ℕ → EdgeLists → Type 0) → Type 0
ForAllLists P = (sheet : List ℕ) (e : EdgeLists) → P sheet e

-- ---- steps of the definition's build

-- one leaf more: number k, with these columns
abbrev pub with_leaf : ℕ → List ℕ → Build → Build
with_leaf k columns b =
    record { leaves = b.leaves ++ (columns ∷ []); edges = b.edges; joins = b.joins; pile = singleton k ∷ b.pile }

-- the record of a join of the two top things on the pile
abbrev pub with_record : JoinRecord → Build → Build
with_record j b = with_join j (drop 2 b.pile) b

-- ---- what the functions ask

-- the leaves are held, each with a range that lies in the sheet's columns
abbrev pub LeavesFit : List ℕ → HypergraphBuilder → Type 0
LeavesFit sheet b = Fits sheet b.leaves.items

-- a join finds its two sides on the pile, and a place for its record
pub record RoomFor (b : HypergraphBuilder) : Type 0 where
  pub two : 2 ≤ length b.pile.items
  pub joins : length b.joins.items < 64
