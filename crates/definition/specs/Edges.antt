-- Document 01, 'Edges (maker: edge building; reader: the search)', over the open question.
use Rattle.std.specs.Prelude.{ℕ, suc, ◌+◌, Bool, true, false, ◌&&◌, not, List, [], ◌∷◌, ◌++◌, map, length, eqb}
use Rattle.std.specs.Int.Bits.{bit_or}
use Rattle.nodeset.specs.Sets.{bit, within, singleton, lowest}
use Rattle.definition.specs.Lists.{concat_map, member}
use Rattle.definition.specs.Question.{Range, part, OpenItem, OpenQuestion, inner, cross_product, leaf}
use Rattle.definition.specs.Tables.{type_of, assoc, l_asscom, r_asscom}
use Rattle.definition.specs.Hypergraph.{Edge, none32}
use Rattle.definition.specs.Connected.{connected}

-- an earlier join: its type, the leaves of its two sides, and its record sets (the Rust's TES)
pub record JoinRecord : Type 0 where
  pub type : ℕ
  pub left_nodes : ℕ
  pub right_nodes : ℕ
  pub tes_left : ℕ
  pub tes_right : ℕ

pub record Sides : Type 0 where
  pub left : ℕ
  pub right : ℕ

-- the columns of each leaf so far, the edges and joins so far, and the pile, its top first, each thing on it as its set of leaves
pub record Build : Type 0 where
  pub leaves : List (List ℕ)
  pub edges : List Edge
  pub joins : List JoinRecord
  pub pile : List ℕ

-- ---- the sides of a join

-- "per column, on each side, the lowest-numbered leaf that has it": of the side s, as a set; k is the number of the list's first leaf
unfoldable pub holder : ℕ → List (List ℕ) → ℕ → ℕ → ℕ
holder k [] s c = 0
holder k (cs ∷ ls) s c = elim (eqb (bit s k) 1 && member c cs) [ true ↦ singleton k | false ↦ holder (suc k) ls s c ]

-- t with that leaf of each column
unfoldable pub holders : List (List ℕ) → ℕ → List ℕ → ℕ → ℕ
holders ls s [] t = t
holders ls s (c ∷ cs) t = holders ls s cs (bit_or t (holder 0 ls s c))

-- "a side left empty becomes the whole side"
unfoldable pub side_set : List (List ℕ) → ℕ → List ℕ → ℕ
side_set ls s cs = let t = holders ls s cs 0 in elim (eqb t 0) [ true ↦ s | false ↦ t ]

-- the earlier join's leaves `from` are connected to our side `to` by the edges so far; "edges whose union equals the earlier join's record
-- union are passed over"
abbrev pub linked : List Edge → JoinRecord → ℕ → ℕ → Bool
linked es j from to =
    connected (map (λ (e : Edge). e.left) es) (map (λ (e : Edge). e.right) es) from to (bit_or j.tes_left j.tes_right)

-- s with the set t, where the table says no and the link is there
abbrev pub gained : Bool → Bool → ℕ → ℕ → ℕ
gained allowed link t s = elim (not allowed && link) [ true ↦ bit_or s t | false ↦ s ]

abbrev pub inside : JoinRecord → ℕ → Bool
inside j s = within (bit_or j.left_nodes j.right_nodes) s

-- "each earlier join inside the left side widens: not `assoc`(earlier, this) and its right leaves connected to our right side adds its left
-- record set to our left; not `l_asscom` and its left leaves so connected adds its right record set." t: this join's type; r: our right side
abbrev pub widened_left : List Edge → ℕ → ℕ → JoinRecord → ℕ → ℕ
widened_left es t r j s =
    gained (l_asscom j.type t) (linked es j j.left_nodes r) j.tes_right
    (gained (assoc j.type t) (linked es j j.right_nodes r) j.tes_left s)

-- "Inside the right side: not `assoc` and its left leaves connected to our left side adds its right record set to our right; not `r_asscom` and
-- its right leaves so connected adds its left record set." l: our left side
abbrev pub widened_right : List Edge → ℕ → ℕ → JoinRecord → ℕ → ℕ
widened_right es t l j s =
    gained (r_asscom j.type t) (linked es j j.right_nodes l) j.tes_left
    (gained (assoc j.type t) (linked es j j.left_nodes l) j.tes_right s)

-- each earlier join in turn, from the side sets on. l and r: our whole sides, which share no leaf, so that a join lies inside one of them at
-- most
unfoldable pub widen : List Edge → ℕ → ℕ → ℕ → List JoinRecord → Sides → Sides
widen es t l r [] s = s
widen es t l r (j ∷ js) s =
    widen es t l r js
    (record {
      left = elim (inside j l) [ true ↦ widened_left es t r j s.left | false ↦ s.left ];
      right = elim (inside j r) [ true ↦ widened_right es t l j s.right | false ↦ s.right ];
    })

-- the sides for these columns (`cd_e_for_predicate`)
unfoldable pub sides_for : Build → ℕ → ℕ → ℕ → List ℕ → Sides
sides_for b t l r cs =
    widen b.edges t l r b.joins (record { left = side_set b.leaves l cs; right = side_set b.leaves r cs })

-- ---- its edges

abbrev pub edge_of : Sides → ℕ → ℕ → ℕ → Edge
edge_of s predicate source type = record { left = s.left; right = s.right; predicate = predicate; source = source; type = type }

abbrev pub with_edge : Build → Edge → Build
with_edge b e = record { leaves = b.leaves; edges = b.edges ++ (e ∷ []); joins = b.joins; pile = b.pile }

-- "An Inner join works each predicate by itself, each edge present before the next predicate." k: the item's number; n: the first predicate's
unfoldable pub inner_edges : List ℕ → ℕ → ℕ → ℕ → ℕ → List Range → Build → Build
inner_edges columns k l r n [] b = b
inner_edges columns k l r n (p ∷ ps) b =
    inner_edges columns k l r (suc n) ps (with_edge b (edge_of (sides_for b (type_of inner) l r (part p columns)) n k (type_of inner)))

-- "Other kinds give every predicate the record sets."
unfoldable pub other_edges : Sides → ℕ → ℕ → ℕ → List Range → Build → Build
other_edges s k t n [] b = b
other_edges s k t n (p ∷ ps) b = other_edges s k t (suc n) ps (with_edge b (edge_of s n k t))

-- ---- the items

-- the join's record, and the join in place of its two sides on the pile
abbrev pub with_join : JoinRecord → List ℕ → Build → Build
with_join j rest b =
    record { leaves = b.leaves; edges = b.edges; joins = b.joins ++ (j ∷ []); pile = bit_or j.left_nodes j.right_nodes ∷ rest }

abbrev pub record_of : ℕ → ℕ → ℕ → Sides → JoinRecord
record_of t l r s = record { type = t; left_nodes = l; right_nodes = r; tes_left = s.left; tes_right = s.right }

-- item k, a join of the sides l and r. "A join's record sets come from all its predicates' columns, before its edges are added." "No
-- predicates, no edge, but a record."
unfoldable pub join_item : OpenQuestion → ℕ → OpenItem → ℕ → ℕ → List ℕ → Build → Build
join_item q k i l r rest b =
    let t = type_of i.kind in
    let ps = part i.range q.predicates in
    let s = sides_for b t l r (concat_map (λ (p : Range). part p q.columns) ps) in
    with_join (record_of t l r s) rest
    (elim (eqb i.kind inner) [ true ↦ inner_edges q.columns k l r i.range.first ps b | false ↦ other_edges s k t i.range.first ps b ])

-- "A cross product's edge and record are the lowest leaf of each side."
unfoldable pub cross_item : ℕ → ℕ → ℕ → List ℕ → Build → Build
cross_item k l r rest b =
    let s : Sides = record { left = singleton (lowest l); right = singleton (lowest r) } in
    with_join (record_of (type_of cross_product) l r s) rest (with_edge b (edge_of s none32 k (type_of cross_product)))

-- "Leaves are numbered as they come."
unfoldable pub leaf_item : OpenQuestion → OpenItem → Build → Build
leaf_item q i b =
    record {
      leaves = b.leaves ++ (part i.range q.columns ∷ []);
      edges = b.edges;
      joins = b.joins;
      pile = singleton (length b.leaves) ∷ b.pile;
    }

-- a join or cross product of the sides l and r, by document 01's rule
abbrev pub join : OpenQuestion → ℕ → OpenItem → ℕ → ℕ → List ℕ → Build → Build
join q k i l r rest b = elim (eqb i.kind cross_product) [ true ↦ cross_item k l r rest b | false ↦ join_item q k i l r rest b ]

-- ---- the walk, whatever the rule for a join

module _ (rule : OpenQuestion → ℕ → OpenItem → ℕ → ℕ → List ℕ → Build → Build) where
  -- "a join takes inner then outer off": inner is the right side, outer the left. A walk never finds fewer than two
  abbrev pub on_pile : OpenQuestion → ℕ → OpenItem → List ℕ → Build → Build
  on_pile q k i [] b = b
  on_pile q k i (r ∷ []) b = b
  on_pile q k i (r ∷ (l ∷ rest)) b = rule q k i l r rest b

  unfoldable pub build_item : OpenQuestion → ℕ → OpenItem → Build → Build
  build_item q k i b = elim (eqb i.kind leaf) [ true ↦ leaf_item q i b | false ↦ on_pile q k i b.pile b ]

  -- "Joins are worked in walk order." k: the number of the list's first item
  unfoldable pub build_from : OpenQuestion → ℕ → List OpenItem → Build → Build
  build_from q k [] b = b
  build_from q k (i ∷ is) b = build_from q (suc k) is (build_item q k i b)

abbrev pub empty_build : Build
empty_build = record { leaves = []; edges = []; joins = []; pile = [] }

unfoldable pub build_hypergraph : OpenQuestion → List Edge
build_hypergraph q = (build_from join q 0 q.items empty_build).edges

-- the number of edges, from the items' words alone: one for each predicate of a join, one for a cross product
unfoldable pub edge_count : List OpenItem → ℕ
edge_count [] = 0
edge_count (i ∷ is) =
    elim (eqb i.kind leaf) [
      | true ↦ edge_count is
      | false ↦ elim (eqb i.kind cross_product) [ true ↦ 1 + edge_count is | false ↦ i.range.count + edge_count is ]
    ]
