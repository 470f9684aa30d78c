-- The edges of a join as steps of the definition's build, and what its functions ask. Definitions only.
use Rattle.std.specs.Prelude.{true, false, List, ℕ, eqb}
use Rattle.definition.specs.Question.{Range, part, OpenItem, OpenQuestion, inner}
use Rattle.definition.specs.Hypergraph.{Edge}
use Rattle.definition.specs.Lists.{concat_map}
use Rattle.definition.specs.Tables.{type_of}
use Rattle.definition.specs.Edges.{Build, Sides, sides_for, inner_edges, other_edges}
use Rattle.sheet.specs.Views.{range_of}
use Rattle.builder.specs.Builds.{LeavesFit}
use Rattle.builder.specs.declared.HypergraphBuilder.{HypergraphBuilder}
use Rattle.joins.specs.declared.JoinItem.{JoinItem}

-- with these edges instead of its own
abbrev pub with_edges : List Edge → Build → Build
with_edges es b = record { leaves = b.leaves; edges = es; joins = b.joins; pile = b.pile }

-- the edges of a join of this kind and type over the predicates p; s: its record sets
abbrev pub edges_by : OpenQuestion → ℕ → ℕ → ℕ → Range → ℕ → ℕ → Sides → Build → Build
edges_by q k kind t p l r s b =
    let ps = part p q.predicates in
    elim (eqb kind inner) [ true ↦ inner_edges q.columns k l r p.first ps b | false ↦ other_edges s k t p.first ps b ]

-- the sides of the edge of predicate n: an Inner join's are those for its columns, another's the record sets s
abbrev pub sides_by : OpenQuestion → ℕ → ℕ → ℕ → Sides → ℕ → Build → Sides
sides_by q kind l r s n b =
    let columns = concat_map (λ (p : Range). part p q.columns) (part (record { first = n; count = 1 }) q.predicates) in
    elim (eqb kind inner) [ true ↦ sides_for b (type_of kind) l r columns | false ↦ s ]

abbrev pub item_of : JoinItem → OpenItem
item_of j = record { kind = j.kind; range = range_of j.predicates }

-- the leaves so far are held
pub record Ready (sheet : List ℕ) (b : HypergraphBuilder) : Type 0 where
  pub leaves : LeavesFit sheet b
