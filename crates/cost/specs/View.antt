-- The crate's structs as the definition's records, and what its functions over the edges say of their results. Fields of edges that a
-- function does not read may be any.
use Rattle.std.specs.Prelude.{◌≡◌, Bool, true, false, ◌||◌, List, ℕ, Option, None, Some, is_some, length, get_or, eqb, Float}
use Rattle.std.specs.Option.{option_or}
use Rattle.std.proofs.Math.Option as math
use Rattle.std.proofs.Math.Option.{none, some}
use Rattle.definition.specs.Hypergraph.{none32, connects}
use Rattle.definition.specs.Cost as cost
use Rattle.nodeset.specs.declared.PredicateId.{PredicateId}
use Rattle.definition.specs.Connection as connection
use Rattle.definition.specs.EdgeWalk as walk
use Rattle.definition.specs.Search as search
use Rattle.definition.specs.EdgeView.{edges_of}
use Rattle.cost.specs.declared.edges.Edges.{Edges}
use Rattle.cost.specs.declared.Leaf.{Leaf}
use Rattle.cost.specs.declared.Estimate.{Estimate}
use Rattle.cost.specs.declared.Connection.{Connection}
use Rattle.cost.specs.declared.Gathered.{Gathered}

abbrev pub leaf_of : Leaf → search.Leaf
leaf_of l = record { rows = l.rows; columns = l.columns }

abbrev pub estimate_of : Estimate → cost.Estimate
estimate_of e = record { rows = e.rows; cost = e.cost }

abbrev pub connection_of : Option Connection → math.Option connection.Connection
connection_of None = none
connection_of (Some c) = some (record { lead = c.lead; kind = c.kind; rows = c.rows })

-- the first edge met, if any
abbrev pub lead_of : Option ℕ → math.Option ℕ
lead_of None = none
lead_of (Some i) = some i

abbrev pub gathered_of : Gathered → walk.Gathered
gathered_of g = walk.gathered (lead_of g.lead) g.filters g.rows

-- the predicate that a number of the list means
abbrev pub predicate_from : ℕ → Option PredicateId
predicate_from n = elim (eqb n none32) [ true ↦ None | false ↦ Some (record { 0 = n }) ]

-- the rows after a connecting edge with this predicate
abbrev pub rows_with : List ℕ → Option PredicateId → Float → Float
rows_with ss p x = elim p [ None ↦ x | Some k ↦ cost.selected x (get_or ss k.0 0) ]

-- what is met after g and edge i, which connects and has the predicate p
abbrev pub with_edge : List ℕ → ℕ → Option PredicateId → Gathered → Gathered
with_edge ss i p g = record { lead = option_or g.lead (Some i); filters = g.filters || is_some p; rows = rows_with ss p g.rows }

-- t: whether an edge with these sides connects a and b
abbrev pub Connects : ℕ → ℕ → ℕ → ℕ → Bool → Type 0
Connects left right a b t = (p s k : ℕ) → t ≡ connects a b (record { left = left; right = right; predicate = p; source = s; type = k })

-- g: what the walk over the edges gathers for the candidate of a and b
abbrev pub Walked : Edges → List ℕ → ℕ → ℕ → Float → Gathered → Type 0
Walked e selectivities a b product g =
    (source type : List ℕ)
    → gathered_of g ≡ walk.edge_walk (edges_of (length e.left.now) e.left.now e.right.now e.predicate.now source type) selectivities a b product

-- c: what the edges give for the candidate of a and b, as the definition takes it from their list
abbrev pub Connected : Edges → List ℕ → List ℕ → ℕ → ℕ → Float → Option Connection → Type 0
Connected e kinds selectivities a b product c =
    (type : List ℕ)
    → connection_of c
    ≡ connection.connection (edges_of (length e.left.now) e.left.now e.right.now e.predicate.now e.source.now type) kinds selectivities a b product
