-- Request 2026-03: "a trial keeps no list of up to 256 edge numbers: it multiplies while walking the edges." One walk over the edges, and what it
-- gives for two sets. proofs/EdgeWalkLaws.antt proves it equal to Connection.antt, which lists the connecting edges first.
use Rattle.std.specs.Prelude.{ℕ, suc, Bool, true, false, ◌||◌, List, [], ◌∷◌, get_or, Float}
use Rattle.std.proofs.Math.Option.{Option, none, some}
use Rattle.definition.specs.Hypergraph.{Edge, connects, has_predicate}
use Rattle.definition.specs.Cost.{selected}
use Rattle.definition.specs.Connection.{Connection, source_kind, candidate_kind}

-- what is gathered on the way: the first connecting edge met, whether one that was met has a predicate, and what is left of the product
pub record Gathered : Type 0 where
  pub lead : Option ℕ
  pub filters : Bool
  pub rows : Float

-- a record of these three
abbrev pub gathered : Option ℕ → Bool → Float → Gathered
gathered l f x = record { lead = l; filters = f; rows = x }

-- the first edge met stays the lead
abbrev pub lead_after : Option ℕ → ℕ → Option ℕ
lead_after none i = some i
lead_after (some l) i = some l

-- an edge without predicate multiplies nothing; ss: the selectivities of all predicates
unfoldable pub rows_after : List ℕ → Edge → Float → Float
rows_after ss e x = elim (has_predicate e) [ true ↦ selected x (get_or ss e.predicate 0) | false ↦ x ]

-- with one connecting edge more, number i
unfoldable pub gathered_after : List ℕ → ℕ → Edge → Gathered → Gathered
gathered_after ss i e g = gathered (lead_after g.lead i) (g.filters || has_predicate e) (rows_after ss e g.rows)

-- over these edges, of which the first is number i, for the sets a and b
unfoldable pub edge_walk_from : List ℕ → ℕ → ℕ → ℕ → List Edge → Gathered → Gathered
edge_walk_from ss a b i [] g = g
edge_walk_from ss a b i (e ∷ es) g = edge_walk_from ss a b (suc i) es (elim (connects a b e) [ true ↦ gathered_after ss i e g | false ↦ g ])

-- over all edges; p: left rows times right rows
abbrev pub edge_walk : List Edge → List ℕ → ℕ → ℕ → Float → Gathered
edge_walk es ss a b p = edge_walk_from ss a b 0 es (gathered none false p)

-- lead edge, kind and rows from what was gathered, if an edge was met; ks: the items' kinds
abbrev pub connection_gathered : List Edge → List ℕ → Gathered → Option Connection
connection_gathered es ks g =
    elim g.lead [
      | none ↦ none
      | some l ↦ some (record { lead = l; kind = candidate_kind g.filters (source_kind es ks l); rows = g.rows })
    ]
