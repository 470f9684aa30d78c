-- What the edges that connect leaf 1 and leaf 0 give, by computation: from their list, and by the walk that keeps no list.
use Rattle.std.specs.Prelude.{◌≡◌, refl, false, List, [], ◌∷◌, map, ℕ, pos, Float}
use Rattle.std.proofs.Math.Option.{Option, none, some}
use Rattle.std.specs.Float.{fin}
use Rattle.std.specs.Float.Ieee.{mul, div, of_int}
use Rattle.definition.specs.Hypergraph.{Edge, none32, connecting_from}
use Rattle.definition.specs.Cost.{filtered}
use Rattle.definition.specs.Connection.{Connection, any_predicate, candidate_kind, selectivities_of, connection_over, connection}
use Rattle.definition.specs.EdgeWalk.{rows_after, gathered_after, edge_walk_from, edge_walk, connection_gathered}

-- an edge with this left side to leaf 1, this predicate and source item
abbrev edge_from : ℕ → ℕ → ℕ → Edge
edge_from left p s = record { left = left; right = 2; predicate = p; source = s; type = 0 }

-- between leaf 0 and leaf 1
abbrev edge : ℕ → ℕ → Edge
edge = edge_from 1

-- the other way round
abbrev turned : ℕ → ℕ → Edge
turned p s = record { left = 2; right = 1; predicate = p; source = s; type = 0 }

-- from leaf 2, so that it does not connect leaf 0 and leaf 1
abbrev far : Edge
far = edge_from 4 1 4

-- from the empty set, which lies in every set
abbrev hollow : Edge
hollow = edge_from 0 1 4

-- items 2, 3 and 4 are a left semi join, a cross product and a full outer join
abbrev kinds : List ℕ
kinds = 9 ∷ 9 ∷ 1 ∷ 8 ∷ 5 ∷ []

-- predicate 0 keeps a half of the row pairs, predicate 1 a quarter
abbrev selectivities : List ℕ
selectivities = 32768 ∷ 16384 ∷ []

-- all edges, and what they give for a product of 32
pub record Row : Type 0 where
  pub edges : List Edge
  pub given : Option Connection

abbrev nothing : List Edge → Row
nothing es = record { edges = es; given = none }

-- lead edge, kind, and rows as a power of two
abbrev gives : List Edge → ℕ → ℕ → ℕ → Row
gives es lead kind n = record { edges = es; given = some (record { lead = lead; kind = kind; rows = fin false 1 (pos n) }) }

abbrev rows : List Row
rows =
    -- a predicate on two connecting edges counts twice
    gives (edge none32 2 ∷ edge 0 4 ∷ edge 0 4 ∷ []) 0 1 3
    -- an edge connects either way round
    ∷ gives (turned 0 4 ∷ edge 1 2 ∷ []) 0 5 2
    -- an edge that does not connect gives nothing
    ∷ gives (far ∷ edge 0 2 ∷ far ∷ []) 1 1 4
    ∷ nothing (far ∷ [])
    ∷ nothing []
    -- the lead edge is the lowest and the kind its source's, also where another has the predicate
    ∷ gives (edge 0 4 ∷ edge 1 2 ∷ edge none32 3 ∷ []) 0 5 2
    ∷ gives (edge none32 2 ∷ edge 1 4 ∷ []) 0 1 3
    -- 0 for a cross product
    ∷ gives (edge none32 3 ∷ edge 1 2 ∷ []) 0 0 3
    -- 8 without a predicate
    ∷ gives (edge none32 2 ∷ edge none32 4 ∷ []) 0 8 5
    -- an empty side
    ∷ gives (hollow ∷ edge 0 2 ∷ []) 0 5 2
    ∷ []

abbrev product : Float
product = fin false 1 (pos 5)

pub listed : map (λ (r : Row). connection r.edges kinds selectivities 2 1 product) rows ≡ map (λ (r : Row). r.given) rows
unfolding connecting_from any_predicate candidate_kind selectivities_of connection_over filtered mul div of_int
listed = refl

pub walked : map (λ (r : Row). connection_gathered r.edges kinds (edge_walk r.edges selectivities 2 1 product)) rows ≡ map (λ (r : Row). r.given) rows
unfolding candidate_kind rows_after gathered_after edge_walk_from mul div of_int
walked = refl
