-- What a candidate (document 01: trial) takes from the edges that connect its two sets. Request 2026-03: "The definition lists them first", as
-- numbers in edge order; lead edge, kind and rows come from the list. es: all edges; cs: the numbers of the connecting ones.
use Rattle.std.specs.Prelude.{ℕ, Bool, true, false, ◌||◌, List, [], ◌∷◌, get_or, eqb, Float}
use Rattle.std.proofs.Math.Option.{Option, none, some}
use Rattle.definition.specs.Question.{cross_product, inner}
use Rattle.definition.specs.Hypergraph.{Edge, no_edge, has_predicate, connecting}
use Rattle.definition.specs.Cost.{filtered}

-- rows: "p, multiplied for each connecting predicate in edge order by share/65536"; the rule of the kind and the ceiling come after it (Cost.antt)
pub record Connection : Type 0 where
  pub lead : ℕ
  pub kind : ℕ
  pub rows : Float

-- whether one of these edges has a predicate
unfoldable pub any_predicate : List Edge → List ℕ → Bool
any_predicate es [] = false
any_predicate es (c ∷ cs) = has_predicate (get_or es c no_edge) || any_predicate es cs

-- the kind of edge c's source item; ks: the items' kinds
abbrev pub source_kind : List Edge → List ℕ → ℕ → ℕ
source_kind es ks c = get_or ks (get_or es c no_edge).source 0

-- "8 if no connecting edge has a predicate, else the lead edge's source kind, with 0 for a cross product". filters: whether one has a predicate;
-- k: the lead edge's source kind
unfoldable pub candidate_kind : Bool → ℕ → ℕ
candidate_kind filters k = elim filters [ true ↦ elim (eqb k cross_product) [ true ↦ inner | false ↦ k ] | false ↦ cross_product ]

-- the selectivities of these edges' predicates, in edge order; ss: those of all predicates
unfoldable pub selectivities_of : List Edge → List ℕ → List ℕ → List ℕ
selectivities_of es ss [] = []
selectivities_of es ss (c ∷ cs) =
    elim (has_predicate (get_or es c no_edge)) [
      | true ↦ get_or ss (get_or es c no_edge).predicate 0 ∷ selectivities_of es ss cs
      | false ↦ selectivities_of es ss cs
    ]

-- "lead edge (lowest connecting edge)"; nothing where no edge connects the two sets. p: left rows times right rows
unfoldable pub connection_over : List Edge → List ℕ → List ℕ → List ℕ → Float → Option Connection
connection_over es ks ss [] p = none
connection_over es ks ss (c ∷ cs) p =
    some
    (record {
      lead = c;
      kind = candidate_kind (any_predicate es (c ∷ cs)) (source_kind es ks c);
      rows = filtered p (selectivities_of es ss (c ∷ cs));
    })

-- of the two sets a and b
abbrev pub connection : List Edge → List ℕ → List ℕ → ℕ → ℕ → Float → Option Connection
connection es ks ss a b p = connection_over es ks ss (connecting es a b) p
