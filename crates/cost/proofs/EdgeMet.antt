-- One connecting edge more, as the code gathers it, is one more of the definition's walk. Assumes nothing.
use Rattle.std.specs.Prelude.{◌≡◌, refl, Bool, true, false, ◌||◌, not, List, ℕ, Option, None, Some, get_or, eqb}
use Rattle.std.specs.Option.{option_or}
use Rattle.std.proofs.Common.{ap}
use Rattle.std.proofs.Math.Option as math
use Rattle.nodeset.specs.declared.PredicateId.{PredicateId}
use Rattle.definition.specs.Hypergraph.{Edge, none32}
use Rattle.definition.specs.Cost.{selected}
use Rattle.definition.specs.EdgeWalk.{Gathered, gathered, lead_after, rows_after, gathered_after}
use Rattle.cost.specs.View.{lead_of, gathered_of, predicate_from, with_edge}
use Rattle.cost.specs.declared.Gathered as declared

lead_met : (l : Option ℕ) (i : ℕ) → lead_of (option_or l (Some i)) ≡ lead_after (lead_of l) i
lead_met None i = refl
lead_met (Some k) i = refl

pub edge_met : (ss : List ℕ) (i : ℕ) (e : Edge) (g : declared.Gathered)
    → gathered_of (with_edge ss i (predicate_from e.predicate) g) ≡ gathered_after ss i e (gathered_of g)
unfolding gathered_after rows_after
edge_met ss i e g = go (eqb e.predicate none32)
  where
    -- t: whether the edge has no predicate
    predicate : Bool → Option PredicateId
    predicate t = elim t [ true ↦ None | false ↦ Some (record { 0 = e.predicate }) ]

    after : Bool → math.Option ℕ → Gathered
    after t l = gathered l (g.filters || not t) (elim (not t) [ true ↦ selected g.rows (get_or ss e.predicate 0) | false ↦ g.rows ])

    go : (t : Bool) → gathered_of (with_edge ss i (predicate t) g) ≡ after t (lead_after (lead_of g.lead) i)
    go true = ap (after true) (lead_met g.lead i)
    go false = ap (after false) (lead_met g.lead i)
