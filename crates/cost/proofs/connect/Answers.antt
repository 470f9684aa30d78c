-- What was gathered on the walk is what the definition takes from the listed edges, by edge_walk_connection.
use mathlib.Core.Path.{◌≡◌, sym, ap, ◌∙◌}
use mathlib.Core.List.{List}
use Prim.Native.Nat.{ℕ}
use lib.ListN.{length, get_or}
use lib.Ieee.{Float}
use Rattle.std.proofs.Common.{◌<◌, None, Some}
use Rattle.std.proofs.Math.Option.{none, some}
use Rattle.definition.specs.Hypergraph.{no_edge}
use Rattle.definition.specs.Hypergraph as hypergraph
use Rattle.definition.specs.Connection.{candidate_kind, connection}
use Rattle.definition.specs.EdgeWalk.{edge_walk, connection_gathered}
use Rattle.definition.specs.EdgeView.{edges_of}
use Rattle.definition.proofs.EdgeViewLaws.{edges_get}
use Rattle.definition.proofs.EdgeWalkLaws.{edge_walk_connection}
use Rattle.cost.specs.View.{lead_of, gathered_of}
use Rattle.cost.specs.declared.Gathered as declared
use Rattle.cost.specs.declared.edges.Edges.{Edges}
use Rattle.cost.proofs.connect.Goals as goal

-- e: the edges as lent; t: their types, which may be any; g: what was gathered
module _ (e : Edges) (t ks ss : List ℕ) (a b : ℕ) (x : Float) (g : declared.Gathered) where
  abbrev n : ℕ
  n = length e.left.now

  abbrev es : List hypergraph.Edge
  es = edges_of n e.left.now e.right.now e.predicate.now e.source.now t

  module _ (met : gathered_of g ≡ edge_walk es ss a b x) where
    taken : connection_gathered es ks (gathered_of g) ≡ connection es ks ss a b x
    taken = ap (connection_gathered es ks) met ∙ edge_walk_connection es ks ss a b x

    of_none : g.lead ≡ None → none ≡ connection es ks ss a b x
    of_none q = let z : lead_of g.lead ≡ none = ap lead_of q in rw z at taken

    of_some : (i k : ℕ) → g.lead ≡ Some i → i < n → k ≡ candidate_kind g.filters (get_or ks (get_or e.source.now i 0) 0)
        → some (record { lead = i; kind = k; rows = g.rows }) ≡ connection es ks ss a b x
    of_some i k q h w =
        let z : lead_of g.lead ≡ some i = ap lead_of q in
        let source =
        ap (λ (y : hypergraph.Edge). get_or ks y.source 0) (edges_get n e.left.now e.right.now e.predicate.now e.source.now t i no_edge h) in
        ap (λ (k : ℕ). some (record { lead = i; kind = k; rows = g.rows })) (w ∙ ap (candidate_kind g.filters) (sym source)) ∙ rw z at taken

pub returns-in_err-lead : goal.returns-in_err-lead
returns-in_err-lead c =
    let a = c.args in
    let e = a.edges.now in
    let g = c.walk_edges-g in
    λ t.
    rw c.from_residual.ensures
    (of_none e t a.kinds.now a.selectivities.now a.a a.b a.product g.result (g.ensures.value e.source.now t) c.in_err-lead.was)

pub returns : goal.returns
returns c =
    let a = c.args in
    let e = a.edges.now in
    let g = c.walk_edges-g in
    let i = c.in_ok-lead.lead in
    let met : g.result.lead ≡ Some i = c.in_ok-lead.was in
    let kind = c.candidate_kind.ensures ∙ ap (candidate_kind g.result.filters) (c.at-2.ensures ∙ ap (λ (k : ℕ). get_or a.kinds.now k 0) c.at.ensures) in
    λ t.
    of_some e t a.kinds.now a.selectivities.now a.a a.b a.product g.result (g.ensures.value e.source.now t) i c.candidate_kind.result met
    (rw met at g.ensures.lead) kind
