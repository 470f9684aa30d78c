use mathlib.Core.Path.{◌≡◌, sym, ap, ◌∙◌}
use mathlib.Core.List.{List}
use Prim.Native.Nat.{ℕ, ◌+◌}
use native.Mathlib.Omega.{arith}
use lib.ListN.{length, get_or}
use Rattle.std.proofs.Common.{◌<◌, ◌≤◌, Option, None, Some, IfSome}
use Rattle.std.specs.Option.{option_or}
use Rattle.definition.specs.Hypergraph.{connects}
use Rattle.definition.specs.EdgeWalk.{Gathered}
use Rattle.definition.specs.EdgeView.{edge_at}
use Rattle.definition.proofs.EdgeWalkLaws.{edge_walk_on, edge_walk_connects, edge_walk_passes}
use Rattle.nodeset.specs.declared.PredicateId.{PredicateId}
use Rattle.cost.specs.View.{gathered_of, with_edge}
use Rattle.cost.proofs.EdgeMet.{edge_met}
use Rattle.cost.specs.declared.Gathered as declared
use Rattle.cost.proofs.walk_edges.Goals as goal
use Rattle.cost.proofs.walk_edges.Goals.{then-connects, else-connects}

more : (l : Option ℕ) (i : ℕ) → IfSome l (λ k. k < i) → IfSome (option_or l (Some i)) (λ k. k < i + 1)
more None i h = omega arith
more (Some k) i h = omega arith

wider : (l : Option ℕ) (i j : ℕ) → i ≤ j → IfSome l (λ k. k < i) → IfSome l (λ k. k < j)
wider None i j q h = tt
wider (Some k) i j q h = omega arith

pub loop-i-preserved : goal.loop-i-preserved
loop-i-preserved c =
    let a = c.args in
    let e = a.edges.now in
    let l = c.loop-i in
    let h = c.loop-i-test.true in
    let n = length e.left.now in
    let at : List ℕ → ℕ = λ xs. get_or xs l.i 0 in
    let on : (s t : List ℕ) → c.connects.result ≡ connects a.a a.b (edge_at e.left.now e.right.now e.predicate.now s t l.i) =
    λ s t. c.connects.ensures (at e.predicate.now) (at s) (at t) in
    let rest = edge_walk_on n e.left.now e.right.now e.predicate.now a.selectivities.now a.a a.b in
    let edge = edge_walk_connects n e.left.now e.right.now e.predicate.now a.selectivities.now a.a a.b in
    let other = edge_walk_passes n e.left.now e.right.now e.predicate.now a.selectivities.now a.a a.b in
    let next : List ℕ → List ℕ → declared.Gathered → Gathered = λ s t z. rest s t (l.i + 1) (gathered_of z) in
    record {
      value =
          λ s t.
          (elim c.if-connects.branch [
            | then-connects w ↦
                ap (next s t) w.g-is
                ∙ ap (next s t) (w.with_edge-g.ensures ∙ ap (λ (p : Option PredicateId). with_edge a.selectivities.now l.i p l.g) w.predicate_of.ensures)
                ∙ ap (rest s t (l.i + 1)) (edge_met a.selectivities.now l.i (edge_at e.left.now e.right.now e.predicate.now s t l.i) l.g)
                ∙ edge s t l.i (gathered_of l.g) h (sym (on s t) ∙ w.if-connects.true)
            | else-connects w ↦ ap (next s t) w.g-is ∙ other s t l.i (gathered_of l.g) h (sym (on s t) ∙ w.if-connects.false)
          ])
          ∙ l.invariant.value s t;
      lead =
          elim c.if-connects.branch [
            | then-connects w ↦ rw (w.g-is, w.with_edge-g.ensures) (more l.g.lead l.i l.invariant.lead)
            | else-connects w ↦ rw w.g-is (wider l.g.lead l.i (l.i + 1) (omega arith) l.invariant.lead)
          ];
    }
