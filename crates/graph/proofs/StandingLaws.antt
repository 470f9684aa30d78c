-- Laws that stood before `has_edge` searched by `any`, kept as they were; no proof needs them now. Assumes nothing.
use Rattle.std.specs.Prelude.{◌≡◌, true, false, List, ℕ, ◌+◌, ◌≤◌, ◌<◌}
use Rattle.definition.specs.Hypergraph.{connects, has_edge}
use Rattle.definition.specs.EdgeView.{edge_at}
use Rattle.definition.proofs.EdgeViewLaws.{edges_at, edges_end}
use Rattle.graph.specs.Laws.{onward}

module _ (n : ℕ) (l r p c t : List ℕ) where
  pub has_here : (a b i : ℕ) → i < n → connects a b (edge_at l r p c t i) ≡ true → true ≡ has_edge (onward n l r p c t i) a b
  unfolding has_edge
  has_here a b i h e = rw (edges_at n l r p c t i h, e)

  pub has_on : (a b i : ℕ) → i < n → connects a b (edge_at l r p c t i) ≡ false
      → has_edge (onward n l r p c t (i + 1)) a b ≡ has_edge (onward n l r p c t i) a b
  unfolding has_edge
  has_on a b i h e = rw (edges_at n l r p c t i h, e)

  pub has_end : (a b i : ℕ) → n ≤ i → false ≡ has_edge (onward n l r p c t i) a b
  unfolding has_edge
  has_end a b i h = rw (edges_end n l r p c t i h)
