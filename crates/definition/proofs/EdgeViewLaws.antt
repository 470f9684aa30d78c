-- Laws of EdgeView.antt: one edge of the view, the edges from one on, and the end. Assumes nothing.
use Rattle.std.specs.Prelude.{◌≡◌, refl, List, [], ◌∷◌, ℕ, zero, suc, ◌+◌, ◌≤◌, ◌<◌, length, get_or, drop}
use Rattle.std.proofs.Common.{sym, ap, ◌∙◌, add-one, arith, drop_of_length-le}
use Rattle.definition.proofs.ListLaws.{length-tabulate, tabulate-at}
use Rattle.definition.specs.Hypergraph.{Edge}
use Rattle.definition.specs.EdgeView.{edge_at, edges_of}

module _ (n : ℕ) (l r p s t : List ℕ) where
  pub length-edges : length (edges_of n l r p s t) ≡ n
  unfolding edges_of
  length-edges = length-tabulate n (edge_at l r p s t)

  pub edges_at : (i : ℕ) → i < n → drop i (edges_of n l r p s t) ≡ edge_at l r p s t i ∷ drop (i + 1) (edges_of n l r p s t)
  unfolding edges_of
  edges_at i h = rw (tabulate-at n (edge_at l r p s t) i h, add-one)

  pub edges_end : (i : ℕ) → n ≤ i → drop i (edges_of n l r p s t) ≡ []
  edges_end i h = let k : length (edges_of n l r p s t) ≤ i = omega (arith, length-edges) in drop_of_length-le (edges_of n l r p s t) k

  pub edges_get : (i : ℕ) (d : Edge) → i < n → get_or (edges_of n l r p s t) i d ≡ edge_at l r p s t i
  edges_get i d h = sym (got (edges_of n l r p s t) i) ∙ ap (λ (es : List Edge). get_or es 0 d) (edges_at i h)
    where
      got : (es : List Edge) (i : ℕ) → get_or (drop i es) 0 d ≡ get_or es i d
      got [] zero = refl
      got [] (suc i) = refl
      got (e ∷ es) zero = refl
      got (e ∷ es) (suc i) = got es i
