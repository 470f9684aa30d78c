-- One edge more, for the loops over the edges. Assumes nothing.
use Rattle.std.specs.Prelude.{◌≡◌, refl, ◌||◌, List, ℕ, zero, suc, ◌+◌, ◌≤◌, ◌<◌, length, get_or, drop}
use Rattle.std.proofs.Common.{ap, arith, add-one, drop-cons, drop_of_length-le}
use Rattle.std.specs.List.{list_any, zip}
use Rattle.std.proofs.lemmas.Slice.Zip.{length-zip, get_or-zip}
use Rattle.std.specs.Int.Bits.{bit_or, or_zero_r}
use Rattle.definition.specs.Hypergraph.{Edge, beyond, neighborhood, has_edge}
use Rattle.definition.specs.EdgeView.{edges_of}
use Rattle.definition.proofs.EdgeViewLaws.{edges_at, edges_end}
use Rattle.nodeset.specs.SetLaws.{or_assoc}
use Rattle.graph.specs.View.{sides_connect}

module _ (n : ℕ) (l r p c t : List ℕ) where
  -- the edges from i on
  abbrev pub onward : ℕ → List Edge
  onward i = drop i (edges_of n l r p c t)

  pub nbr_step : (s x found i : ℕ) → i < n
      → bit_or (bit_or found (bit_or (beyond s x (get_or l i 0) (get_or r i 0)) (beyond s x (get_or r i 0) (get_or l i 0)))) (neighborhood (onward (i + 1)) s x)
      ≡ bit_or found (neighborhood (onward i) s x)
  unfolding neighborhood
  nbr_step s x found i h = rw (edges_at n l r p c t i h) (or_assoc found _ (neighborhood (onward (i + 1)) s x))

  pub nbr_end : (s x found i : ℕ) → n ≤ i → bit_or found (neighborhood (onward i) s x) ≡ found
  unfolding neighborhood
  nbr_end s x found i h = rw (edges_end n l r p c t i h) (or_zero_r found)

  -- whether one of the edges from i on connects a and b, k of them, by their two sides
  pub has_any : (a b : ℕ) → length l ≡ n → length r ≡ n → (k i : ℕ) → i + k ≡ n
      → list_any (sides_connect a b) (drop i (zip l r)) ≡ has_edge (onward i) a b
  unfolding has_edge
  has_any a b hl hr zero i e =
      rw (edges_end n l r p c t i (omega arith), drop_of_length-le (zip l r) {i = i} (omega (arith, length-zip l r, hl, hr))) refl
  has_any a b hl hr (suc k) i e =
      let here : get_or (zip l r) i (0, 0) ≡ (get_or l i 0, get_or r i 0) = get_or-zip l r i (0, 0) (omega (arith, hl)) (omega (arith, hr)) in
      rw (edges_at n l r p c t i (omega arith), drop-cons (zip l r) i (0, 0) (omega (arith, length-zip l r, hl, hr)), here, add-one i)
      (ap (λ x. sides_connect a b (get_or l i 0, get_or r i 0) || x) (rw add-one at (has_any a b hl hr k (i + 1) (omega arith))))
