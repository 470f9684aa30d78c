-- Laws that stood before the structs, kept as they were; no proof needs them now. Assumes nothing.
use Rattle.std.specs.Prelude.{◌≡◌, Bool, List, map, ℕ, suc, ◌+◌, ◌≤◌, ◌<◌, take, drop, get_or}
use Rattle.std.proofs.Common.{ap, ◌∙◌, add-one, arith, drop_of_length-le}
use Rattle.std.proofs.Math.ListN.{length}
use Rattle.std.specs.Int.Bits.{bit_or}
use Rattle.definition.specs.Lists.{tabulate}
use Rattle.definition.proofs.ListLaws.{length-tabulate, tabulate-at, map-tabulate, tabulate-take}
use Rattle.definition.specs.Hypergraph.{Edge}
use Rattle.definition.specs.Connected.{connected}
use Rattle.definition.specs.Edges.{Sides, JoinRecord, linked, widen}
use Rattle.definition.specs.EdgeView.{edge_at, edges_of}
use Rattle.tes.specs.Views.{widened_by}

-- joins held as one list for each field, of which the first m places count
abbrev pub join_at : List ℕ → List ℕ → List ℕ → List ℕ → List ℕ → ℕ → JoinRecord
join_at kind ln rn tl tr i =
    record { type = get_or kind i 0; left_nodes = get_or ln i 0; right_nodes = get_or rn i 0; tes_left = get_or tl i 0; tes_right = get_or tr i 0 }

unfoldable pub joins_of : ℕ → List ℕ → List ℕ → List ℕ → List ℕ → List ℕ → List JoinRecord
joins_of m kind ln rn tl tr = tabulate m (join_at kind ln rn tl tr)

module _ (n : ℕ) (l r p s t : List ℕ) where
  lefts : n ≤ length l → map (λ (e : Edge). e.left) (edges_of n l r p s t) ≡ take n l
  unfolding edges_of
  lefts h = map-tabulate (λ (e : Edge). e.left) n (edge_at l r p s t) ∙ tabulate-take n l h

  rights : n ≤ length r → map (λ (e : Edge). e.right) (edges_of n l r p s t) ≡ take n r
  unfolding edges_of
  rights h = map-tabulate (λ (e : Edge). e.right) n (edge_at l r p s t) ∙ tabulate-take n r h

-- the link, by the lists of sides alone
pub linked_by : (n : ℕ) (l r p s t : List ℕ) → n ≤ length l → n ≤ length r → (j : JoinRecord) (from to : ℕ) {x : Bool}
    → x ≡ connected (take n l) (take n r) from to (bit_or j.tes_left j.tes_right) → x ≡ linked (edges_of n l r p s t) j from to
linked_by n l r p s t hl hr j from to e = rw (lefts n l r p s t hl, rights n l r p s t hr) e

module _ (es : List Edge) (t l r m : ℕ) (k ln rn tl tr : List ℕ) where
  pub widen_on : (i : ℕ) (s v : Sides) → i < m → v ≡ widened_by es t l r (join_at k ln rn tl tr i) s
      → widen es t l r (drop (i + 1) (joins_of m k ln rn tl tr)) v ≡ widen es t l r (drop i (joins_of m k ln rn tl tr)) s
  unfolding joins_of widen
  widen_on i s v h e =
      rw (add-one, tabulate-at m (join_at k ln rn tl tr) i h) (ap (widen es t l r (drop (suc i) (joins_of m k ln rn tl tr))) e)

  pub widen_end : (i : ℕ) (s : Sides) → m ≤ i → widen es t l r (drop i (joins_of m k ln rn tl tr)) s ≡ s
  unfolding joins_of widen
  widen_end i s h =
      let g : length (joins_of m k ln rn tl tr) ≤ i = omega (arith, length-tabulate m (join_at k ln rn tl tr)) in
      rw (drop_of_length-le (joins_of m k ln rn tl tr) g)
