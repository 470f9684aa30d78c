-- The walk is the same over other edges with the same neighbours and connections, and for candidates that agree where an edge connects the two
-- sets. Assumes nothing.
use Rattle.std.specs.Prelude.{◌≡◌, Bool, true, false, ◌&&◌, ◌||◌, get_or, drop}
use Rattle.std.proofs.Math.Path.{refl, ap, ap₂}
use Rattle.std.proofs.Common.{◌∙◌, arith}
use mathlib.Core.List.{List, [], ◌∷◌}
use Rattle.std.proofs.lemmas.Bool.{false≢true}
use Prim.Native.Nat.{ℕ, zero, suc, ◌+◌}
use Rattle.std.specs.Int.Bits.{bit_or}
use Rattle.nodeset.specs.Sets.{singleton, all_below, up_to_lowest}
use Rattle.nodeset.specs.Subsets.{non_empty_subsets, singletons}
use Rattle.definition.specs.Hypergraph.{Edge, beyond, connects, has_edge, neighborhood}
use Rattle.definition.specs.EdgeView.{edge_at, edges_of}
use Rattle.definition.proofs.EdgeViewLaws.{edges_at, edges_end}
use Rattle.definition.specs.Walk.{each, try_connected, try_edge, enumerate_cmp_rec, emit_csg, emit_kept, enumerate_csg_rec, solve_from}

pub each_same : {A S : Type 0} (f g : A → S → S) → ((a : A) (s : S) → f a s ≡ g a s) → (l : List A) (s : S) → each f l s ≡ each g l s
each_same f g h [] s = refl
each_same f g h (a ∷ l) s = ap (each f l) (h a s) ∙ each_same f g h l (g a s)

elim_yes : {A : Type 0} (b : Bool) (z : A) {x y : A} → (b ≡ true → x ≡ y)
    → ◌≡◌ {A = A} (elim b [ true ↦ x | false ↦ z ]) (elim b [ true ↦ y | false ↦ z ])
elim_yes true z f = f refl
elim_yes false z f = refl

and_last : (a b : Bool) → (a && b) ≡ true → b ≡ true
and_last true b e = e
and_last false b e = absurd (false≢true e)

module _ (es es' : List Edge) (same_neighbors : (s x : ℕ) → neighborhood es s x ≡ neighborhood es' s x)
    (same_edge : (a b : ℕ) → has_edge es a b ≡ has_edge es' a b)
    (S : Type 0) (kept : S → ℕ → Bool) (visit : S → S) (attempt attempt' : ℕ → ℕ → S → S)
    (same_attempt : (a b : ℕ) (s : S) → has_edge es' a b ≡ true → attempt a b s ≡ attempt' a b s) where
  edge_same : (a b : ℕ) (s : S) → try_edge es S kept visit attempt a b s ≡ try_edge es' S kept visit attempt' a b s
  edge_same a b s =
      ap {B = S} (λ (w : Bool). elim w [ true ↦ attempt a b s | false ↦ s ]) (same_edge a b) ∙ elim_yes (has_edge es' a b) s (same_attempt a b s)

  connected_same : (a b : ℕ) (s : S) → try_connected es S kept visit attempt a b s ≡ try_connected es' S kept visit attempt' a b s
  connected_same a b s =
      ap {B = S} (λ (w : Bool). elim (kept s b && w) [ true ↦ attempt a b s | false ↦ s ]) (same_edge a b)
      ∙ elim_yes (kept s b && has_edge es' a b) s (λ e. same_attempt a b s (and_last (kept s b) (has_edge es' a b) e))

  cmp_same : (d s1 s2 x : ℕ) (s : S) → enumerate_cmp_rec es S kept visit attempt d s1 s2 x s ≡ enumerate_cmp_rec es' S kept visit attempt' d s1 s2 x s
  unfolding enumerate_cmp_rec
  cmp_same zero s1 s2 x s = refl
  cmp_same (suc d) s1 s2 x s =
      ap₂ (λ (n : ℕ) (u : S). each (λ t v. enumerate_cmp_rec es S kept visit attempt d s1 (bit_or s2 t) (bit_or x n) (visit v)) (non_empty_subsets n) u)
      (same_neighbors s2 x)
      (each_same _ (λ t v. try_connected es' S kept visit attempt' s1 (bit_or s2 t) (visit v)) (λ t v. connected_same s1 (bit_or s2 t) (visit v))
      (non_empty_subsets (neighborhood es s2 x)) s
      ∙ ap (λ (n : ℕ). each (λ t v. try_connected es' S kept visit attempt' s1 (bit_or s2 t) (visit v)) (non_empty_subsets n) s) (same_neighbors s2 x))
      ∙ each_same _ _ (λ t v. cmp_same d s1 (bit_or s2 t) (bit_or x (neighborhood es' s2 x)) (visit v)) (non_empty_subsets (neighborhood es' s2 x)) _

  emit_same : (d s1 : ℕ) (s : S) → emit_csg es S kept visit attempt d s1 s ≡ emit_csg es' S kept visit attempt' d s1 s
  unfolding emit_csg
  emit_same d s1 s =
      let x = bit_or s1 (up_to_lowest s1) in
      ap (λ (n : ℕ). each (λ v u. enumerate_cmp_rec es S kept visit attempt d s1 v x (try_edge es S kept visit attempt s1 v u)) (singletons n) s)
      (same_neighbors s1 x)
      ∙ each_same _ _
      (λ v u.
      ap (enumerate_cmp_rec es S kept visit attempt d s1 v x) (edge_same s1 v u) ∙ cmp_same d s1 v x (try_edge es' S kept visit attempt' s1 v u))
      (singletons (neighborhood es' s1 x)) s

  csg_same : (e d s1 x : ℕ) (s : S) → enumerate_csg_rec es S kept visit attempt e d s1 x s ≡ enumerate_csg_rec es' S kept visit attempt' e d s1 x s
  unfolding enumerate_csg_rec
  csg_same e zero s1 x s = refl
  csg_same e (suc d) s1 x s =
      ap₂ (λ (n : ℕ) (u : S). each (λ t v. enumerate_csg_rec es S kept visit attempt e d (bit_or s1 t) (bit_or x n) (visit v)) (non_empty_subsets n) u)
      (same_neighbors s1 x)
      (each_same _ (λ t v. emit_kept es' S kept visit attempt' e (bit_or s1 t) (visit v))
      (λ t v. elim_yes (kept (visit v) (bit_or s1 t)) (visit v) (λ y. emit_same e (bit_or s1 t) (visit v))) (non_empty_subsets (neighborhood es s1 x)) s
      ∙ ap (λ (n : ℕ). each (λ t v. emit_kept es' S kept visit attempt' e (bit_or s1 t) (visit v)) (non_empty_subsets n) s) (same_neighbors s1 x))
      ∙ each_same _ _ (λ t v. csg_same e d (bit_or s1 t) (bit_or x (neighborhood es' s1 x)) (visit v)) (non_empty_subsets (neighborhood es' s1 x)) _

  pub solve_same : (n v : ℕ) (s : S) → solve_from es S kept visit attempt n v s ≡ solve_from es' S kept visit attempt' n v s
  unfolding solve_from
  solve_same n zero s = refl
  solve_same n (suc v) s =
      ap (solve_from es S kept visit attempt n v)
      (ap (enumerate_csg_rec es S kept visit attempt n n (singleton v) (all_below (suc v))) (emit_same n (singleton v) s)
      ∙ csg_same n n (singleton v) (all_below (suc v)) (emit_csg es' S kept visit attempt' n (singleton v) s))
      ∙ solve_same n v _

-- ---- nothing but the edges' sides is read

module _ (n : ℕ) (l r p c t p' c' t' : List ℕ) where
  pub neighbors_same : (s x : ℕ) → neighborhood (edges_of n l r p c t) s x ≡ neighborhood (edges_of n l r p' c' t') s x
  unfolding neighborhood
  neighbors_same s x = go n 0 (omega arith)
    where
      go : (k i : ℕ) → i + k ≡ n → neighborhood (drop i (edges_of n l r p c t)) s x ≡ neighborhood (drop i (edges_of n l r p' c' t')) s x
      go zero i q = rw (edges_end n l r p c t i (omega arith), edges_end n l r p' c' t' i (omega arith))
      go (suc k) i q =
          rw (edges_at n l r p c t i (omega arith), edges_at n l r p' c' t' i (omega arith))
          (ap (bit_or (bit_or (beyond s x (get_or l i 0) (get_or r i 0)) (beyond s x (get_or r i 0) (get_or l i 0)))) (go k (i + 1) (omega arith)))

  pub connects_same : (a b : ℕ) → has_edge (edges_of n l r p c t) a b ≡ has_edge (edges_of n l r p' c' t') a b
  unfolding has_edge
  connects_same a b = go n 0 (omega arith)
    where
      go : (k i : ℕ) → i + k ≡ n → has_edge (drop i (edges_of n l r p c t)) a b ≡ has_edge (drop i (edges_of n l r p' c' t')) a b
      go zero i q = rw (edges_end n l r p c t i (omega arith), edges_end n l r p' c' t' i (omega arith))
      go (suc k) i q =
          rw (edges_at n l r p c t i (omega arith), edges_at n l r p' c' t' i (omega arith))
          (ap (λ (w : Bool). connects a b (edge_at l r [] [] [] i) || w) (go k (i + 1) (omega arith)))
