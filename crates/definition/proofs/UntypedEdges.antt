-- The search does not read the edges' types: it is the same over the edges without them. Assumes nothing.
use Rattle.std.specs.Prelude.{◌≡◌, List, [], ◌∷◌, ◌++◌, map, Bool, true, false, ◌&&◌, ◌||◌, length, get_or, Float}
use Rattle.std.proofs.Math.Path.{refl, ap, ap₂}
use Rattle.std.proofs.Common.{◌∙◌}
use Rattle.std.proofs.lemmas.List.{map-append}
use Rattle.std.proofs.Math.Option.{some}
use Prim.Native.Nat.{ℕ, zero, suc}
use Rattle.std.specs.Int.Bits.{bit_or}
use Rattle.nodeset.specs.Sets.{singleton, all_below, up_to_lowest}
use Rattle.nodeset.specs.Subsets.{non_empty_subsets, singletons}
use Rattle.definition.specs.Lists.{tabulate}
use Rattle.definition.specs.Hypergraph.{Edge, no_edge, connects, has_edge, connecting_from, connecting, beyond, neighborhood, has_predicate}
use Rattle.definition.specs.EdgeView.{edge_at, edges_of}
use Rattle.definition.specs.Cost.{product, filtered}
use Rattle.definition.specs.Connection.{any_predicate, candidate_kind, selectivities_of, connection_over}
use Rattle.definition.specs.Walk.{each, try_connected, try_edge, enumerate_cmp_rec, emit_csg, emit_kept, enumerate_csg_rec, solve_from}
use Rattle.definition.specs.Search.{Input, State, plan_at, kept, visit, connection_for, attempt, start, search}
use Rattle.definition.proofs.StepLaws.{attempt_alike}

-- ---- the walk is the same for other edges with the same neighbours and connections, and for the same candidates

each_same : {A S : Type 0} (f g : A → S → S) → ((a : A) (s : S) → f a s ≡ g a s) → (l : List A) (s : S) → each f l s ≡ each g l s
each_same f g h [] s = refl
each_same f g h (a ∷ l) s = ap (each f l) (h a s) ∙ each_same f g h l (g a s)

elim_same : {A : Type 0} (b c : Bool) → b ≡ c → (z : A) {x y : A} → x ≡ y
    → ◌≡◌ {A = A} (elim b [ true ↦ x | false ↦ z ]) (elim c [ true ↦ y | false ↦ z ])
elim_same {A} b c e z q = ap₂ (λ (d : Bool) (w : A). elim d [ true ↦ w | false ↦ z ]) e q

module _ (es es' : List Edge) (same-neighbors : (s x : ℕ) → neighborhood es s x ≡ neighborhood es' s x)
    (same-edge : (a b : ℕ) → has_edge es a b ≡ has_edge es' a b)
    (S : Type 0) (kept : S → ℕ → Bool) (visit : S → S) (attempt attempt' : ℕ → ℕ → S → S)
    (same_attempt : (a b : ℕ) (s : S) → attempt a b s ≡ attempt' a b s) where
  connected_same : (s1 c : ℕ) (s : S) → try_connected es S kept visit attempt s1 c s ≡ try_connected es' S kept visit attempt' s1 c s
  connected_same s1 c s = elim_same _ _ (ap (λ (b : Bool). kept s c && b) (same-edge s1 c)) s (same_attempt s1 c s)

  cmp_same : (d s1 s2 x : ℕ) (s : S) → enumerate_cmp_rec es S kept visit attempt d s1 s2 x s ≡ enumerate_cmp_rec es' S kept visit attempt' d s1 s2 x s
  unfolding enumerate_cmp_rec
  cmp_same zero s1 s2 x s = refl
  cmp_same (suc d) s1 s2 x s =
      ap₂ (λ (n : ℕ) (u : S). each (λ t v. enumerate_cmp_rec es S kept visit attempt d s1 (bit_or s2 t) (bit_or x n) (visit v)) (non_empty_subsets n) u)
      (same-neighbors s2 x)
      (each_same _ (λ t v. try_connected es' S kept visit attempt' s1 (bit_or s2 t) (visit v)) (λ t v. connected_same s1 (bit_or s2 t) (visit v)) (non_empty_subsets (neighborhood es s2 x)) s
      ∙ ap (λ (n : ℕ). each (λ t v. try_connected es' S kept visit attempt' s1 (bit_or s2 t) (visit v)) (non_empty_subsets n) s) (same-neighbors s2 x))
      ∙ each_same _ _ (λ t v. cmp_same d s1 (bit_or s2 t) (bit_or x (neighborhood es' s2 x)) (visit v)) (non_empty_subsets (neighborhood es' s2 x)) _

  emit_same : (d s1 : ℕ) (s : S) → emit_csg es S kept visit attempt d s1 s ≡ emit_csg es' S kept visit attempt' d s1 s
  unfolding emit_csg
  emit_same d s1 s =
      let x = bit_or s1 (up_to_lowest s1) in
      ap (λ (n : ℕ). each (λ v u. enumerate_cmp_rec es S kept visit attempt d s1 v x (try_edge es S kept visit attempt s1 v u)) (singletons n) s)
      (same-neighbors s1 x)
      ∙ each_same _ _
      (λ v u.
      ap (enumerate_cmp_rec es S kept visit attempt d s1 v x) (elim_same _ _ (same-edge s1 v) u (same_attempt s1 v u))
      ∙ cmp_same d s1 v x (try_edge es' S kept visit attempt' s1 v u)) (singletons (neighborhood es' s1 x)) s

  csg_same : (e d s1 x : ℕ) (s : S) → enumerate_csg_rec es S kept visit attempt e d s1 x s ≡ enumerate_csg_rec es' S kept visit attempt' e d s1 x s
  unfolding enumerate_csg_rec
  csg_same e zero s1 x s = refl
  csg_same e (suc d) s1 x s =
      ap₂ (λ (n : ℕ) (u : S). each (λ t v. enumerate_csg_rec es S kept visit attempt e d (bit_or s1 t) (bit_or x n) (visit v)) (non_empty_subsets n) u)
      (same-neighbors s1 x)
      (each_same _ (λ t v. emit_kept es' S kept visit attempt' e (bit_or s1 t) (visit v))
      (λ t v. elim_same (kept (visit v) (bit_or s1 t)) _ refl (visit v) (emit_same e (bit_or s1 t) (visit v))) (non_empty_subsets (neighborhood es s1 x)) s
      ∙ ap (λ (n : ℕ). each (λ t v. emit_kept es' S kept visit attempt' e (bit_or s1 t) (visit v)) (non_empty_subsets n) s) (same-neighbors s1 x))
      ∙ each_same _ _ (λ t v. csg_same e d (bit_or s1 t) (bit_or x (neighborhood es' s1 x)) (visit v)) (non_empty_subsets (neighborhood es' s1 x)) _

  from_same : (n v : ℕ) (s : S) → solve_from es S kept visit attempt n v s ≡ solve_from es' S kept visit attempt' n v s
  unfolding solve_from
  from_same n zero s = refl
  from_same n (suc v) s =
      ap (solve_from es S kept visit attempt n v)
      (ap (enumerate_csg_rec es S kept visit attempt n n (singleton v) (all_below (suc v))) (emit_same n (singleton v) s)
      ∙ csg_same n n (singleton v) (all_below (suc v)) (emit_csg es' S kept visit attempt' n (singleton v) s))
      ∙ from_same n v _

-- ---- edges without their types

abbrev pub untyped : Edge → Edge
untyped e = record { left = e.left; right = e.right; predicate = e.predicate; source = e.source; type = 0 }

neighbors_untyped : (es : List Edge) (s x : ℕ) → neighborhood (map untyped es) s x ≡ neighborhood es s x
unfolding neighborhood
neighbors_untyped [] s x = refl
neighbors_untyped (e ∷ es) s x = ap (bit_or (bit_or (beyond s x e.left e.right) (beyond s x e.right e.left))) (neighbors_untyped es s x)

edge-untyped : (es : List Edge) (a b : ℕ) → has_edge (map untyped es) a b ≡ has_edge es a b
unfolding has_edge
edge-untyped [] a b = refl
edge-untyped (e ∷ es) a b = ap (λ (c : Bool). connects a b e || c) (edge-untyped es a b)

connecting-untyped : (i : ℕ) (es : List Edge) (a b : ℕ) → connecting_from i (map untyped es) a b ≡ connecting_from i es a b
unfolding connecting_from
connecting-untyped i [] a b = refl
connecting-untyped i (e ∷ es) a b =
    ap (λ (l : List ℕ). elim (connects a b e) [ true ↦ i ∷ l | false ↦ l ]) (connecting-untyped (suc i) es a b)

get_untyped : (es : List Edge) (c : ℕ) → get_or (map untyped es) c no_edge ≡ untyped (get_or es c no_edge)
get_untyped [] c = refl
get_untyped (e ∷ es) zero = refl
get_untyped (e ∷ es) (suc c) = get_untyped es c

any_untyped : (es : List Edge) (cs : List ℕ) → any_predicate (map untyped es) cs ≡ any_predicate es cs
unfolding any_predicate
any_untyped es [] = refl
any_untyped es (c ∷ cs) = ap₂ (λ (e : Edge) (b : Bool). has_predicate e || b) (get_untyped es c) (any_untyped es cs)

selectivities_untyped : (es : List Edge) (ss cs : List ℕ) → selectivities_of (map untyped es) ss cs ≡ selectivities_of es ss cs
unfolding selectivities_of
selectivities_untyped es ss [] = refl
selectivities_untyped es ss (c ∷ cs) =
    ap₂ (λ (e : Edge) (l : List ℕ). elim (has_predicate e) [ true ↦ get_or ss e.predicate 0 ∷ l | false ↦ l ]) (get_untyped es c) (selectivities_untyped es ss cs)

-- ---- the search

abbrev pub untyped_input : Input → Input
untyped_input i =
    record { leaves = i.leaves; edges = map untyped i.edges; kinds = i.kinds; selectivities = i.selectivities; plan_room = i.plan_room; memo_room = i.memo_room; limit = i.limit }

connection_untyped : (es : List Edge) (ks ss cs : List ℕ) (p : Float) → connection_over (map untyped es) ks ss cs p ≡ connection_over es ks ss cs p
unfolding connection_over
connection_untyped es ks ss [] p = refl
connection_untyped es ks ss (c ∷ cs) p =
    let kind = ap₂ (λ (b : Bool) (e : Edge). candidate_kind b (get_or ks e.source 0)) (any_untyped es (c ∷ cs)) (get_untyped es c) in
    ap₂ (λ (k : ℕ) (l : List ℕ). some (record { lead = c; kind = k; rows = filtered p l })) kind (selectivities_untyped es ss (c ∷ cs))

for_untyped : (i : Input) (st : State) (a b l r : ℕ) → connection_for (untyped_input i) st.plans a b l r ≡ connection_for i st.plans a b l r
for_untyped i st a b l r =
    let p = product (plan_at st l).estimate (plan_at st r).estimate in
    connection_untyped i.edges i.kinds i.selectivities (connecting (map untyped i.edges) a b) p
    ∙ ap (λ (cs : List ℕ). connection_over i.edges i.kinds i.selectivities cs p) (connecting-untyped 0 i.edges a b)

pub search-untyped : (i : Input) → search (untyped_input i) ≡ search i
unfolding search start visit
search-untyped i =
    from_same (map untyped i.edges) i.edges (neighbors_untyped i.edges) (edge-untyped i.edges) State kept (visit i) (attempt (untyped_input i))
    (attempt i) (attempt_alike (untyped_input i) i refl refl (for_untyped i)) (length i.leaves) (length i.leaves) (start i)

-- held as lists: the list of types left out
pub edges-untyped : (n : ℕ) (l r p s t : List ℕ) → map untyped (edges_of n l r p s t) ≡ edges_of n l r p s []
unfolding edges_of tabulate
edges-untyped zero l r p s t = refl
edges-untyped (suc n) l r p s t =
    map-append untyped (edges_of n l r p s t) (edge_at l r p s t n ∷ []) ∙ ap (λ (es : List Edge). es ++ (edge_at l r p s [] n ∷ [])) (edges-untyped n l r p s t)
