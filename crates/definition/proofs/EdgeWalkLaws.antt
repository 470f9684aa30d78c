-- The walk over the edges that keeps no list of edge numbers gives what Connection.antt defines over the listed ones. Assumes nothing.
use Rattle.std.specs.Prelude.{◌≡◌, refl, Bool, true, false, ◌||◌, List, [], ◌∷◌, ℕ, suc, ◌+◌, ◌≤◌, ◌<◌, get_or, drop, Float}
use Rattle.std.proofs.Math.Path.{sym, ap}
use Rattle.std.proofs.Math.Option.{Option, none, some}
use Rattle.std.proofs.Common.{◌∙◌, arith}
use Rattle.std.proofs.Math.Bool.{or-false, or_assoc}
use Rattle.std.proofs.Math.Numerals.{add-one}
use Rattle.definition.specs.Hypergraph.{Edge, no_edge, connects, has_predicate, connecting, connecting_from}
use Rattle.definition.specs.Cost.{filtered}
use Rattle.definition.specs.Connection.{Connection, any_predicate, selectivities_of, connection_over, connection}
use Rattle.definition.specs.EdgeWalk.{Gathered, gathered, lead_after, rows_after, gathered_after, edge_walk_from, edge_walk, connection_gathered}
use Rattle.definition.specs.EdgeView.{edge_at, edges_of}
use Rattle.definition.specs.Kept.{EdgeBetween}
use Rattle.definition.proofs.TakenLaws.{connection_there}
use Rattle.definition.proofs.EdgeViewLaws.{edges_at, edges_end}

-- ---- what was gathered so far, and the connecting edges cs yet to come

abbrev lead_with : Option ℕ → List ℕ → Option ℕ
lead_with l [] = l
lead_with l (c ∷ cs) = lead_after l c

-- a lead that is there is not replaced by the edges yet to come
lead_stays : (l : Option ℕ) (i : ℕ) (cs : List ℕ) → lead_with (lead_after l i) cs ≡ lead_after l i
lead_stays none i [] = refl
lead_stays none i (c ∷ cs) = refl
lead_stays (some l) i [] = refl
lead_stays (some l) i (c ∷ cs) = refl

module _ (es : List Edge) (ss : List ℕ) where
  abbrev with_listed : List ℕ → Gathered → Gathered
  with_listed cs g = gathered (lead_with g.lead cs) (g.filters || any_predicate es cs) (filtered g.rows (selectivities_of es ss cs))

  with_none : (g : Gathered) → with_listed [] g ≡ g
  unfolding any_predicate selectivities_of filtered
  with_none g = ap (λ (f : Bool). gathered g.lead f g.rows) (or-false g.filters)

  rows_listed : (cs : List ℕ) (i : ℕ) (x : Float)
      → filtered (rows_after ss (get_or es i no_edge) x) (selectivities_of es ss cs) ≡ filtered x (selectivities_of es ss (i ∷ cs))
  unfolding rows_after selectivities_of filtered
  rows_listed cs i x = go (has_predicate (get_or es i no_edge)) refl
    where
      go : (b : Bool) → has_predicate (get_or es i no_edge) ≡ b
          → filtered (rows_after ss (get_or es i no_edge) x) (selectivities_of es ss cs) ≡ filtered x (selectivities_of es ss (i ∷ cs))
      go true e = rw (e, rows_after, selectivities_of, filtered)
      go false e = rw (e, rows_after, selectivities_of)

  one_listed : (cs : List ℕ) (i : ℕ) (g : Gathered) → with_listed cs (gathered_after ss i (get_or es i no_edge) g) ≡ with_listed (i ∷ cs) g
  unfolding gathered_after any_predicate
  one_listed cs i g = rw (lead_stays g.lead i cs, or_assoc, rows_listed cs i g.rows)

  -- the walk over the edges from number i on
  walk_listed : (a b i : ℕ) (rest : List Edge) → ((k : ℕ) → get_or es (i + k) no_edge ≡ get_or rest k no_edge) → (g : Gathered)
      → edge_walk_from ss a b i rest g ≡ with_listed (connecting_from i rest a b) g
  unfolding edge_walk_from connecting_from
  walk_listed a b i [] same g = sym (with_none g)
  walk_listed a b i (e ∷ rest) same g =
      let next : (k : ℕ) → get_or es (suc i + k) no_edge ≡ get_or rest k no_edge =
      λ k. let z : suc i + k ≡ i + suc k = omega arith in ap (λ (j : ℕ). get_or es j no_edge) z ∙ same (suc k) in
      let here : get_or es i no_edge ≡ e = let z : i ≡ i + 0 = omega arith in ap (λ (j : ℕ). get_or es j no_edge) z ∙ same 0 in
      go (connects a b e) here (walk_listed a b (suc i) rest next)
    where
      go : (t : Bool) → get_or es i no_edge ≡ e
          → ((x : Gathered) → edge_walk_from ss a b (suc i) rest x ≡ with_listed (connecting_from (suc i) rest a b) x)
          → edge_walk_from ss a b (suc i) rest (elim t [ true ↦ gathered_after ss i e g | false ↦ g ])
          ≡ with_listed (elim t [ true ↦ i ∷ connecting_from (suc i) rest a b | false ↦ connecting_from (suc i) rest a b ]) g
      go true here rest_walked =
          rest_walked (gathered_after ss i e g)
          ∙ ap (λ (x : Edge). with_listed (connecting_from (suc i) rest a b) (gathered_after ss i x g)) (sym here)
          ∙ one_listed (connecting_from (suc i) rest a b) i g
      go false here rest_walked = rest_walked g

  walk_all : (a b : ℕ) (p : Float) → edge_walk es ss a b p ≡ with_listed (connecting es a b) (gathered none false p)
  walk_all a b p =
      let same : (k : ℕ) → get_or es (0 + k) no_edge ≡ get_or es k no_edge = λ k. let z : 0 + k ≡ k = omega arith in ap (λ (j : ℕ). get_or es j no_edge) z in
      walk_listed a b 0 es same (gathered none false p)

-- Request 2026-03: "for any edges and any two sets that one connects, the walk's kind, lead edge and rows are proved equal to it." For any
-- selectivities and kinds too; sides may be empty or overlap.
pub edge_walk_connection : (es : List Edge) (ks ss : List ℕ) (a b : ℕ) (p : Float)
    → connection_gathered es ks (edge_walk es ss a b p) ≡ connection es ks ss a b p
unfolding connection_over
edge_walk_connection es ks ss a b p = ap (connection_gathered es ks) (walk_all es ss a b p) ∙ listed (connecting es a b)
  where
    listed : (cs : List ℕ) → connection_gathered es ks (with_listed es ss cs (gathered none false p)) ≡ connection_over es ks ss cs p
    listed [] = refl
    listed (c ∷ cs) = refl

-- so where one connects them, both give something, and the same lead edge, kind and rows
pub edge_walk_connected : (es : List Edge) (ks ss : List ℕ) (a b : ℕ) (p : Float) → EdgeBetween es a b
    → (t : Connection) × (connection es ks ss a b p ≡ some t) × (connection_gathered es ks (edge_walk es ss a b p) ≡ some t)
edge_walk_connected es ks ss a b p x =
    let t = connection_there es ks ss a b p x in
    (t.0, t.1, edge_walk_connection es ks ss a b p ∙ t.1)

-- ---- the edges of parallel lists, from number i on

module _ (n : ℕ) (l r p ss : List ℕ) (a b : ℕ) (s t : List ℕ) where
  abbrev pub edge_walk_on : ℕ → Gathered → Gathered
  edge_walk_on i g = edge_walk_from ss a b i (drop i (edges_of n l r p s t)) g

  pub edge_walk_end : (i : ℕ) (g : Gathered) → n ≤ i → edge_walk_on i g ≡ g
  unfolding edge_walk_from
  edge_walk_end i g h = rw (edges_end n l r p s t i h)

  -- an edge that connects, and one that does not
  pub edge_walk_connects : (i : ℕ) (g : Gathered) → i < n → connects a b (edge_at l r p s t i) ≡ true
      → edge_walk_on (i + 1) (gathered_after ss i (edge_at l r p s t i) g) ≡ edge_walk_on i g
  unfolding edge_walk_from
  edge_walk_connects i g h e = sym (rw (edges_at n l r p s t i h, e, edge_walk_from, add-one i))

  pub edge_walk_passes : (i : ℕ) (g : Gathered) → i < n → connects a b (edge_at l r p s t i) ≡ false → edge_walk_on (i + 1) g ≡ edge_walk_on i g
  unfolding edge_walk_from
  edge_walk_passes i g h e = sym (rw (edges_at n l r p s t i h, e, edge_walk_from, add-one i))
