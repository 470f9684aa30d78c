-- What a candidate takes from its connecting edges: kind and rows come from their list; there is something to take where an edge connects the two
-- sets, and nowhere else, since the lead edge is then the lowest edge that does. Assumes nothing.
use Rattle.std.specs.Prelude.{◌≡◌, refl, Bool, true, false, List, [], ◌∷◌, ℕ, zero, suc, ◌+◌, ◌<◌, length, get_or, Float}
use Rattle.std.proofs.Common.{subst, not-suc-le-zero, arith}
use Rattle.std.proofs.Math.Option.{Option, some}
use Rattle.definition.specs.Hypergraph.{Edge, no_edge, connects, connecting, connecting_from}
use Rattle.definition.specs.Cost.{filtered}
use Rattle.definition.specs.Connection.{Connection, any_predicate, source_kind, candidate_kind, selectivities_of, connection_over, connection}
use Rattle.definition.specs.Kept.{EdgeBetween}

-- ---- over a list of edge numbers

-- t is taken from the list cs, which has an edge
pub record TakenFrom (es : List Edge) (ks ss cs : List ℕ) (p : Float) (t : Connection) : Type 0 where
  pub others : List ℕ
  pub lead : cs ≡ t.lead ∷ others
  pub kind : t.kind ≡ candidate_kind (any_predicate es cs) (source_kind es ks t.lead)
  pub rows : t.rows ≡ filtered p (selectivities_of es ss cs)

module _ (es : List Edge) (ks ss : List ℕ) (p : Float) where
  taken_first : (c : ℕ) (cs : List ℕ) (t u : Connection) → ◌≡◌ {A = Option Connection} (some u) (some t) → TakenFrom es ks ss (c ∷ cs) p u
      → TakenFrom es ks ss (c ∷ cs) p t
  taken_first c cs t u h x = let e : u ≡ t = cc in subst (TakenFrom es ks ss (c ∷ cs) p) e x

  pub taken_from : (cs : List ℕ) (t : Connection) → connection_over es ks ss cs p ≡ some t → TakenFrom es ks ss cs p t
  unfolding connection_over
  taken_from [] t h = let z : ◌≡◌ {A = ℕ} 0 1 = cc in absurd (omega arith)
  taken_from (c ∷ cs) t h = taken_first c cs t _ h (record { others = cs; lead = refl; kind = refl; rows = refl })

-- ---- the list of the connecting edges, from number i on

-- edge c connects a and b, and no lower edge does
pub record LowestBetween (es : List Edge) (a b c : ℕ) : Type 0 where
  pub there : c < length es
  pub between : connects a b (get_or es c no_edge) ≡ true
  pub lower : (k : ℕ) → k < c → connects a b (get_or es k no_edge) ≡ false

pub lowest_between : {es : List Edge} {a b c : ℕ} → LowestBetween es a b c → EdgeBetween es a b
lowest_between {c = c} x = record { edge = c; there = x.there; between = x.between }

-- the first edge of the list, counted from i
listed_first : (i : ℕ) (es : List Edge) (a b c : ℕ) (cs : List ℕ) → connecting_from i es a b ≡ c ∷ cs → (k : ℕ) × (c ≡ i + k) × LowestBetween es a b k
unfolding connecting_from
listed_first i [] a b c cs h = let z : ◌≡◌ {A = ℕ} 0 1 = cc in absurd (omega arith)
listed_first i (x ∷ es) a b c cs h = go (connects a b x) refl h (listed_first (suc i) es a b c cs)
  where
    go : (t : Bool) → connects a b x ≡ t → elim t [ true ↦ i ∷ connecting_from (suc i) es a b | false ↦ connecting_from (suc i) es a b ] ≡ c ∷ cs
        → (connecting_from (suc i) es a b ≡ c ∷ cs → (k : ℕ) × (c ≡ suc i + k) × LowestBetween es a b k) → (k : ℕ) × (c ≡ i + k) × LowestBetween (x ∷ es) a b k
    go true e q rest =
        let w : i ≡ c = cc in (0, omega arith, record { there = omega arith; between = e; lower = λ k l. absurd (not-suc-le-zero l) })
    go false e q rest = behind e (rest q)
      where
        behind : connects a b x ≡ false → (k : ℕ) × (c ≡ suc i + k) × LowestBetween es a b k → (k : ℕ) × (c ≡ i + k) × LowestBetween (x ∷ es) a b k
        behind e (k, n, l) = (suc k, omega arith, record { there = omega (arith, l.there); between = l.between; lower = lower })
          where
            lower : (j : ℕ) → j < suc k → connects a b (get_or (x ∷ es) j no_edge) ≡ false
            lower zero h = e
            lower (suc j) h = l.lower j (omega arith)

listed_there : (i : ℕ) (es : List Edge) (a b k : ℕ) → k < length es → connects a b (get_or es k no_edge) ≡ true
    → (c : ℕ) × (cs : List ℕ) × (connecting_from i es a b ≡ c ∷ cs)
unfolding connecting_from
listed_there i [] a b k h e = absurd (omega arith)
listed_there i (x ∷ es) a b zero h e = (i, connecting_from (suc i) es a b, rw (e, connecting_from))
listed_there i (x ∷ es) a b (suc k) h e = go (connects a b x) (listed_there (suc i) es a b k (omega arith) e)
  where
    go : (t : Bool) → (c : ℕ) × (cs : List ℕ) × (connecting_from (suc i) es a b ≡ c ∷ cs)
        → (c : ℕ) × (cs : List ℕ) × (elim t [ true ↦ i ∷ connecting_from (suc i) es a b | false ↦ connecting_from (suc i) es a b ] ≡ c ∷ cs)
    go true r = (i, connecting_from (suc i) es a b, refl)
    go false r = r

-- ---- of two sets

module _ (es : List Edge) (ks ss : List ℕ) (a b : ℕ) (p : Float) where
  -- "lead edge (lowest connecting edge)"
  pub lead_lowest : (t : Connection) → connection es ks ss a b p ≡ some t → LowestBetween es a b t.lead
  lead_lowest t h = let x = taken_from es ks ss p (connecting es a b) t h in go (listed_first 0 es a b t.lead x.others x.lead)
    where
      go : (k : ℕ) × (t.lead ≡ 0 + k) × LowestBetween es a b k → LowestBetween es a b t.lead
      go (k, e, l) = let z : k ≡ t.lead = omega arith in subst (LowestBetween es a b) z l

  pub connection_there : EdgeBetween es a b → (t : Connection) × (connection es ks ss a b p ≡ some t)
  unfolding connection_over
  connection_there x = go (connecting es a b) (listed_there 0 es a b x.edge x.there x.between)
    where
      go : (l : List ℕ) → (c : ℕ) × (cs : List ℕ) × (l ≡ c ∷ cs) → (t : Connection) × (connection_over es ks ss l p ≡ some t)
      go [] (c, cs, e) = let z : ◌≡◌ {A = ℕ} 0 1 = cc in absurd (omega arith)
      go (c ∷ cs) e = (_, refl)
