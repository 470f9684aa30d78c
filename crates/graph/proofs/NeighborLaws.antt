-- Where each edge has one leaf on each side, what the edges lead to from a set, without the set and x, is the set's neighborhood outside x, and
-- shows whether an edge connects two sets. What they lead to from a set is the union over its leaves. Assumes nothing.
use Rattle.std.specs.Prelude.{◌≡◌, ℕ, ◌+◌, ◌-◌, ◌^◌, ◌<◌, ◌≤◌, Bool, true, false, ◌&&◌, ◌||◌, ◌==◌, not, ◌≢◌, refl}
use Rattle.std.specs.Prelude.{List, [], ◌∷◌, length, get_or, set, drop, replicate}
use Rattle.std.proofs.Common.{sym, ap, ap₂, ◌∙◌, subst, ⊎_elim, arith, pow_pos, eq-eqb, ne_eqb, eqb-true, get_or-set_same, get_or-set_other, length-set}
use Rattle.std.proofs.Math.Pow.{pow-lt}
use Rattle.std.proofs.lemmas.Bool.{cases_eq}
use Rattle.std.proofs.lemmas.List.{length-replicate, get_or-replicate}
use Rattle.std.proofs.lemmas.Nat.{and_comm, and_assoc, and-not}
use Rattle.std.proofs.Math.Bool.{and_comm as bool_and_comm}
use Rattle.std.specs.Int.Bits.{bit_and, bit_or, or_self, or_zero_r, and_self, and_zero_r, or_add_and}
use Rattle.nodeset.specs.Sets.{within, disjoint, difference, singleton, lowest}
use Rattle.nodeset.specs.SetLaws.{or_assoc, Lowest, lowest_of, singleton_is, bit_one_cases, bit_one_other, apart_disjoint, remove_is}
use Rattle.definition.specs.EdgeView.{edges_of}
use Rattle.definition.proofs.EdgeViewLaws.{edges_at, edges_end}
use Rattle.definition.specs.Hypergraph.{Edge, has_edge, beyond, neighborhood}
use Rattle.graph.specs.Neighbors.{onto, across, one_leaf, one_leaf_each, is_simple, Adjacent}
use Rattle.graph.proofs.SetLaws.{and_or, or_swap, disjoint_or, disjoint_both, both, leaf_is, leaf_within, leaf_without}

-- ---- from a union of sets

onto_or : (near far a b : ℕ) → onto (bit_or a b) near far ≡ bit_or (onto a near far) (onto b near far)
unfolding onto
onto_or near far a b = rw (disjoint_both near a b, onto) (go (disjoint near a) (disjoint near b))
  where
    go : (p q : Bool) → elim (p && q) [ true ↦ 0 | false ↦ far ] ≡ bit_or (elim p [ true ↦ 0 | false ↦ far ]) (elim q [ true ↦ 0 | false ↦ far ])
    go true true = refl
    go true false = refl
    go false true = sym (or_zero_r far)
    go false false = sym (or_self far)

pub across_or : (es : List Edge) (a b : ℕ) → across es (bit_or a b) ≡ bit_or (across es a) (across es b)
unfolding across
across_or [] a b = refl
across_or (e ∷ es) a b =
    let l = λ (s : ℕ). onto s e.left e.right in
    let r = λ (s : ℕ). onto s e.right e.left in
    ap₂ bit_or (ap₂ bit_or (onto_or e.left e.right a b) (onto_or e.right e.left a b) ∙ or_swap (l a) (l b) (r a) (r b)) (across_or es a b)
    ∙ or_swap (bit_or (l a) (r a)) (bit_or (l b) (r b)) (across es a) (across es b)

onto_none : (near far : ℕ) → onto 0 near far ≡ 0
unfolding onto
onto_none near far = rw (and_zero_r near, onto)

pub across_none : (es : List Edge) → across es 0 ≡ 0
unfolding across
across_none [] = refl
across_none (e ∷ es) = rw (onto_none e.left e.right, onto_none e.right e.left) (across_none es)

-- ---- one leaf of a set, and the others

module _ (v : ℕ) (p : v ≢ 0) (h : v < 2 ^ 64) where
  abbrev leaf : ℕ
  leaf = singleton (lowest v)

  low : Lowest 64 v (lowest v)
  low = lowest_of v (omega (arith, p)) h

  pub lowest_below : lowest v < 64
  lowest_below = low.inside

  leaf_pow : leaf ≡ 2 ^ lowest v
  leaf_pow = singleton_is (lowest v) low.inside

  leaf_out : difference v leaf + leaf ≡ v
  leaf_out = rw leaf_pow (remove_is 64 v (lowest v) h low.inside low.has)

  leaf_and_rest : bit_or leaf (difference v leaf) ≡ v
  leaf_and_rest =
      let below : leaf < 2 ^ 64 = rw leaf_pow (pow-lt low.inside) in
      let none : bit_and (2 ^ 64 - 1 - leaf) leaf ≡ 0 = omega (arith, and-not 64 leaf leaf below below, and_self leaf) in
      let apart : bit_and (difference v leaf) leaf ≡ 0 = and_assoc leaf v (2 ^ 64 - 1 - leaf) ∙ rw none (and_zero_r v) in
      omega (arith, or_add_and leaf (difference v leaf), and_comm leaf (difference v leaf), leaf_out)

  pub rest_below : difference v leaf < v
  rest_below = omega (arith, leaf_out, leaf_pow, pow_pos (lowest v))

  -- one turn over the leaves of a set
  pub across_turn : (es : List Edge) (neighbors : List ℕ) (found : ℕ) → Adjacent es neighbors
      → bit_or (bit_or found (get_or neighbors (lowest v) 0)) (across es (difference v leaf)) ≡ bit_or found (across es v)
  across_turn es neighbors found a =
      let here = get_or neighbors (lowest v) 0 in
      let rest = across es (difference v leaf) in
      let whole : bit_or here rest ≡ across es v =
      ap (λ (z : ℕ). bit_or z rest) (a (lowest v) low.inside ∙ ap (across es) (sym leaf_pow)) ∙ sym (across_or es leaf (difference v leaf))
      ∙ ap (across es) leaf_and_rest in
      or_assoc found here rest ∙ ap (bit_or found) whole

-- ---- simple edges

module _ (near far : ℕ) (n : one_leaf near ≡ true) (f : one_leaf far ≡ true) where
  far_is : singleton (lowest far) ≡ far
  far_is = eqb-true (singleton (lowest far)) far (both (not (far == 0)) (singleton (lowest far) == far) f).1

  near_within : (s : ℕ) → within near s ≡ not (disjoint near s)
  near_within s = let t = leaf_is near n in rw t.1 (leaf_within (lowest near) s t.0)

  far_without : (y : ℕ) → y < 2 ^ 64 → difference far y ≡ elim (disjoint far y) [ true ↦ far | false ↦ 0 ]
  far_without y h =
      let t = leaf_is far f in
      subst (λ (z : ℕ). difference z y ≡ elim (disjoint z y) [ true ↦ z | false ↦ 0 ]) (sym t.1) (leaf_without (lowest far) y t.0 h)

  onto_beyond : (s x : ℕ) → bit_or s x < 2 ^ 64 → difference (onto s near far) (bit_or s x) ≡ beyond s x near far
  unfolding onto beyond
  onto_beyond s x h = rw (near_within s, beyond) (go (disjoint near s))
    where
      go : (p : Bool) → difference (elim p [ true ↦ 0 | false ↦ far ]) (bit_or s x)
          ≡ elim (not p && disjoint far s && disjoint far x) [ true ↦ singleton (lowest far) | false ↦ 0 ]
      go true = refl
      go false = far_without (bit_or s x) h ∙ ap₂ (λ (b : Bool) (v : ℕ). elim b [ true ↦ v | false ↦ 0 ]) (disjoint_both far s x) (sym far_is)

  onto_meets : (a b : ℕ) → not (disjoint (onto a near far) b) ≡ (within near a && not (disjoint far b))
  unfolding onto
  onto_meets a b = rw (near_within a) (go (disjoint near a))
    where
      go : (q : Bool) → not (disjoint (elim q [ true ↦ 0 | false ↦ far ]) b) ≡ (not q && not (disjoint far b))
      go true = refl
      go false = refl

pub neighborhood_simple : (es : List Edge) → is_simple es ≡ true → (s x : ℕ) → bit_or s x < 2 ^ 64
    → difference (across es s) (bit_or s x) ≡ neighborhood es s x
unfolding across is_simple neighborhood
neighborhood_simple [] t s x h = refl
neighborhood_simple (e ∷ es) t s x h =
    let k = both (one_leaf_each e.left e.right) (is_simple es) t in
    let l = both (one_leaf e.left) (one_leaf e.right) k.0 in
    let m = 2 ^ 64 - 1 - bit_or s x in
    and_or (bit_or (onto s e.left e.right) (onto s e.right e.left)) (across es s) m
    ∙ ap₂ bit_or
    (and_or (onto s e.left e.right) (onto s e.right e.left) m
    ∙ ap₂ bit_or (onto_beyond e.left e.right l.0 l.1 s x h) (onto_beyond e.right e.left l.1 l.0 s x h))
    (neighborhood_simple es k.1 s x h)

not_both : (p q r : Bool) → not (p && q && r) ≡ (not p || not q || not r)
not_both true true r = refl
not_both true false r = refl
not_both false q r = refl

pub has_edge_simple : (es : List Edge) → is_simple es ≡ true → (a b : ℕ) → not (disjoint (across es a) b) ≡ has_edge es a b
unfolding across is_simple has_edge
has_edge_simple [] t a b = refl
has_edge_simple (e ∷ es) t a b =
    let k = both (one_leaf_each e.left e.right) (is_simple es) t in
    let l = both (one_leaf e.left) (one_leaf e.right) k.0 in
    let p = onto a e.left e.right in
    let q = onto a e.right e.left in
    let left : not (disjoint p b) ≡ (within e.left a && within e.right b) =
    onto_meets e.left e.right l.0 l.1 a b ∙ ap (λ (z : Bool). within e.left a && z) (sym (near_within e.right e.left l.1 l.0 b)) in
    let right : not (disjoint q b) ≡ (within e.left b && within e.right a) =
    onto_meets e.right e.left l.1 l.0 a b ∙ ap (λ (z : Bool). within e.right a && z) (sym (near_within e.left e.right l.0 l.1 b))
    ∙ bool_and_comm (within e.right a) (within e.left b) in
    ap not (disjoint_or (bit_or p q) (across es a) b ∙ ap (λ (z : Bool). z && disjoint (across es a) b) (disjoint_or p q b))
    ∙ not_both (disjoint p b) (disjoint q b) (disjoint (across es a) b)
    ∙ ap₂ (λ (x y : Bool). x || y) (ap₂ (λ (x y : Bool). x || y) left right) (has_edge_simple es k.1 a b)

-- ---- the neighbour sets, edge by edge

-- after some edges: es are still to come, and whole are all
pub record Grown (whole es : List Edge) (neighbors : List ℕ) : Type 0 where
  pub tested : is_simple es ≡ is_simple whole
  pub long : length neighbors ≡ 64
  pub each : (i : ℕ) → i < 64 → bit_or (get_or neighbors i 0) (across es (2 ^ i)) ≡ across whole (2 ^ i)

-- far is added where near has its leaf
abbrev led : List ℕ → ℕ → ℕ → List ℕ
led neighbors u far = set neighbors u (bit_or (get_or neighbors u 0) far)

module _ (near far : ℕ) (n : one_leaf near ≡ true) where
  onto_own : onto (2 ^ lowest near) near far ≡ far
  unfolding onto
  onto_own =
      let t = leaf_is near n in
      let some : bit_and near near ≢ 0 = λ z. omega (arith, and_self near, t.1, pow_pos (lowest near)) in
      subst (λ (z : ℕ). onto z near far ≡ far) t.1 (rw (ne_eqb (bit_and near near) 0 some, onto))

  onto_other : (i : ℕ) → i < 64 → i ≢ lowest near → onto (2 ^ i) near far ≡ 0
  unfolding onto
  onto_other i h o =
      let t = leaf_is near n in
      let none : bit_and near (2 ^ i) ≡ 0 =
      ap (λ (z : ℕ). bit_and z (2 ^ i)) t.1
      ∙ apart_disjoint (2 ^ lowest near) (2 ^ i) (pow-lt t.0)
      (λ j.
      ⊎_elim (λ z. omega arith) (λ (z : lowest near ≡ j). omega (arith, bit_one_other i j (λ w. o (w ∙ sym z)))) (bit_one_cases (lowest near) j)) in
      rw (eq-eqb (bit_and near (2 ^ i)) 0 none, onto)

  led_at : (neighbors : List ℕ) (u : ℕ) → u ≡ lowest near → length neighbors ≡ 64 → (i : ℕ) → i < 64
      → get_or (led neighbors u far) i 0 ≡ bit_or (get_or neighbors i 0) (onto (2 ^ i) near far)
  led_at neighbors u e k i h =
      ⊎_elim
      (λ (z : i ≡ u).
      rw z
      (get_or-set_same neighbors u _ 0 (omega arith) ∙ ap (bit_or (get_or neighbors u 0)) (sym (ap (λ (w : ℕ). onto (2 ^ w) near far) e ∙ onto_own))))
      (λ (z : i ≢ u).
      get_or-set_other neighbors u i _ 0 z ∙ sym (or_zero_r (get_or neighbors i 0))
      ∙ ap (bit_or (get_or neighbors i 0)) (sym (onto_other i h (λ w. z (w ∙ sym e)))))
      (cases_eq i u)

grown_on : (whole : List Edge) (e : Edge) (es : List Edge) (neighbors : List ℕ) (u v : ℕ) → Grown whole (e ∷ es) neighbors
    → one_leaf_each e.left e.right ≡ true → u ≡ lowest e.left → v ≡ lowest e.right → Grown whole es (led (led neighbors u e.right) v e.left)
unfolding across is_simple
grown_on whole e es neighbors u v g t f k =
    let l = (both (one_leaf e.left) (one_leaf e.right) t).0 in
    let r = (both (one_leaf e.left) (one_leaf e.right) t).1 in
    let one = led neighbors u e.right in
    let long : length one ≡ 64 = length-set neighbors u _ ∙ g.long in
    record {
      tested = rw (l, r) at g.tested;
      long = length-set one v _ ∙ long;
      each = λ i h.
          let p = onto (2 ^ i) e.left e.right in
          let q = onto (2 ^ i) e.right e.left in
          ap (λ (z : ℕ). bit_or z (across es (2 ^ i)))
          (led_at e.right e.left r one v k long i h ∙ ap (λ (z : ℕ). bit_or z q) (led_at e.left e.right l neighbors u f g.long i h)
          ∙ or_assoc (get_or neighbors i 0) p q)
          ∙ or_assoc (get_or neighbors i 0) (bit_or p q) (across es (2 ^ i)) ∙ g.each i h;
    }

grown_no : (whole : List Edge) (e : Edge) (es : List Edge) (neighbors : List ℕ) → Grown whole (e ∷ es) neighbors
    → one_leaf_each e.left e.right ≡ false → is_simple whole ≡ false
unfolding is_simple
grown_no whole e es neighbors g n = sym g.tested ∙ ap (λ (b : Bool). b && is_simple es) n

-- the edges of the lists of sides l and r
module _ (n : ℕ) (l r : List ℕ) where
  abbrev whole : List Edge
  whole = edges_of n l r [] [] []

  pub grown_first : Grown whole whole (replicate 64 0)
  grown_first =
      record {
        tested = refl;
        long = length-replicate {A = ℕ} 64 0;
        each = λ i h. ap (λ (z : ℕ). bit_or z (across whole (2 ^ i))) (get_or-replicate 64 i 0 0 h);
      }

  module _ (i a b : ℕ) (neighbors : List ℕ) (h : i < n) (f : a ≡ get_or l i 0) (k : b ≡ get_or r i 0) (g : Grown whole (drop i whole) neighbors) where
    step : Grown whole (record { left = a; right = b; predicate = 0; source = 0; type = 0 } ∷ drop (i + 1) whole) neighbors
    step = rw (f, k) (rw (edges_at n l r [] [] [] i h) at g)

    -- an edge with one leaf on each side
    pub grown_next : (u v : ℕ) → one_leaf_each a b ≡ true → u ≡ lowest a → v ≡ lowest b
        → Grown whole (drop (i + 1) whole) (led (led neighbors u b) v a)
    grown_next u v = grown_on whole _ (drop (i + 1) whole) neighbors u v step

    -- another
    pub grown_other : one_leaf_each a b ≡ false → is_simple whole ≡ false
    grown_other = grown_no whole _ (drop (i + 1) whole) neighbors step

  -- all of them
  module _ (i : ℕ) (neighbors : List ℕ) (h : n ≤ i) (g : Grown whole (drop i whole) neighbors) where
    at_end : Grown whole [] neighbors
    at_end = rw (edges_end n l r [] [] [] i h) at g

    pub simple_last : true ≡ is_simple whole
    unfolding is_simple
    simple_last = at_end.tested

    pub adjacent_last : Adjacent whole neighbors
    unfolding across
    adjacent_last i h = sym (or_zero_r (get_or neighbors i 0)) ∙ at_end.each i h
