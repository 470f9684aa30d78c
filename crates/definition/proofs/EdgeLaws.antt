-- Every edge that edge building makes is good: both sides have a leaf, lie in the question's leaves, and share none. Assumes nothing.
use Rattle.std.specs.Prelude.{◌≡◌, ◌⊎◌, Bool, ◌&&◌, length}
use Rattle.std.proofs.Math.Path.{refl, ap, ap₂, subst}
use Rattle.std.proofs.Common.{sym, ◌∙◌, inl, le_refl, eq-zero-or-pos, lt_of_lt_of_le, lt_of_not-le, one-mul, pow-suc, arith, pow_pos, pow_mono, eqb-true}
use Rattle.std.proofs.Math.Logic.{inr}
use Rattle.std.proofs.Math.Bool.{true, false}
use mathlib.Core.List.{List, [], ◌∷◌}
use Prim.Native.Nat.{ℕ, suc, ◌+◌, ◌-◌, ◌^◌, ◌≤◌, ◌<◌}
use Rattle.std.proofs.Math.Numerals.{add-one}
use Rattle.std.proofs.Math.Decide.{dec_le}
use Rattle.std.proofs.Math.Pow.{pow-lt, ones_lt}
use Rattle.std.proofs.Math.ListN.{length-append}
use Rattle.std.proofs.Math.Dec.{eqb}
use Rattle.std.specs.Int.Bits.{bit_or}
use Rattle.std.proofs.lemmas.Nat.{or_lt, or_comm, or_shifted}
use Rattle.std.proofs.lemmas.Bool.{eqb-false}
use Rattle.nodeset.specs.Sets.{bit, singleton, lowest, Apart, In}
use Rattle.nodeset.specs.SetLaws.{bit-lt, bit_high, bit_empty, bit-or, or_assoc, bit_one_cases, singleton_is, lowest_of}
use Rattle.nodeset.specs.SubsetLaws.{All}
use Rattle.definition.specs.Lists.{concat_map, member}
use Rattle.definition.specs.Question.{Range, part, OpenItem, OpenQuestion, inner, cross_product, leaf, leaf_count}
use Rattle.definition.specs.Tables.{type_of, assoc, l_asscom, r_asscom}
use Rattle.definition.specs.Hypergraph.{Edge, Sided, none32}
use Rattle.definition.specs.GoodEdge.{GoodEdge}
use Rattle.definition.specs.Edges.{JoinRecord, Sides, Build, holder, holders, side_set, gained, inside, widened_left, widened_right, widen, sides_for, edge_of, with_edge, inner_edges, other_edges, with_join, record_of, join_item, cross_item, leaf_item, join, on_pile, build_item, build_from, empty_build, build_hypergraph}
use Rattle.definition.proofs.Settled.{sub_of, sub_trans, sub-or_l, sub-or_r, or-sub}
use Rattle.definition.proofs.Depth.{Below, or_pos}
use Rattle.definition.proofs.AllLaws.{all_map, all_append}

-- ---- apart

pub apart_parts : (a b l r : ℕ) → In a l → In b r → Apart l r → Apart a b
apart_parts a b l r p q w i = omega (arith, p i, q i, w i)

pub apart_or : (a b c : ℕ) → Apart a c → Apart b c → Apart (bit_or a b) c
apart_or a b c p q i = omega (arith, bit-or a b i, p i, q i)

pub apart_sym : (a b : ℕ) → Apart a b → Apart b a
apart_sym a b w i = omega (arith, w i)

pub not_empty : (s : ℕ) → eqb s 0 ≡ false → 0 < s
not_empty s e = elim (eq-zero-or-pos s) [ inl z ↦ absurd (eqb-false s 0 e z) | inr p ↦ p ]

-- ---- sets of the first n leaves inside a side w; a part of w has a leaf

pub record Inside (n w s : ℕ) : Type 0 where
  pub set : s < 2 ^ n
  pub leaves : In s w

pub record Part (n w s : ℕ) : Type 0 where
  pub some : 0 < s
  pub lies : Inside n w s

pub record Parts (n l r : ℕ) (s : Sides) : Type 0 where
  pub left : Part n l s.left
  pub right : Part n r s.right

-- a join's record sets are parts of its two sides
pub record Recorded (n : ℕ) (j : JoinRecord) : Type 0 where
  pub left : Part n j.left_nodes j.tes_left
  pub right : Part n j.right_nodes j.tes_right

module _ (n : ℕ) where
  inside-or : (w a b : ℕ) → Inside n w a → Inside n w b → Inside n w (bit_or a b)
  inside-or w a b p q = record { set = or_lt n a b p.set q.set; leaves = or-sub a b w p.leaves q.leaves }

  part-or : (w a b : ℕ) → Part n w a → Inside n w b → Part n w (bit_or a b)
  part-or w a b p q = record { some = or_pos a b p.some; lies = inside-or w a b p.lies q }

  inside_wider : (v w s : ℕ) → In v w → Inside n v s → Inside n w s
  inside_wider v w s h p = record { set = p.set; leaves = sub_trans s v w p.leaves h }

  inside_empty : (w : ℕ) → Inside n w 0
  inside_empty w = record { set = pow_pos n; leaves = λ i. omega (arith, bit_empty i) }

  part-whole : (w : ℕ) → 0 < w → w < 2 ^ n → Part n w w
  part-whole w p h = record { some = p; lies = record { set = h; leaves = λ i. le_refl (bit w i) } }

module _ (n : ℕ) (few : n ≤ 64) where
  pub leaf_below : (s k : ℕ) → s < 2 ^ n → bit s k ≡ 1 → k < n
  leaf_below s k h e = elim (dec_le n k) [ yes l ↦ absurd (omega (arith, bit_high n s k h l)) | no g ↦ lt_of_not-le g ]

  -- a leaf of s, by itself
  singleton-part : (s k : ℕ) → s < 2 ^ n → bit s k ≡ 1 → Part n s (singleton k)
  singleton-part s k h e =
      let l = leaf_below s k h e in
      subst (λ (x : ℕ). Part n s x) (sym (singleton_is k (omega arith))) (record { some = pow_pos k; lies = record { set = pow-lt l; leaves = λ j. only j (bit_one_cases k j) } })
    where
      only : (j : ℕ) → (bit (2 ^ k) j ≡ 0) ⊎ (k ≡ j) → bit (2 ^ k) j ≤ bit s j
      only j (inl z) = omega arith
      only j (inr q) = omega (arith, bit-lt (2 ^ k) j, subst (λ (x : ℕ). bit s x ≡ 1) q e)

  lowest-part : (s : ℕ) → 0 < s → s < 2 ^ n → Part n s (singleton (lowest s))
  lowest-part s p h = singleton-part s (lowest s) h (lowest_of s p (lt_of_lt_of_le h (pow_mono few))).has

  -- ---- the sides of a join

  holder-inside : (k : ℕ) (ls : List (List ℕ)) (s c : ℕ) → s < 2 ^ n → Inside n s (holder k ls s c)
  unfolding holder
  holder-inside k [] s c h = inside_empty n s
  holder-inside k (cs ∷ ls) s c h = go (eqb (bit s k) 1) (member c cs) refl (holder-inside (suc k) ls s c h)
    where
      go : (a b : Bool) → eqb (bit s k) 1 ≡ a → Inside n s (holder (suc k) ls s c) → Inside n s (elim (a && b) [ true ↦ singleton k | false ↦ holder (suc k) ls s c ])
      go true true e p = (singleton-part s k h (eqb-true (bit s k) 1 e)).lies
      go true false e p = p
      go false b e p = p

  holders-inside : (ls : List (List ℕ)) (s : ℕ) (cs : List ℕ) (t : ℕ) → s < 2 ^ n → Inside n s t → Inside n s (holders ls s cs t)
  unfolding holders
  holders-inside ls s [] t h p = p
  holders-inside ls s (c ∷ cs) t h p =
      holders-inside ls s cs (bit_or t (holder 0 ls s c)) h (inside-or n s t (holder 0 ls s c) p (holder-inside 0 ls s c h))

  pub side_set-part : (ls : List (List ℕ)) (s : ℕ) (cs : List ℕ) → 0 < s → s < 2 ^ n → Part n s (side_set ls s cs)
  unfolding side_set
  side_set-part ls s cs p h = go (eqb t 0) refl
    where
      t : ℕ
      t = holders ls s cs 0

      go : (b : Bool) → eqb t 0 ≡ b → Part n s (elim b [ true ↦ s | false ↦ t ])
      go true e = part-whole n s p h
      go false e =
          record {
            some = not_empty t e;
            lies = holders-inside ls s cs 0 h (inside_empty n s);
          }

  gained-part : (w : ℕ) (allowed link : Bool) (t s : ℕ) → Inside n w t → Part n w s → Part n w (gained allowed link t s)
  gained-part w true link t s p q = q
  gained-part w false true t s p q = part-or n w s t q p
  gained-part w false false t s p q = q

  -- an earlier join inside the side w has its record sets there
  module _ (w : ℕ) (j : JoinRecord) (kept : Recorded n j) (e : inside j w ≡ true) where
    join-inside : In (bit_or j.left_nodes j.right_nodes) w
    join-inside = sub_of (bit_or j.left_nodes j.right_nodes) w e

    left_inside : Inside n w j.tes_left
    left_inside =
        inside_wider n j.left_nodes w j.tes_left
        (sub_trans j.left_nodes (bit_or j.left_nodes j.right_nodes) w (sub-or_l j.left_nodes j.right_nodes) join-inside) kept.left.lies

    right_inside : Inside n w j.tes_right
    right_inside =
        inside_wider n j.right_nodes w j.tes_right
        (sub_trans j.right_nodes (bit_or j.left_nodes j.right_nodes) w (sub-or_r j.left_nodes j.right_nodes) join-inside) kept.right.lies

  widen_parts : (es : List Edge) (t l r : ℕ) (js : List JoinRecord) (s : Sides) → All (Recorded n) js → Parts n l r s → Parts n l r (widen es t l r js s)
  unfolding widen
  widen_parts es t l r [] s a p = p
  widen_parts es t l r (j ∷ js) s a p =
      widen_parts es t l r js _ a.1 (record { left = go_left (inside j l) refl; right = go_right (inside j r) refl })
    where
      go_left : (b : Bool) → inside j l ≡ b → Part n l (elim b [ true ↦ widened_left es t r j s.left | false ↦ s.left ])
      go_left true e =
          gained-part l (l_asscom j.type t) _ j.tes_right _ (right_inside l j a.0 e)
          (gained-part l (assoc j.type t) _ j.tes_left _ (left_inside l j a.0 e) p.left)
      go_left false e = p.left

      go_right : (b : Bool) → inside j r ≡ b → Part n r (elim b [ true ↦ widened_right es t l j s.right | false ↦ s.right ])
      go_right true e =
          gained-part r (r_asscom j.type t) _ j.tes_left _ (left_inside r j a.0 e)
          (gained-part r (assoc j.type t) _ j.tes_right _ (right_inside r j a.0 e) p.right)
      go_right false e = p.right

-- ---- what holds of a build on the way

-- an edge lies in one thing on the pile
abbrev pub LiesIn : List ℕ → Edge → Type 0
LiesIn [] e = ⊥
LiesIn (s ∷ p) e = In (bit_or e.left e.right) s ⊎ LiesIn p e

pub record Held (n : ℕ) (p : List ℕ) (e : Edge) : Type 0 where
  pub good : GoodEdge n e
  pub lies : LiesIn p e

-- k leaves so far; p: the pile as it will be when the item is worked
pub record Working (n k : ℕ) (p : List ℕ) (b : Build) : Type 0 where
  pub leaves : length b.leaves ≡ k
  pub edges : All (Held n p) b.edges
  pub joins : All (Recorded n) b.joins

-- the things on the pile have leaves, of the first k, and share none
abbrev pub Piled : ℕ → List ℕ → Type 0
Piled k [] = Unit {0}
Piled k (s ∷ p) = (0 < s) × (s < 2 ^ k) × All (Apart s) p × Piled k p

-- the leaves on the pile
abbrev pub union_of : List ℕ → ℕ
union_of [] = 0
union_of (s ∷ p) = bit_or s (union_of p)

-- between two items
pub record Reached (n k : ℕ) (b : Build) : Type 0 where
  pub work : Working n k b.pile b
  pub pile : Piled k b.pile
  pub whole : union_of b.pile ≡ 2 ^ k - 1

piled_more : (k : ℕ) (p : List ℕ) → Piled k p → Piled (suc k) p
piled_more k [] w = tt
piled_more k (s ∷ p) w = (w.0, lt_of_lt_of_le w.1 (pow_mono (omega arith)), w.2, piled_more k p w.3)

-- a leaf past those on the pile
fresh : (k s : ℕ) → s < 2 ^ k → Apart (2 ^ k) s
fresh k s h i = elim (bit_one_cases k i) [
  | inl z ↦ omega arith
  | inr q ↦ omega (arith, subst (λ (x : ℕ). bit s x ≡ 0) q (bit_high k s k h (le_refl k)))
]

fresh_all : (k : ℕ) (p : List ℕ) → Piled k p → All (Apart (2 ^ k)) p
fresh_all k [] w = tt
fresh_all k (s ∷ p) w = (fresh k s w.1, fresh_all k p w.3)

one_more : (k : ℕ) → bit_or (2 ^ k) (2 ^ k - 1) ≡ 2 ^ suc k - 1
one_more k = ap (λ (x : ℕ). bit_or x (2 ^ k - 1)) (sym (one-mul (2 ^ k))) ∙ or_shifted 1 k (2 ^ k - 1) (ones_lt k) ∙ omega (arith, pow-suc 2 k, pow_pos k)

module _ (n : ℕ) (few : n ≤ 64) where
  leaf_reached : (q : OpenQuestion) (i : OpenItem) (k : ℕ) (b : Build) → k < n → Reached n k b → Reached n (suc k) (leaf_item q i b)
  unfolding leaf_item
  leaf_reached q i k b l w =
      let is : singleton (length b.leaves) ≡ 2 ^ k = ap singleton w.work.leaves ∙ singleton_is k (omega arith) in
      record {
        work = record {
          leaves = length-append b.leaves _ ∙ add-one (length b.leaves) ∙ ap suc w.work.leaves;
          edges = all_map (λ e h. record { good = h.good; lies = inr h.lies }) b.edges w.work.edges;
          joins = w.work.joins;
        };
        pile = subst (λ (s : ℕ). Piled (suc k) (s ∷ b.pile)) (sym is) (pow_pos k, pow-lt (omega arith), fresh_all k b.pile w.pile, piled_more k b.pile w.pile);
        whole = ap₂ bit_or is w.whole ∙ one_more k;
      }

  -- a join of the sides l and r
  module _ (k l r : ℕ) (rest : List ℕ) (below : k ≤ n) (piled : Piled k (r ∷ (l ∷ rest))) (whole : union_of (r ∷ (l ∷ rest)) ≡ 2 ^ k - 1) where
    abbrev after : List ℕ
    after = bit_or l r ∷ rest

    l_set : l < 2 ^ n
    l_set = lt_of_lt_of_le piled.3.1 (pow_mono below)

    r_set : r < 2 ^ n
    r_set = lt_of_lt_of_le piled.1 (pow_mono below)

    pub sides_apart : Apart l r
    sides_apart = apart_sym r l piled.2.0

    pub sides_parts : (b : Build) (t : ℕ) (cs : List ℕ) → All (Recorded n) b.joins → Parts n l r (sides_for b t l r cs)
    unfolding sides_for
    sides_parts b t cs a =
        widen_parts n few b.edges t l r b.joins _ a
        (record { left = side_set-part n few b.leaves l cs piled.3.0 l_set; right = side_set-part n few b.leaves r cs piled.0 r_set })

    edge_held : (s : Sides) (m j t : ℕ) → Parts n l r s → Held n after (edge_of s m j t)
    edge_held s m j t p =
        record {
          good = record {
            left_some = p.left.some;
            left_set = p.left.lies.set;
            right_some = p.right.some;
            right_set = p.right.lies.set;
            apart = apart_parts s.left s.right l r p.left.lies.leaves p.right.lies.leaves sides_apart;
          };
          lies = inl (or-sub s.left s.right (bit_or l r)
              (sub_trans s.left l (bit_or l r) p.left.lies.leaves (sub-or_l l r)) (sub_trans s.right r (bit_or l r) p.right.lies.leaves (sub-or_r l r)));
        }

    edge_working : (b : Build) (e : Edge) → Held n after e → Working n k after b → Working n k after (with_edge b e)
    edge_working b e h w = record { leaves = w.leaves; edges = all_append (Held n after) b.edges e w.edges h; joins = w.joins }

    inner_working : (columns : List ℕ) (j m : ℕ) (ps : List Range) (b : Build) → Working n k after b → Working n k after (inner_edges columns j l r m ps b)
    unfolding inner_edges
    inner_working columns j m [] b w = w
    inner_working columns j m (p ∷ ps) b w =
        inner_working columns j (suc m) ps _ (edge_working b _ (edge_held _ m j (type_of inner) (sides_parts b (type_of inner) (part p columns) w.joins)) w)

    other_working : (s : Sides) (j t m : ℕ) (ps : List Range) (b : Build) → Parts n l r s → Working n k after b → Working n k after (other_edges s j t m ps b)
    unfolding other_edges
    other_working s j t m [] b p w = w
    other_working s j t m (x ∷ ps) b p w = other_working s j t (suc m) ps _ p (edge_working b _ (edge_held s m j t p) w)

    -- an edge in one of the two sides lies in the join
    lies_after : (e : Edge) → LiesIn (r ∷ (l ∷ rest)) e → LiesIn after e
    lies_after e (inl h) = inl (sub_trans (bit_or e.left e.right) r (bit_or l r) h (sub-or_r l r))
    lies_after e (inr (inl h)) = inl (sub_trans (bit_or e.left e.right) l (bit_or l r) h (sub-or_l l r))
    lies_after e (inr (inr h)) = inr h

    working_after : (b : Build) → Working n k (r ∷ (l ∷ rest)) b → Working n k after b
    working_after b w = record { leaves = w.leaves; edges = all_map (λ e h. record { good = h.good; lies = lies_after e h.lies }) b.edges w.edges; joins = w.joins }

    after_apart : (p : List ℕ) → All (Apart r) p → All (Apart l) p → All (Apart (bit_or l r)) p
    after_apart [] x y = tt
    after_apart (s ∷ p) x y = (apart_or l r s y.0 x.0, after_apart p x.1 y.1)

    piled_after : Piled k after
    piled_after =
        (or_pos l r piled.3.0, or_lt k l r piled.3.1 piled.1, after_apart rest piled.2.1 piled.3.2, piled.3.3)

    record_reached : (t : ℕ) (s : Sides) (b : Build) → Parts n l r s → Working n k after b → Reached n k (with_join (record_of t l r s) rest b)
    record_reached t s b p w =
        record {
          work = record { leaves = w.leaves; edges = w.edges; joins = all_append (Recorded n) b.joins _ w.joins (record { left = p.left; right = p.right }) };
          pile = piled_after;
          whole = ap (λ (x : ℕ). bit_or x (union_of rest)) (or_comm l r) ∙ or_assoc r l (union_of rest) ∙ whole;
        }

    cross_reached : (j : ℕ) (b : Build) → Working n k (r ∷ (l ∷ rest)) b → Reached n k (cross_item j l r rest b)
    unfolding cross_item
    cross_reached j b w =
        let s : Sides = record { left = singleton (lowest l); right = singleton (lowest r) } in
        let p : Parts n l r s = record { left = lowest-part n few l piled.3.0 l_set; right = lowest-part n few r piled.0 r_set } in
        record_reached (type_of cross_product) s _ p (edge_working b _ (edge_held s none32 j (type_of cross_product) p) (working_after b w))

    join_reached : (q : OpenQuestion) (j : ℕ) (i : OpenItem) (b : Build) → Working n k (r ∷ (l ∷ rest)) b → Reached n k (join_item q j i l r rest b)
    unfolding join_item
    join_reached q j i b w = record_reached t s _ p (go (eqb i.kind inner))
      where
        t : ℕ
        t = type_of i.kind

        ps : List Range
        ps = part i.range q.predicates

        s : Sides
        s = sides_for b t l r (concat_map (λ (x : Range). part x q.columns) ps)

        p : Parts n l r s
        p = sides_parts b t _ w.joins

        go : (x : Bool) → Working n k after (elim x [ true ↦ inner_edges q.columns j l r i.range.first ps b | false ↦ other_edges s j t i.range.first ps b ])
        go true = inner_working q.columns j i.range.first ps b (working_after b w)
        go false = other_working s j t i.range.first ps b p (working_after b w)

    either_reached : (q : OpenQuestion) (j : ℕ) (i : OpenItem) (b : Build) → Working n k (r ∷ (l ∷ rest)) b → Reached n k (join q j i l r rest b)
    either_reached q j i b w = go (eqb i.kind cross_product)
      where
        go : (x : Bool) → Reached n k (elim x [ true ↦ cross_item j l r rest b | false ↦ join_item q j i l r rest b ])
        go true = cross_reached j b w
        go false = join_reached q j i b w

  pile_reached : (q : OpenQuestion) (j : ℕ) (i : OpenItem) (k : ℕ) (b : Build) → k ≤ n → Reached n k b → Reached n k (on_pile join q j i b.pile b)
  pile_reached q j i k b h w = go b.pile w.work w.pile w.whole
    where
      go : (p : List ℕ) → Working n k p b → Piled k p → union_of p ≡ 2 ^ k - 1 → Reached n k (on_pile join q j i p b)
      go [] x y u = w
      go (r ∷ []) x y u = w
      go (r ∷ (l ∷ rest)) x y u = either_reached k l r rest h y u q j i b x

  -- the walk: k leaves so far, and those of the rest
  pub from_reached : (q : OpenQuestion) (j : ℕ) (is : List OpenItem) (k : ℕ) (b : Build) → k + leaf_count is ≤ n → Reached n k b → Reached n (k + leaf_count is) (build_from join q j is b)
  unfolding build_from leaf_count build_item
  from_reached q j [] k b e w = subst (λ (x : ℕ). Reached n x b) (omega arith) w
  from_reached q j (i ∷ is) k b e w = go (eqb i.kind leaf) refl e (from_reached q (suc j) is)
    where
      go : (x : Bool) → eqb i.kind leaf ≡ x → k + (elim x [ true ↦ suc (leaf_count is) | false ↦ leaf_count is ]) ≤ n
          → ((c : ℕ) (d : Build) → c + leaf_count is ≤ n → Reached n c d → Reached n (c + leaf_count is) (build_from join q (suc j) is d))
          → Reached n (k + (elim x [ true ↦ suc (leaf_count is) | false ↦ leaf_count is ])) (build_from join q (suc j) is (build_item join q j i b))
      go true t h rec =
          subst (λ (x : ℕ). Reached n x (build_from join q (suc j) is (build_item join q j i b))) (omega arith)
          (rec (suc k) (build_item join q j i b) (omega arith) (rw (t, build_item) (leaf_reached q i k b (omega arith) w)))
      go false t h rec = rec k (build_item join q j i b) h (rw (t, build_item) (pile_reached q j i k b (omega arith) w))

pub empty_reached : (n : ℕ) → Reached n 0 empty_build
empty_reached n = record { work = record { leaves = refl; edges = tt; joins = tt }; pile = tt; whole = refl }

-- the whole build
pub build_reached : (q : OpenQuestion) → leaf_count q.items ≤ 64 → Reached (leaf_count q.items) (leaf_count q.items) (build_from join q 0 q.items empty_build)
build_reached q few =
    subst (λ (x : ℕ). Reached (leaf_count q.items) x (build_from join q 0 q.items empty_build)) (omega arith)
    (from_reached (leaf_count q.items) few q 0 q.items 0 empty_build (omega arith) (empty_reached (leaf_count q.items)))

-- ---- every edge is good

pub good_edges : (q : OpenQuestion) → leaf_count q.items ≤ 64 → All (GoodEdge (leaf_count q.items)) (build_hypergraph q)
unfolding build_hypergraph
good_edges q few = all_map (λ e h. h.good) (build_hypergraph q) (build_reached q few).work.edges

-- what the search and its laws ask of an edge
module _ (n : ℕ) (few : n ≤ 64) (e : Edge) (g : GoodEdge n e) where
  pub good_sided : Sided e
  good_sided =
      record {
        left_some = g.left_some;
        left_set = lt_of_lt_of_le g.left_set (pow_mono few);
        right_some = g.right_some;
        right_set = lt_of_lt_of_le g.right_set (pow_mono few);
      }

  pub good_below : Below n e
  good_below =
      record {
        left = leaf_below n few e.left (lowest e.left) g.left_set (lowest_of e.left g.left_some good_sided.left_set).has;
        right = leaf_below n few e.right (lowest e.right) g.right_set (lowest_of e.right g.right_some good_sided.right_set).has;
      }

pub edges_sided : (q : OpenQuestion) → leaf_count q.items ≤ 64 → All Sided (build_hypergraph q)
edges_sided q few = all_map (good_sided (leaf_count q.items) few) (build_hypergraph q) (good_edges q few)

pub edges_below : (q : OpenQuestion) → leaf_count q.items ≤ 64 → All (Below (leaf_count q.items)) (build_hypergraph q)
edges_below q few = all_map (good_below (leaf_count q.items) few) (build_hypergraph q) (good_edges q few)
