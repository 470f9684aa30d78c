-- A join's edges, one predicate after the other, then its record. Assumes nothing.
use Rattle.std.specs.Prelude.{◌≡◌, refl, Bool, true, false, ℕ, suc, ◌+◌, ◌-◌, ◌≤◌, ◌<◌, length, get_or, take, drop, eqb}
use Rattle.std.proofs.Common.{sym, ◌∙◌, arith, add-one, drop-cons, eq-eqb, ne_eqb, eqb-true}
use Rattle.std.proofs.Math.Path.{ap, ap₂}
use mathlib.Core.List.{List, [], ◌∷◌, append-nil}
use Rattle.nodeset.specs.Sets.{singleton, lowest}
use Rattle.definition.specs.Lists.{concat_map, member}
use Rattle.definition.specs.Hypergraph.{none32}
use Rattle.definition.specs.Question.{Range, part, OpenQuestion, inner}
use Rattle.definition.specs.Tables.{type_of}
use Rattle.definition.specs.Edges.{Build, Sides, sides_for, edge_of, with_edge, inner_edges, other_edges, with_join, record_of, join_item, cross_item}
use Rattle.builder.specs.Builds.{with_record}
use Rattle.joins.specs.Joins.{edges_by, sides_by}

-- ---- the edges, one predicate after the other

pub other_same : (s : Sides) (k t n : ℕ) (ps qs : List Range) (b : Build) → length ps ≡ length qs → other_edges s k t n ps b ≡ other_edges s k t n qs b
unfolding other_edges
other_same s k t n [] [] b e = refl
other_same s k t n [] (q ∷ qs) b e = absurd (omega arith)
other_same s k t n (p ∷ ps) [] b e = absurd (omega arith)
other_same s k t n (p ∷ ps) (q ∷ qs) b e = other_same s k t (suc n) ps qs (with_edge b (edge_of s n k t)) (omega arith)

pub other_on : (s : Sides) (k t n : ℕ) (p : Range) (ps : List Range) (b c : Build) → c ≡ with_edge b (edge_of s n k t)
    → other_edges s k t (n + 1) ps c ≡ other_edges s k t n (p ∷ ps) b
unfolding other_edges
other_on s k t n p ps b c e = ap₂ (λ (j : ℕ) (d : Build). other_edges s k t j ps d) (add-one n) e

pub other_end : (s : Sides) (k t n : ℕ) (b : Build) → other_edges s k t n [] b ≡ b
unfolding other_edges
other_end s k t n b = refl

-- the predicates from n on
abbrev pub from : {A : Type 0} → ℕ → ℕ → List A → List A
from n m ps = part (record { first = n; count = m }) ps

from_step : {A : Type 0} (n m : ℕ) (ps : List A) (d : A) → 0 < m → n + m ≤ length ps → from n m ps ≡ get_or ps n d ∷ from (n + 1) (m - 1) ps
from_step n m ps d z h =
    let e : m ≡ suc (m - 1) = omega arith in
    ap₂ (λ (k : ℕ) (l : List _). take k l) e (drop-cons ps n d (omega arith)) ∙ ap (λ (k : ℕ). get_or ps n d ∷ take (m - 1) (drop k ps)) (sym (add-one n))

pub from_none : {A : Type 0} (n : ℕ) (ps : List A) → from n 0 ps ≡ []
from_none n ps = refl

-- the columns of one predicate
one_predicate_lem : (q : OpenQuestion) (n : ℕ) → n < length q.predicates
    → concat_map (λ (p : Range). part p q.columns) (from n 1 q.predicates) ≡ part (get_or q.predicates n (record { first = 0; count = 0 })) q.columns
unfolding concat_map
one_predicate_lem q n h =
    ap (concat_map (λ (p : Range). part p q.columns)) (from_step n 1 q.predicates (record { first = 0; count = 0 }) (omega arith) (omega arith))
    ∙ append-nil (part (get_or q.predicates n (record { first = 0; count = 0 })) q.columns)

pub inner_on : (q : OpenQuestion) (k l r n m : ℕ) (s : Sides) (b c : Build) → 0 < m → n + m ≤ length q.predicates
    → s ≡ sides_for b 0 l r (concat_map (λ (p : Range). part p q.columns) (from n 1 q.predicates))
    → c ≡ with_edge b (edge_of s n k 0)
    → inner_edges q.columns k l r (n + 1) (from (n + 1) (m - 1) q.predicates) c ≡ inner_edges q.columns k l r n (from n m q.predicates) b
unfolding inner_edges type_of member
inner_on q k l r n m s b c z h e f =
    let none : Range = record { first = 0; count = 0 } in
    ap₂ (λ (j : ℕ) (d : Build). inner_edges q.columns k l r j (from (n + 1) (m - 1) q.predicates) d) (add-one n)
    (f ∙ ap (λ (x : Sides). with_edge b (edge_of x n k 0)) (e ∙ ap (sides_for b 0 l r) (one_predicate_lem q n (omega arith))))
    ∙ sym (ap (λ (ps : List Range). inner_edges q.columns k l r n ps b) (from_step n m q.predicates none z h))

pub inner_end : (q : OpenQuestion) (k l r n : ℕ) (b : Build) → inner_edges q.columns k l r n (from n 0 q.predicates) b ≡ b
unfolding inner_edges
inner_end q k l r n b = refl

-- the first of a join's edges, whatever its kind, and then the others
pub by_step : (q : OpenQuestion) (k kind l r n m : ℕ) (s : Sides) (b : Build) → 0 < m → n + m ≤ length q.predicates
    → let t = type_of kind in
    edges_by q k kind t (record { first = n + 1; count = m - 1 }) l r s (with_edge b (edge_of (sides_by q kind l r s n b) n k t))
    ≡ edges_by q k kind t (record { first = n; count = m }) l r s b
unfolding type_of member
by_step q k kind l r n m s b z h = go (eqb kind inner) (eqb-true kind inner)
  where
    go : (x : Bool) → (x ≡ true → kind ≡ inner)
        → let t = type_of kind in
        let columns = concat_map (λ (p : Range). part p q.columns) (from n 1 q.predicates) in
        let c = with_edge b (edge_of (elim x [ true ↦ sides_for b t l r columns | false ↦ s ]) n k t) in
        ◌≡◌ {A = Build}
        (elim x [
          | true ↦ inner_edges q.columns k l r (n + 1) (from (n + 1) (m - 1) q.predicates) c
          | false ↦ other_edges s k t (n + 1) (from (n + 1) (m - 1) q.predicates) c
        ])
        (elim x [ true ↦ inner_edges q.columns k l r n (from n m q.predicates) b | false ↦ other_edges s k t n (from n m q.predicates) b ])
    go true e =
        let zero : type_of kind ≡ 0 = ap type_of (e refl) in
        inner_on q k l r n m (sides_for b 0 l r (concat_map (λ (p : Range). part p q.columns) (from n 1 q.predicates))) b _ z h refl (rw zero)
    go false e =
        let none : Range = record { first = 0; count = 0 } in
        other_on s k (type_of kind) n (get_or q.predicates n none) (from (n + 1) (m - 1) q.predicates) b _ refl
        ∙ sym (ap (λ (ps : List Range). other_edges s k (type_of kind) n ps b) (from_step n m q.predicates none z h))

pub by_next : (q : OpenQuestion) (k kind l r n m : ℕ) (s : Sides) (b : Build) {i t : ℕ} {y : Sides} {c : Build}
    → 0 < m → n + m ≤ length q.predicates → i ≡ m - 1 → y ≡ sides_by q kind l r s n b → t ≡ type_of kind → c ≡ with_edge b (edge_of y n k t)
    → edges_by q k kind (type_of kind) (record { first = n + 1; count = i }) l r s c
    ≡ edges_by q k kind (type_of kind) (record { first = n; count = m }) l r s b
by_next q k kind l r n m s b z h e f g d =
    ap₂ (λ (j : ℕ) (x : Build). edges_by q k kind (type_of kind) (record { first = n + 1; count = j }) l r s x) e
    (d ∙ ap₂ (λ (x : Sides) (u : ℕ). with_edge b (edge_of x n k u)) f g)
    ∙ by_step q k kind l r n m s b z h

pub by_end : (q : OpenQuestion) (k kind l r n m : ℕ) (s : Sides) (b : Build) → m ≡ 0
    → edges_by q k kind (type_of kind) (record { first = n; count = m }) l r s b ≡ b
by_end q k kind l r n m s b e =
    ap (λ (i : ℕ). edges_by q k kind (type_of kind) (record { first = n; count = i }) l r s b) e ∙ go (eqb kind inner)
  where
    go : (x : Bool) → ◌≡◌ {A = Build}
        (elim x [ true ↦ inner_edges q.columns k l r n (from n 0 q.predicates) b | false ↦ other_edges s k (type_of kind) n (from n 0 q.predicates) b ])
        b
    go true = inner_end q k l r n b
    go false = other_end s k (type_of kind) n b

-- ---- a join's edges, then its record

-- everything but the edges is the same
pub record SameRest (b c : Build) : Type 0 where
  pub leaves : c.leaves ≡ b.leaves
  pub joins : c.joins ≡ b.joins
  pub pile : c.pile ≡ b.pile

same_rest : (b : Build) → SameRest b b
same_rest b = record { leaves = refl; joins = refl; pile = refl }

inner-rest : (columns : List ℕ) (k l r n : ℕ) (ps : List Range) (b : Build) → SameRest b (inner_edges columns k l r n ps b)
unfolding inner_edges
inner-rest columns k l r n [] b = same_rest b
inner-rest columns k l r n (p ∷ ps) b =
    let w = inner-rest columns k l r (suc n) ps _ in
    record { leaves = w.leaves; joins = w.joins; pile = w.pile }

other_rest : (s : Sides) (k t n : ℕ) (ps : List Range) (b : Build) → SameRest b (other_edges s k t n ps b)
unfolding other_edges
other_rest s k t n [] b = same_rest b
other_rest s k t n (p ∷ ps) b =
    let w = other_rest s k t (suc n) ps _ in
    record { leaves = w.leaves; joins = w.joins; pile = w.pile }

pub by_rest : (q : OpenQuestion) (k kind t : ℕ) (p : Range) (l r : ℕ) (s : Sides) (b : Build) → SameRest b (edges_by q k kind t p l r s b)
by_rest q k kind t p l r s b = go (eqb kind inner)
  where
    ps : List Range
    ps = part p q.predicates

    go : (x : Bool) → SameRest b (elim x [ true ↦ inner_edges q.columns k l r p.first ps b | false ↦ other_edges s k t p.first ps b ])
    go true = inner-rest q.columns k l r p.first ps b
    go false = other_rest s k t p.first ps b

module _ (q : OpenQuestion) (k kind t : ℕ) (p : Range) (l r : ℕ) (s : Sides) (b : Build) {c : Build} where
  pub by_inner : kind ≡ inner → c ≡ inner_edges q.columns k l r p.first (part p q.predicates) b → c ≡ edges_by q k kind t p l r s b
  by_inner e f = rw (eq-eqb kind inner e, edges_by) f

  pub by_other : (kind ≡ inner → ⊥) → c ≡ other_edges s k t p.first (part p q.predicates) b → c ≡ edges_by q k kind t p l r s b
  by_other e f = rw (ne_eqb kind inner e, edges_by) f

  pub joined : t ≡ type_of kind → s ≡ sides_for b t l r (concat_map (λ (x : Range). part x q.columns) (part p q.predicates))
      → c ≡ with_record (record_of t l r s) (edges_by q k kind t p l r s b) → c ≡ join_item q k (record { kind = kind; range = p }) l r (drop 2 b.pile) b
  unfolding join_item
  joined e f h =
      h ∙ ap (λ (x : List ℕ). with_join (record_of t l r s) (drop 2 x) (edges_by q k kind t p l r s b)) (by_rest q k kind t p l r s b).pile
      ∙ ap₂ (λ (u : ℕ) (x : Sides). with_join (record_of u l r x) (drop 2 b.pile) (edges_by q k kind u p l r x b)) e
      (f ∙ ap (λ (u : ℕ). sides_for b u l r (concat_map (λ (x : Range). part x q.columns) (part p q.predicates))) e)

-- a cross product's edge, then its record
pub crossed : (k l r : ℕ) (b : Build) {x y : ℕ} {c d : Build} → x ≡ singleton (lowest l) → y ≡ singleton (lowest r)
    → c ≡ with_edge b (edge_of (record { left = x; right = y }) none32 k 0) → d ≡ with_join (record_of 0 l r (record { left = x; right = y })) (drop 2 c.pile) c
    → d ≡ cross_item k l r (drop 2 b.pile) b
unfolding cross_item type_of member
crossed k l r b {x} {y} {c} {d} p q e f =
    f ∙ ap (λ (z : Build). with_join (record_of 0 l r (record { left = x; right = y })) (drop 2 z.pile) z) e
    ∙ ap₂ (λ (v w : ℕ).
    let s : Sides = record { left = v; right = w } in
    with_join (record_of 0 l r s) (drop 2 b.pile) (with_edge b (edge_of s none32 k 0))) p q
