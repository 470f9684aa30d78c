-- Rows are at most 2 ^ 500, and the costs of plans of up to 64 leaves are finite and not negative. Assumes nothing.
use Rattle.std.specs.Prelude.{◌≡◌, refl, Bool, true, false, ◌&&◌, ◌||◌, cond, List, [], ◌∷◌, ℕ, zero, suc, ◌+◌, ◌-◌, ◌*◌, ◌^◌, ◌≤◌, ◌<◌, max, get_or, T, ltb, eqb, ℤ, Float}
use Rattle.std.proofs.Common.{sym, ap, ◌∙◌, true≢false, le_trans, le_of_eq, le_of_lt, lt_of_lt_of_le, lt_of_le_of_lt, mul-lt-mul_of_pos_right, mul-one, one-mul, mul_comm, mul_assoc, mul_right_comm, mul-le-mul, mul-le-mul_right, le_of_mul-le-mul_right, add-mul, add-le-add, mul-pos, zero-lt-suc, ltb→lt, eqb→eq, lit<, lit≤, pow_pos, pow-add, pow_mono}
use Rattle.std.proofs.Math.Path.{subst}
use Rattle.std.proofs.Math.Nat.{mul-mul-mul_comm}
use native.Mathlib.Omega.{arith}
use Rattle.std.specs.Float.{nan, inf, fin, Format}
use Rattle.std.specs.Float.Ieee.{binary64, prec, emax, low, up, down, odd, units, round, mul, add, div, lt, le, of_int}
use Rattle.std.specs.Float.Ieee.Fits.{round_is, down_pos}
use Rattle.std.specs.Float.Ieee.Exact.{HasValue, round_exact}
use Rattle.std.specs.Float.Ieee.Order.{round_mono}
use Rattle.std.specs.Float.Ieee.Back.{round_whole}
use Rattle.std.specs.Float.Ieee.Positive.{num, den, den_pos}
use Rattle.nodeset.specs.SubsetLaws.{All}
use Rattle.definition.proofs.AllLaws.{all_get}
use Rattle.definition.proofs.FloatLaws.{by_form, mul_is, add_is, value_sign, value_num}
use Rattle.definition.specs.Cost.{Estimate, whole, full, ceiling, leaf_estimate, product, fraction, filtered, capped, lesser, greater}
use Rattle.definition.specs.Cost.{RowRule, inner_rows, row_rules, rows_by_kind, candidate_rows, candidate_from}
use Rattle.definition.specs.Hypergraph.{Edge, no_edge, has_predicate}
use Rattle.definition.specs.Connection.{selectivities_of}
use Rattle.definition.specs.EstimateOrder.{NonNegative}
use Rattle.definition.proofs.EstimateOrderLaws.{not_less→at_least}
use Rattle.definition.specs.EstimateBounds.{AtMost, Bounded, Selectivities, JoinTree, scan, join, join_estimate, tree_estimate, leaves, Legal}

-- ---- the sign of a rounded value
Clear : Float → Type 0
Clear nan = ⊥
Clear (inf s) = s ≡ false
Clear (fin s m e) = s ≡ false

odd_clear : (d q k l : ℕ) → Clear (odd d false q k l)
unfolding odd Clear
odd_clear d zero k l = refl
odd_clear d (suc q) k l = refl

units_clear : (f : Format) (q k : ℕ) → Clear (units f false q k)
unfolding units Clear
units_clear f q k = go (ltb (q * 2 ^ k) (2 ^ (low f + suc (emax f))))
  where
    go : (b : Bool) → Clear (cond b (odd (suc (prec f)) false q k (low f)) (inf false))
    go true = odd_clear (suc (prec f)) q k (low f)
    go false = refl

round_clear : (f : Format) (a c : ℕ) → Clear (round f false a c)
round_clear f a c = subst Clear (sym (round_is f false a c)) (units_clear f _ _)

-- ---- what lies below a finite value
pub or-le : (a b : ℕ) → T (ltb a b || (eqb a b && true)) → a ≤ b
or-le a b t = go (ltb a b) (eqb a b) (ltb→lt a b) (eqb→eq a b) t
  where
    go : (p q : Bool) → (T p → a < b) → (T q → a ≡ b) → T (p || (q && true)) → a ≤ b
    go true q f g t = le_of_lt (f tt)
    go false true f g t = le_of_eq (g tt)
    go false false f g t = absurd t

below : (x y : Float) (n : ℕ) → Clear x → T (le x y) → HasValue y false n 1 → AtMost n x
unfolding Clear le
below x y n c t v = by_form (λ y. T (le x y) → num y ≡ n * den y → AtMost n x) (go x c) y (value_sign y n v) t (value_num y n v)
  where
    go : (x : Float) → Clear x → (k : ℕ) (d : ℤ) → T (le x (fin false k d)) → k * up d ≡ n * down d → AtMost n x
    go nan c k d t v = absurd c
    go (inf true) c k d t v = absurd (true≢false c)
    go (inf false) c k d t v = absurd t
    go (fin true m e) c k d t v = absurd (true≢false c)
    go (fin false m e) c k d t v =
        let same : k * up d * down e ≡ n * down e * down d = ap (λ (z : ℕ). z * down e) v ∙ mul_right_comm n (down d) (down e) in
        record { sign = refl; bound = le_of_mul-le-mul_right (le_trans (or-le (m * up e * down d) (k * up d * down e) t) (le_of_eq same)) (down_pos d) }

-- n = q * 2 ^ j is a value of the format
pub record Exact (n : ℕ) : Type 0 where
  pub digits : ℕ
  pub place : ℕ
  pub is : n ≡ digits * 2 ^ place
  pub small : digits < 2 ^ 53
  pub inside : digits * 2 ^ (place + 1074) < 2 ^ 2098

pub exact_value : (n : ℕ) → Exact n → HasValue (round binary64 false n 1) false n 1
exact_value n x =
    round_exact binary64 false n 1 x.digits (x.place + 1074) (zero-lt-suc 0) x.small x.inside
    (ap (λ (z : ℕ). z * 2 ^ 1074) x.is ∙ mul_assoc x.digits (2 ^ x.place) (2 ^ 1074)
    ∙ ap (λ (z : ℕ). x.digits * z) (sym (pow-add 2 x.place 1074)) ∙ sym (mul-one (x.digits * 2 ^ (x.place + 1074))))

-- a fraction of at most n rounds to at most n
pub round-at_most : (a c n : ℕ) → 0 < c → Exact n → a ≤ n * c → AtMost n (round binary64 false a c)
round-at_most a c n C x h =
    below (round binary64 false a c) (round binary64 false n 1) n (round_clear binary64 a c)
    (round_mono binary64 a c n 1 C (zero-lt-suc 0) (le_trans (le_of_eq (mul-one a)) h)) (exact_value n x)

-- ---- the operations

pub mul-at_most : (x y : Float) (a b n : ℕ) → AtMost a x → AtMost b y → Exact n → a * b ≤ n → AtMost n (mul binary64 x y)
mul-at_most x y a b n p q e h =
    rw (mul_is x y p.sign q.sign)
    (round-at_most (num x * num y) (den x * den y) n (mul-pos (den_pos x) (den_pos y)) e
    (le_trans (mul-le-mul p.bound q.bound) (le_trans (le_of_eq (mul-mul-mul_comm a (den x) b (den y))) (mul-le-mul_right (den x * den y) h))))

pub add-at_most : (x y : Float) (a b n : ℕ) → AtMost a x → AtMost b y → Exact n → a + b ≤ n → AtMost n (add binary64 x y)
add-at_most x y a b n p q e h =
    rw (add_is x y p.sign q.sign)
    (round-at_most (num x * den y + num y * den x) (den x * den y) n (mul-pos (den_pos x) (den_pos y)) e
    (le_trans (add-le-add l r) (le_trans (le_of_eq (sym (add-mul a b (den x * den y)))) (mul-le-mul_right (den x * den y) h))))
  where
    l : num x * den y ≤ a * (den x * den y)
    l = le_trans (mul-le-mul_right (den y) p.bound) (le_of_eq (mul_assoc a (den x) (den y)))

    r : num y * den x ≤ b * (den x * den y)
    r = le_trans (mul-le-mul_right (den x) q.bound) (le_of_eq (mul_assoc b (den y) (den x) ∙ ap (λ (z : ℕ). b * z) (mul_comm (den y) (den x))))

pub at_most_more : (x : Float) (a b : ℕ) → AtMost a x → a ≤ b → AtMost b x
at_most_more x a b p h = record { sign = p.sign; bound = le_trans p.bound (mul-le-mul_right (den x) h) }

of_value : (x : Float) (n : ℕ) → HasValue x false n 1 → AtMost n x
of_value x n v = record { sign = value_sign x n v; bound = le_of_eq (value_num x n v) }

pub whole-at_most : (n : ℕ) → n ≤ 2 ^ 53 → AtMost n (whole n)
unfolding of_int
whole-at_most n h = of_value (round binary64 false n 1) n (round_whole binary64 false n h)

-- a power of two up to 2 ^ 1000, and a multiple of 2 ^ 1001 by up to 22 digits
pub exact_pow : (j : ℕ) → j ≤ 1000 → Exact (2 ^ j)
exact_pow j h =
    record { digits = 1; place = j; is = sym (one-mul (2 ^ j)); small = lit< tt; inside = le-lt (le_trans (le_of_eq (one-mul (2 ^ (j + 1074)))) (pow_mono top)) }
  where
    top : j + 1074 ≤ 2074
    top = omega arith

    le-lt : {a : ℕ} → a ≤ 2 ^ 2074 → a < 2 ^ 2098
    le-lt h = lt_of_le_of_lt h (lit< tt)

pub exact_multiple : (q : ℕ) → q < 2 ^ 22 → Exact (q * 2 ^ 1001)
exact_multiple q h = record { digits = q; place = 1001; is = refl; small = omega arith; inside = lt_of_lt_of_le (mul-lt-mul_of_pos_right h (pow_pos 2075)) (lit≤ tt) }

-- ---- a selectivity
pub fraction-at_most : (x : Float) (s : ℕ) → AtMost s x → s ≤ 65536 → AtMost 1 (div binary64 x full)
unfolding div
fraction-at_most x s p h = by_form (λ x. num x ≤ s * den x → AtMost 1 (div binary64 x full)) go x p.sign p.bound
  where
    go : (m : ℕ) (e : ℤ) → m * up e ≤ s * down e → AtMost 1 (div binary64 (fin false m e) full)
    go m e b =
        round-at_most (m * up e * 1) (65536 * down e) 1 (mul-pos (zero-lt-suc 65535) (down_pos e)) (exact_pow 0 (lit≤ tt))
        (le_trans (le_of_eq (mul-one (m * up e))) (le_trans b (le_trans (mul-le-mul_right (down e) h) (le_of_eq (sym (one-mul (65536 * down e)))))))

pub times_fraction-at_most : (x : Float) (s n : ℕ) → Exact n → AtMost n x → s ≤ 65536 → AtMost n (mul binary64 x (fraction s))
times_fraction-at_most x s n e p h =
    mul-at_most x (div binary64 (whole s) full) n 1 n p (fraction-at_most (whole s) s (whole-at_most s (le_trans h (lit≤ tt))) h) e (le_of_eq (mul-one n))

pub filtered-at_most : (x : Float) (ss : List ℕ) (n : ℕ) → Exact n → AtMost n x → Selectivities ss → AtMost n (filtered x ss)
unfolding filtered
filtered-at_most x [] n e p f = p
filtered-at_most x (s ∷ ss) n e p f = filtered-at_most (mul binary64 x (fraction s)) ss n e (times_fraction-at_most x s n e p f.0) f.1

-- a table of selectivities gives every list of connecting predicates such ones
selectivity_at_lem : (ss : List ℕ) (i : ℕ) → Selectivities ss → get_or ss i 0 ≤ 65536
selectivity_at_lem [] zero f = lit≤ tt
selectivity_at_lem [] (suc i) f = lit≤ tt
selectivity_at_lem (s ∷ ss) zero f = f.0
selectivity_at_lem (s ∷ ss) (suc i) f = selectivity_at_lem ss i f.1

pub selectivities_of_lem : (es : List Edge) (ss cs : List ℕ) → Selectivities ss → Selectivities (selectivities_of es ss cs)
unfolding selectivities_of
selectivities_of_lem es ss [] f = tt
selectivities_of_lem es ss (c ∷ cs) f = go (has_predicate (get_or es c no_edge)) (selectivities_of_lem es ss cs f)
  where
    go : (b : Bool) → Selectivities (selectivities_of es ss cs)
        → Selectivities (elim b [ true ↦ get_or ss (get_or es c no_edge).predicate 0 ∷ selectivities_of es ss cs | false ↦ selectivities_of es ss cs ])
    go true r = (selectivity_at_lem ss (get_or es c no_edge).predicate f, r)
    go false r = r

-- ---- rows

pub capped-at_most : (x : Float) → NonNegative x → AtMost (2 ^ 500) (capped x)
capped-at_most x p = go (lt ceiling x) (λ e. not_less→at_least ceiling x refl p e)
  where
    go : (b : Bool) → (b ≡ false → num x * den ceiling ≤ num ceiling * den x) → AtMost (2 ^ 500) (elim b [ true ↦ ceiling | false ↦ x ])
    go true f = record { sign = refl; bound = lit≤ tt }
    go false f = record { sign = p; bound = le_trans (le_of_eq (sym (mul-one (num x)))) (f refl) }

of_two : (b : Bool) (x y : Float) → NonNegative x → NonNegative y → NonNegative (elim b [ true ↦ x | false ↦ y ])
of_two true x y p q = p
of_two false x y p q = q

lesser_non_negative : (x y : Float) → NonNegative x → NonNegative y → NonNegative (lesser x y)
lesser_non_negative x y p q = of_two (lt x y) x y p q

greater_non_negative : (x y : Float) → NonNegative x → NonNegative y → NonNegative (greater x y)
greater_non_negative x y p q = of_two (lt x y) y x q p

-- the rule gives no negative number where it is given none
abbrev Keeps : RowRule → Type 0
Keeps f = (e l r : Float) → NonNegative e → NonNegative l → NonNegative r → NonNegative (f e l r)

all_keep : All Keeps row_rules
all_keep =
    (same, (lesser_left, (lesser_left, (greater_left, (greater_right, (greater_both, (left, (left, (same, tt)))))))))
  where
    same : Keeps inner_rows
    same e l r p q s = p

    left : Keeps (λ e l r. l)
    left e l r p q s = q

    lesser_left : Keeps (λ e l r. lesser e l)
    lesser_left e l r p q s = lesser_non_negative e l p q

    greater_left : Keeps (λ e l r. greater e l)
    greater_left e l r p q s = greater_non_negative e l p q

    greater_right : Keeps (λ e l r. greater e r)
    greater_right e l r p q s = greater_non_negative e r p s

    greater_both : Keeps (λ e l r. greater e (greater l r))
    greater_both e l r p q s = greater_non_negative e (greater l r) p (greater_non_negative l r q s)

rows_by_kind_keeps : (kind : ℕ) → Keeps (rows_by_kind kind)
rows_by_kind_keeps kind = all_get Keeps inner_rows row_rules kind all_keep all_keep.0

-- for every kind
pub candidate-rows-at_most : (kind : ℕ) (l r : Estimate) (x : Float) → NonNegative l.rows → NonNegative r.rows → NonNegative x → AtMost (2 ^ 500) (candidate_rows kind l r x)
candidate-rows-at_most kind l r x hl hr h = capped-at_most (rows_by_kind kind x l.rows r.rows) (rows_by_kind_keeps kind x l.rows r.rows h hl hr)

-- ---- a leaf, and a candidate

pub leaf_bounded : (rows columns : ℕ) → rows ≤ 2 ^ 48 → columns ≤ 4096 → Bounded 1 (leaf_estimate rows columns)
leaf_bounded rows columns h k =
    let w = whole-at_most rows (le_trans h (lit≤ tt)) in
    record {
      nonempty = lit< tt;
      rows = at_most_more (whole rows) rows (2 ^ 500) w (le_trans h (lit≤ tt));
      cost =
          mul-at_most (whole rows) (whole (max columns 1)) (2 ^ 48) 4096 (1 * 2 ^ 1001) (at_most_more (whole rows) rows (2 ^ 48) w h)
          (at_most_more (whole (max columns 1)) (max columns 1) 4096 (whole-at_most (max columns 1) (omega arith)) (omega arith))
          (exact_multiple 1 (lit< tt)) (lit≤ tt);
    }

module _ (kind : ℕ) (l r : Estimate) (ss : List ℕ) (a b : ℕ) (hl : Bounded a l) (hr : Bounded b r) (f : Selectivities ss) (h : a + b ≤ 2 ^ 20) where
  product-at_most : AtMost (2 ^ 1000) (product l r)
  product-at_most = mul-at_most l.rows r.rows (2 ^ 500) (2 ^ 500) (2 ^ 1000) hl.rows hr.rows (exact_pow 1000 (lit≤ tt)) (lit≤ tt)

  rows-at_most : AtMost (2 ^ 500) (candidate_rows kind l r (filtered (product l r) ss))
  rows-at_most =
      candidate-rows-at_most kind l r (filtered (product l r) ss) hl.rows.sign hr.rows.sign
      (filtered-at_most (product l r) ss (2 ^ 1000) (exact_pow 1000 (lit≤ tt)) product-at_most f).sign

  -- p plus rows, plus left cost, plus right cost
  pub candidate_bounded : Bounded (a + b) (join_estimate kind l r ss)
  unfolding candidate_from
  candidate_bounded =
      let p = product l r in
      let rows = candidate_rows kind l r (filtered p ss) in
      let i = 2 * a - 1 in
      let j = 2 * b - 1 in
      let pa : 0 < a = hl.nonempty in
      let pb : 0 < b = hr.nonempty in
      let one =
      add-at_most p rows (2 ^ 1000) (2 ^ 500) (1 * 2 ^ 1001) product-at_most rows-at_most (exact_multiple 1 (lit< tt)) (lit≤ tt) in
      let two =
      add-at_most (add binary64 p rows) l.cost (1 * 2 ^ 1001) (i * 2 ^ 1001) ((1 + i) * 2 ^ 1001) one hl.cost
      (exact_multiple (1 + i) (omega arith)) (le_of_eq (sym (add-mul 1 i (2 ^ 1001)))) in
      let q : 1 + i + j ≡ 2 * (a + b) - 1 = omega arith in
      let all =
      add-at_most (add binary64 (add binary64 p rows) l.cost) r.cost ((1 + i) * 2 ^ 1001) (j * 2 ^ 1001) ((1 + i + j) * 2 ^ 1001) two hr.cost
      (exact_multiple (1 + i + j) (omega arith)) (le_of_eq (sym (add-mul (1 + i) j (2 ^ 1001)))) in
      record {
        nonempty = omega arith;
        rows = rows-at_most;
        cost = subst (λ (k : ℕ). AtMost (k * 2 ^ 1001) (add binary64 (add binary64 (add binary64 p rows) l.cost) r.cost)) q all;
      }

-- ---- a plan

pub plan_bounded : (t : JoinTree) → Legal t → leaves t ≤ 2 ^ 20 → Bounded (leaves t) (tree_estimate t)
unfolding tree_estimate
plan_bounded (scan rows columns) g h = leaf_bounded rows columns g.0 g.1
plan_bounded (join kind l r ss) g h =
    candidate_bounded kind (tree_estimate l) (tree_estimate r) ss (leaves l) (leaves r) (plan_bounded l g.0 (omega arith)) (plan_bounded r g.1 (omega arith)) g.2 h

pub plan-rows : (t : JoinTree) → Legal t → leaves t ≤ 64 → AtMost (2 ^ 500) (tree_estimate t).rows
plan-rows t g h = (plan_bounded t g (omega arith)).rows

-- "All costs are finite and not negative."
pub plan_cost : (t : JoinTree) → Legal t → leaves t ≤ 64 → NonNegative (tree_estimate t).cost
plan_cost t g h = (plan_bounded t g (omega arith)).cost.sign
