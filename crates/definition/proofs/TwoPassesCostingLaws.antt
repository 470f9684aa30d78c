-- The costing of TwoPasses.antt, step by step, for a loop over the candidates. Assumes nothing.
use Rattle.std.specs.Prelude.{◌≡◌, refl, Bool, true, false, List, [], ◌∷◌, ◌++◌, map, ℕ, zero, suc, ◌+◌, ◌<◌, ◌≤◌, length, get_or, set, take, eqb}
use Rattle.std.proofs.Common.{sym, ap, ◌∙◌, not-suc-le-zero, suc-le-suc, zero-le, le_of_suc-le-suc, arith, length-append, length-set, length-take-le, take-suc}
use Rattle.std.proofs.Common.{add-one, eq-eqb, ne_eqb}
use Rattle.std.proofs.lemmas.Bool.{false≢true}
use Rattle.std.proofs.Math.Option.{Option, none, some}
use Rattle.std.proofs.Math.Seq.{take-length}
use Rattle.definition.specs.Cost.{cheaper}
use Rattle.definition.specs.Connection.{Connection}
use Rattle.definition.specs.Walk.{each}
use Rattle.definition.specs.Search.{Leaf, Plan, Entry, Input, plan_of, is_some, connection_for, candidate, leaf_entries}
use Rattle.definition.specs.TwoPasses.{Positions, Costed, candidate_at, leaves_costed, having, plan_over, candidate_plan, best_after, cost_step, costed_by}
use Rattle.definition.proofs.MemoLaws.{leaf_plans-length}
use Rattle.definition.proofs.TwoPassesLaws.{InReach, edge_gives, each_more, plans_count}

-- ---- which plan is kept

module _ (c : Costed) (k n : ℕ) (p : Plan) where
  -- the plan kept at position k
  abbrev pub old : Plan
  old = plan_of c.plans (get_or c.best k 0)

  pub best_new : k ≡ length c.best → best_after c k n p ≡ c.best ++ (n ∷ [])
  unfolding best_after
  best_new e = rw (eq-eqb k (length c.best) e, best_after)

  pub best_cheaper : k < length c.best → cheaper p.estimate old.estimate ≡ true → best_after c k n p ≡ set c.best k n
  unfolding best_after
  best_cheaper h e = rw (ne_eqb k (length c.best) (λ z. omega arith), best_after, e)

  pub best_kept : k < length c.best → cheaper p.estimate old.estimate ≡ false → best_after c k n p ≡ c.best
  unfolding best_after
  best_kept h e = rw (ne_eqb k (length c.best) (λ z. omega arith), best_after, e)

  -- one of the three
  best_cases : (P : List ℕ → Type 0) → P (c.best ++ (n ∷ [])) → P (set c.best k n) → P c.best → P (best_after c k n p)
  unfolding best_after
  best_cases P f g o = go (eqb k (length c.best)) (cheaper p.estimate old.estimate)
    where
      go : (x y : Bool) → P (elim x [ true ↦ c.best ++ (n ∷ []) | false ↦ elim y [ true ↦ set c.best k n | false ↦ c.best ] ])
      go true y = f
      go false true = g
      go false false = o

  -- one position more, where k is the next
  pub best_count : length (best_after c k n p) ≡ elim (eqb k (length c.best)) [ true ↦ suc (length c.best) | false ↦ length c.best ]
  unfolding best_after
  best_count = go (eqb k (length c.best)) (cheaper p.estimate old.estimate)
    where
      go : (x y : Bool)
          → length {A = ℕ} (elim x [ true ↦ c.best ++ (n ∷ []) | false ↦ elim y [ true ↦ set c.best k n | false ↦ c.best ] ])
          ≡ elim x [ true ↦ suc (length c.best) | false ↦ length c.best ]
      go true y = length-append c.best (n ∷ []) ∙ add-one (length c.best)
      go false true = length-set c.best k n
      go false false = refl

-- ---- the candidate's plan is the search's

module _ (i : Input) (l : List ℕ) where
  pub plan_is : (t : Positions) (d : Costed) (a b : ℕ) (c : Connection) → get_or l t.left 0 ≡ a → get_or l t.right 0 ≡ b
      → connection_for i d.plans a b (get_or d.best t.left 0) (get_or d.best t.right 0) ≡ some c
      → candidate_plan i l t d ≡ candidate (having d.plans) a b (get_or d.best t.left 0) (get_or d.best t.right 0) c
  unfolding candidate_plan plan_over
  plan_is t d a b c ea eb ec = rw (ea, eb, ec)

  -- in reach there is an edge between the two sets, which gives it something
  pub reach_gives : (t : Positions) (d : Costed) → InReach i l d t
      → (c : Connection)
      × (connection_for i d.plans (get_or l t.left 0) (get_or l t.right 0) (get_or d.best t.left 0) (get_or d.best t.right 0) ≡ some c)
  reach_gives t d r =
      go (connection_for i d.plans a b x y) (sym (edge_gives i d.plans a b x y) ∙ r.edge)
    where
      a : ℕ
      a = get_or l t.left 0

      b : ℕ
      b = get_or l t.right 0

      x : ℕ
      x = get_or d.best t.left 0

      y : ℕ
      y = get_or d.best t.right 0

      go : (o : Option Connection) → is_some o ≡ true → (c : Connection) × (o ≡ some c)
      go none e = absurd (false≢true e)
      go (some c) e = (c, refl)

  -- ---- after k candidates

  module _ (ts : List Positions) where
    abbrev pub after : ℕ → Costed
    after k = costed_by i l (take k ts)

    pub after_next : (k : ℕ) → k < length ts → after (suc k) ≡ cost_step i l (candidate_at ts k) (after k)
    after_next k h = ap (costed_by i l) (take-suc ts k _ h) ∙ each_more (cost_step i l) (take k ts) (candidate_at ts k) (leaves_costed i)

    pub after_all : after (length ts) ≡ costed_by i l ts
    after_all = ap (costed_by i l) (take-length ts)

    pub after_plans : (k : ℕ) → k ≤ length ts → length (after k).plans ≡ length i.leaves + k
    after_plans k h = omega (arith, plans_count i l (take k ts) (leaves_costed i), leaf_plans-length 0 i.leaves, length-take-le k ts h)

-- ---- each position in the memo names a plan that is there

abbrev pub Below : ℕ → List ℕ → Type 0
Below n xs = (j : ℕ) → j < length xs → get_or xs j 0 < n

below_more : (n : ℕ) (xs : List ℕ) → Below n xs → Below (suc n) (xs ++ (n ∷ []))
below_more n [] h zero l = omega arith
below_more n [] h (suc j) l = absurd (not-suc-le-zero (le_of_suc-le-suc l))
below_more n (x ∷ xs) h zero l = omega (arith, h 0 (suc-le-suc zero-le))
below_more n (x ∷ xs) h (suc j) l = below_more n xs (λ k m. h (suc k) (suc-le-suc m)) j (le_of_suc-le-suc l)

below_set : (n : ℕ) (xs : List ℕ) (k : ℕ) → Below n xs → Below (suc n) (set xs k n)
below_set n [] k h j l = absurd (not-suc-le-zero l)
below_set n (x ∷ xs) zero h zero l = omega arith
below_set n (x ∷ xs) zero h (suc j) l = omega (arith, h (suc j) l)
below_set n (x ∷ xs) (suc k) h zero l = omega (arith, h 0 (suc-le-suc zero-le))
below_set n (x ∷ xs) (suc k) h (suc j) l = below_set n xs k (λ m o. h (suc m) (suc-le-suc o)) j (le_of_suc-le-suc l)

leaves_below : (k : ℕ) (ls : List Leaf) → Below (k + length ls) (map (λ (e : Entry). e.plan) (leaf_entries k ls))
unfolding leaf_entries
leaves_below k [] j h = absurd (not-suc-le-zero h)
leaves_below k (x ∷ ls) zero h = omega arith
leaves_below k (x ∷ ls) (suc j) h = omega (arith, leaves_below (suc k) ls j (le_of_suc-le-suc h))

pub step_named : (i : Input) (l : List ℕ) (t : Positions) (c : Costed) → Below (length c.plans) c.best
    → Below (length (cost_step i l t c).plans) (cost_step i l t c).best
step_named i l t c h =
    rw (more)
    (best_cases c t.union n p (Below (suc n)) (below_more n c.best h) (below_set n c.best t.union h) (λ j m. omega (arith, h j m)))
  where
    n : ℕ
    n = length c.plans

    p : Plan
    p = candidate_plan i l t c

    more : length (c.plans ++ (p ∷ [])) ≡ suc n
    more = omega (arith, length-append c.plans (p ∷ []))

each_named : (i : Input) (l : List ℕ) (ts : List Positions) (c : Costed) → Below (length c.plans) c.best
    → Below (length (each (cost_step i l) ts c).plans) (each (cost_step i l) ts c).best
each_named i l [] c h = h
each_named i l (t ∷ ts) c h = each_named i l ts (cost_step i l t c) (step_named i l t c h)

pub after_named : (i : Input) (l : List ℕ) (ts : List Positions) → Below (length (costed_by i l ts).plans) (costed_by i l ts).best
after_named i l ts =
    each_named i l ts (leaves_costed i) (λ j h. omega (arith, leaves_below 0 i.leaves j h, leaf_plans-length 0 i.leaves))
