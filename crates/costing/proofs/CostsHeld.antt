-- The second pass on lists that hold what is costed so far (definition, TwoPasses.antt): each step gives lists that hold the next, and all
-- steps those that hold the search's plans. Assumes nothing.
use Rattle.std.specs.Prelude.{◌≡◌, refl, Bool, true, false, ◌⊎◌, List, [], ◌∷◌, ℕ, zero, suc, ◌+◌, ◌<◌, ◌≤◌, length, get_or, set, take, eqb, Float}
use Rattle.std.specs.Prelude as prelude
use Rattle.std.specs.Prelude.{Some}
use Rattle.std.proofs.Common.{sym, ap, ap₂, ◌∙◌, inl, inr, add-zero, add-one, le_of_lt, eq-or-lt_of_le, eq-eqb, ne_eqb, arith}
use Rattle.std.proofs.Math.Option.{some}
use Rattle.std.specs.Int.Bits.{bit_or}
use Rattle.nodeset.specs.SubsetLaws.{All}
use Rattle.definition.specs.Lists.{column}
use Rattle.definition.specs.Hypergraph.{Sided}
use Rattle.definition.specs.Cost.{Estimate, product, candidate_from, cheaper}
use Rattle.definition.specs.Connection.{Connection, connection}
use Rattle.definition.specs.Search.{Plan, Leaf, Input, plan_of, connection_for, candidate}
use Rattle.definition.specs.TwoPasses.{Positions, Enumeration, Costed, candidate_at, enumerate, leaves_costed, having, candidate_plan, best_after}
use Rattle.definition.specs.TwoPasses.{cost_step, costed}
use Rattle.definition.specs.TwoPasses as definition
use Rattle.definition.proofs.MemoLaws.{leaf_plans-length}
use Rattle.definition.proofs.TwoPassesLaws.{InReach, in_reach}
use Rattle.definition.proofs.TwoPassesCostingLaws.{best_count, reach_gives, plan_is, after, after_next, after_all, after_plans, after_named}
use Rattle.definition.proofs.TwoPassesHeld.{in_front, plan_read, ahead, best_read, winner, plan_written, best_written}
use Rattle.store.specs.Estimates as estimates
use Rattle.candidate.specs.declared.Candidate.{Candidate}
use Rattle.candidate.specs.declared.Place.{Place}
use Rattle.candidate.specs.Store.{Lists, Given, lists, edges, at, place, made, written}
use Rattle.candidate.specs.Laws.{lists_eq}
use Rattle.held.specs.Held.{input_for, Roomy}
use Rattle.costing.specs.Steps as steps
use Rattle.costing.specs.Steps.{Costs, costs, place_for, candidate_over, candidate_in, step_in, steps_in}

-- the lists lent as h, holding these plans and the numbers of those kept
abbrev pub holding_costs : Lists → Costed → Lists
holding_costs h c =
    let ps = c.plans in
    lists (column (λ (p : Plan). p.set) ps h.pset) (column (λ (p : Plan). p.left) ps h.pleft) (column (λ (p : Plan). p.right) ps h.pright)
    (column (λ (p : Plan). p.lead) ps h.plead) (column (λ (p : Plan). p.kind) ps h.pkind) (column (λ (p : Plan). p.estimate.rows) ps h.prows)
    (column (λ (p : Plan). p.estimate.cost) ps h.pcost) h.mset (in_front c.best h.mplan)

-- and how many of those there are
abbrev pub costs_held : Lists → Costed → Costs
costs_held h c = costs (holding_costs h c) (length c.best)

-- ---- one step: C is costed, and t is next

module _ (g : Given) (ls : List Leaf) (limit : ℕ) (h : Lists) (room : Roomy g h) (sets : List ℕ) (C : Costed) (t : Positions)
    (reach : InReach (input_for g ls limit) sets C t) (named : (j : ℕ) → j < length C.best → get_or C.best j 0 < length C.plans)
    (plans_fit : length C.plans < g.plan_room) (sets_fit : length sets ≤ g.memo_room)
    (left_is : get_or h.pleft (length C.plans) 0 ≡ t.left)
    (right_is : get_or h.pright (length C.plans) 0 ≡ t.right)
    (union_is : get_or h.plead (length C.plans) 0 ≡ t.union)
    (sets_are : (k : ℕ) → k < length sets → get_or h.mset k 0 ≡ get_or sets k 0) where
  abbrev I : Input
  I = input_for g ls limit

  abbrev N : ℕ
  N = length C.plans

  abbrev M : ℕ
  M = length C.best

  abbrev H : Lists
  H = holding_costs h C

  -- the place of the plan to come is as it was lent
  behind : {B : Type 0} (f : Plan → B) (xs : List B) (d : B) → get_or (column f C.plans xs) N d ≡ get_or xs N d
  behind f xs d = rw add-zero at (ahead f C.plans xs 0 d)

  estimate_is : (n : ℕ) → n < N → at H n ≡ (plan_of C.plans n).estimate
  estimate_is n q =
      ap₂ (λ (x y : Float). estimate x y) (plan_read (λ (p : Plan). p.estimate.rows) C.plans h.prows n estimates.zero q)
      (plan_read (λ (p : Plan). p.estimate.cost) C.plans h.pcost n estimates.zero q)
    where
      estimate : Float → Float → Estimate
      estimate x y = record { rows = x; cost = y }

  abbrev a : ℕ
  a = get_or sets t.left 0

  abbrev b : ℕ
  b = get_or sets t.right 0

  abbrev l : ℕ
  l = get_or C.best t.left 0

  abbrev r : ℕ
  r = get_or C.best t.right 0

  abbrev X : Estimate
  X = (plan_of C.plans l).estimate

  abbrev Y : Estimate
  Y = (plan_of C.plans r).estimate

  x_is : at H l ≡ X
  x_is = estimate_is l (named t.left reach.left)

  y_is : at H r ≡ Y
  y_is = estimate_is r (named t.right reach.right)

  set_is : (j : ℕ) → j < M → get_or h.mset j 0 ≡ get_or sets j 0
  set_is j q = sets_are j (omega (arith, reach.entries))

  -- over any positions, sets and plans
  abbrev over : ℕ → ℕ → ℕ → ℕ → ℕ → Estimate → Estimate → prelude.Option Candidate
  over u a b l r x y = candidate_over H M N u (bit_or a b) l r (connection (edges g) g.kinds g.selectivity a b (product x y))

  read : candidate_in g H M N ≡ over t.union a b l r X Y
  read =
      rw (behind (λ (p : Plan). p.left) h.pleft 0, behind (λ (p : Plan). p.right) h.pright 0, behind (λ (p : Plan). p.lead) h.plead 0)
      (rw (left_is, right_is, union_is, set_is t.left reach.left, set_is t.right reach.right)
      (rw (best_read C.best h.mplan t.left reach.left, best_read C.best h.mplan t.right reach.right)
      (ap₂ (over t.union a b l r) x_is y_is)))

  module _ (c : Connection) (c_is : connection_for I C.plans a b l r ≡ some c) where
    abbrev p : Plan
    p = candidate (having C.plans) a b l r c

    abbrev kept : List ℕ
    kept = best_after C t.union N p

    abbrev make : Estimate → Place → Candidate
    make e o = made (bit_or a b) l r c.lead c.kind e o

    estimate_for : candidate_from c.kind (at H l) (at H r) c.rows ≡ p.estimate
    unfolding candidate
    estimate_for = ap₂ (λ (x y : Estimate). candidate_from c.kind x y c.rows) x_is y_is

    place_is : place_for H M N t.union p.estimate ≡ place t.union (winner C t.union p) (length kept)
    unfolding place_for winner
    place_is = go (eq-or-lt_of_le reach.union)
      where
        go : (t.union ≡ M) ⊎ (t.union < M) → place_for H M N t.union p.estimate ≡ place t.union (winner C t.union p) (length kept)
        go (inl z) = rw (best_count C t.union N p, eq-eqb t.union M z, place_for, winner, add-one)
        go (inr m) =
            rw (best_count C t.union N p, ne_eqb t.union M (λ z. omega arith), place_for, winner)
            (ap (λ (n : ℕ). named_by (elim (cheaper p.estimate (at H n)) [ true ↦ N | false ↦ n ])) (best_read C.best h.mplan t.union m)
            ∙ ap (λ (x : Estimate). named_by (elim (cheaper p.estimate x) [ true ↦ N | false ↦ get_or C.best t.union 0 ]))
            (estimate_is (get_or C.best t.union 0) (named t.union m)))
          where
            named_by : ℕ → Place
            named_by n = place t.union n M

    candidate_is : candidate_in g H M N ≡ Some (make p.estimate (place t.union (winner C t.union p) (length kept)))
    unfolding candidate_over
    candidate_is =
        read ∙ ap (candidate_over H M N t.union (bit_or a b) l r) c_is
        ∙ ap (λ (e : Estimate). Some (make e (place_for H M N t.union e))) estimate_for
        ∙ ap (λ (o : Place). Some (make p.estimate o)) place_is

    written_is : written H N (make p.estimate (place t.union (winner C t.union p) (length kept))) ≡ holding_costs h (definition.written C t.union p)
    unfolding candidate
    written_is =
        lists_eq
        (plan_written C t.union p (λ (q : Plan). q.set) h.pset 0 (omega (arith, room.pset)))
        (plan_written C t.union p (λ (q : Plan). q.left) h.pleft 0 (omega (arith, room.pleft)))
        (plan_written C t.union p (λ (q : Plan). q.right) h.pright 0 (omega (arith, room.pright)))
        (plan_written C t.union p (λ (q : Plan). q.lead) h.plead 0 (omega (arith, room.plead)))
        (plan_written C t.union p (λ (q : Plan). q.kind) h.pkind 0 (omega (arith, room.pkind)))
        (plan_written C t.union p (λ (q : Plan). q.estimate.rows) h.prows estimates.zero (omega (arith, room.prows)))
        (plan_written C t.union p (λ (q : Plan). q.estimate.cost) h.pcost estimates.zero (omega (arith, room.pcost)))
        refl
        (best_written C t.union p h.mplan reach.union (omega (arith, reach.inside, room.mplan)))

    step_is : step_in g N (costs_held h C) ≡ costs_held h (definition.written C t.union p)
    unfolding step_in
    step_is = ap (steps.after (costs_held h C) N) candidate_is ∙ ap (λ (x : Lists). costs x (length kept)) written_is

  -- a step on the lists that hold C gives the lists that hold the next
  pub step_held : step_in g N (costs_held h C) ≡ costs_held h (cost_step I sets t C)
  step_held =
      let d = reach_gives I sets t C reach in
      step_is d.0 d.1 ∙ ap (λ (q : Plan). costs_held h (definition.written C t.union q)) (sym (plan_is I sets t C a b d.0 refl refl d.1))

-- ---- all steps

-- the lists as the first pass leaves them: the candidates' positions behind the leaves' plans, and the memo's sets in front
pub record Listed (h : Lists) (leaves : ℕ) (t : Enumeration) : Type 0 where
  pub left : (k : ℕ) → k < length t.candidates → get_or h.pleft (leaves + k) 0 ≡ (candidate_at t.candidates k).left
  pub right : (k : ℕ) → k < length t.candidates → get_or h.pright (leaves + k) 0 ≡ (candidate_at t.candidates k).right
  pub union : (k : ℕ) → k < length t.candidates → get_or h.plead (leaves + k) 0 ≡ (candidate_at t.candidates k).union
  pub sets : (k : ℕ) → k < length t.sets → get_or h.mset k 0 ≡ get_or t.sets k 0

module _ (g : Given) (ls : List Leaf) (limit : ℕ) (h : Lists) (room : Roomy g h) (sided : All Sided (edges g))
    (plans_fit : length ls + length (enumerate (input_for g ls limit)).candidates ≤ g.plan_room)
    (sets_fit : length (enumerate (input_for g ls limit)).sets ≤ g.memo_room)
    (listed : Listed h (length ls) (enumerate (input_for g ls limit))) where
  abbrev J : Input
  J = input_for g ls limit

  abbrev E : Enumeration
  E = enumerate J

  abbrev now : ℕ → Costed
  now k = after J E.sets E.candidates k

  one : (k : ℕ) → k < length E.candidates → step_in g (length (now k).plans) (costs_held h (now k)) ≡ costs_held h (now (suc k))
  one k q =
      let n = after_plans J E.sets E.candidates k (le_of_lt q) in
      step_held g ls limit h room E.sets (now k) (candidate_at E.candidates k) (in_reach J sided k q) (after_named J E.sets (take k E.candidates))
      (omega (arith, n)) sets_fit (rw n (listed.left k q)) (rw n (listed.right k q)) (rw n (listed.union k q)) listed.sets
      ∙ ap (costs_held h) (sym (after_next J E.sets E.candidates k q))

  -- x steps are left
  rest : (x k : ℕ) → k + x ≡ length E.candidates → steps_in g x (length (now k).plans) (costs_held h (now k)) ≡ costs_held h (now (length E.candidates))
  unfolding steps_in
  rest zero k q = let z : k ≡ length E.candidates = omega arith in ap (λ (n : ℕ). costs_held h (now n)) z
  rest (suc x) k q =
      let m : k < length E.candidates = omega arith in
      let more : suc (length (now k).plans) ≡ length (now (suc k)).plans =
      omega (arith, after_plans J E.sets E.candidates k (le_of_lt m), after_plans J E.sets E.candidates (suc k) m) in
      ap₂ (steps_in g x) more (one k m) ∙ rest x (suc k) (omega arith)

  -- all steps on the lists that hold the leaves give the lists that hold the search's plans
  pub steps_held : steps_in g (length E.candidates) (length ls) (costs_held h (leaves_costed J)) ≡ costs_held h (costed J E)
  unfolding costed
  steps_held =
      ap (λ (n : ℕ). steps_in g (length E.candidates) n (costs_held h (leaves_costed J))) (sym (leaf_plans-length 0 ls))
      ∙ rest (length E.candidates) 0 (omega arith)
      ∙ ap (costs_held h) (after_all J E.sets E.candidates)
