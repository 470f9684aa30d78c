-- The search meets the plan rule. What any candidates of disjoint sets keep is stated for `attempt`; of the search's own walk only this is
-- used, that its pairs have no leaf in common. Assumes nothing.
use Rattle.std.specs.Prelude.{◌≡◌, Bool, true, false, length, eqb}
use Rattle.std.proofs.Math.Path.{refl, ap}
use Rattle.std.proofs.Common.{sym, ap₂, ◌∙◌, subst, subst₂, true≢false, le_refl, le_of_eq, not-suc-le-zero, suc-ne-zero, arith, eqb-true}
use mathlib.Core.List.{List, [], ◌∷◌, ◌++◌, map, map-append}
use Rattle.std.proofs.Math.Option.{Option, none, some}
use Prim.Native.Nat.{ℕ, zero, suc, ◌<◌}
use Rattle.std.proofs.Math.Seq.{take_all}
use Rattle.std.specs.Int.Bits.{bit_or}
use Rattle.std.proofs.lemmas.Bool.{eqb-false}
use Rattle.nodeset.specs.Sets.{singleton, all_below}
use Rattle.nodeset.specs.SetLaws.{Apart}
use Rattle.nodeset.specs.SubsetLaws.{All}
use Rattle.definition.specs.Answers.{plans_full, memo_full, visits_spent}
use Rattle.definition.specs.Lists.{tabulate, member}
use Rattle.definition.specs.Cost.{cheaper}
use Rattle.definition.specs.Connection.{Connection}
use Rattle.definition.proofs.TakenLaws.{lowest_between, lead_lowest}
use Rattle.definition.proofs.StepLaws.{visit_keeps, attempt_keeps}
use Rattle.definition.proofs.EstimateOrderLaws.{cheaper→costs_less, not_cheaper→at_least}
use Rattle.definition.specs.Walk.{each}
use Rattle.definition.proofs.WalkLaws.{solve_keeps}
use Rattle.definition.specs.Search.{Plan, Pair, Input, State, find, kept, plan_at, visit, added, connection_for, candidate, attempt}
use Rattle.definition.specs.Search.{leaf_plans, start, search, complete, ending, chosen_plan}
use Rattle.definition.specs.Call.{searched}
use Rattle.definition.specs.Kept.{union, made_for, Several, KeptAfter, single, larger, Qualifies, Made, Candidates}
use Rattle.definition.specs.PlanRule.{WithinLimits, entry_of, first_sets, MemoHolds, WellKept, Finite, PlanRule, pairs_in}
use Rattle.definition.proofs.KeptLaws.{single_not_several, kept_below, kept_unique, kept_set, joins_once, edge-at-each-join, all_finite, pair_several, read_back_lem}
use Rattle.definition.proofs.KeptMore.{length_more, pair_new, plan_new, kept_other, for_other, kept_first, kept-cheaper, kept_dearer, candidates_more}
use Rattle.definition.proofs.MemoLaws.{sets_of, some_inj, none≢some, winner, memo_after_same, memo_after_other, find-member, sets-memo_after, leaf_plans-length, leaf_found, leaf_missed}
use Rattle.definition.proofs.MemoOrder.{first_more, Distinct, entries_once, find_at, find_position, leaf-sets, leaf_first, order_distinct}

-- plan p is kept for the set s after all candidates of a state
abbrev pub KeptIn : Input → State → ℕ → ℕ → Type 0
KeptIn i st s p = KeptAfter (length i.leaves) st.tried st.plans (length st.tried) s p

-- what holds after each visit and each candidate
pub record Ruled (i : Input) (st : State) : Type 0 where
  pub candidates : Candidates i st.tried st.plans
  pub holds : (s p : ℕ) → find st.memo s ≡ some p → KeptIn i st s p
  pub no_leaf : (s : ℕ) → find st.memo s ≡ none → (p : ℕ) → p < length i.leaves → s ≡ singleton p → ⊥
  pub no_candidate : (s : ℕ) → find st.memo s ≡ none → (k : ℕ) → k < length st.tried → made_for st.tried s k ≡ false
  pub order : sets_of st.memo ≡ first_sets (tabulate (length i.leaves) singleton) (map union st.tried)

-- these pairs tried in order
abbrev pub attempts : Input → List Pair → State → State
attempts i = each (λ (t : Pair) (st : State). attempt i t.left t.right st)

module _ (i : Input) (limits : WithinLimits i) where
  -- ---- one candidate more

  module _ (st : State) (v : Ruled i st) (a b : ℕ) (d : Apart a b) (l r : ℕ) (c : Connection)
      (hl : find st.memo a ≡ some l) (hr : find st.memo b ≡ some r) (hc : connection_for i st.plans a b l r ≡ some c) where
    abbrev pair : Pair
    pair = record { left = a; right = b }

    abbrev new : Plan
    new = candidate st a b l r c

    abbrev more : State
    more = added st a b new

    qualifies : Qualifies i.edges (length i.leaves) st.tried st.plans (length st.tried) pair new
    unfolding candidate
    qualifies =
        let lead = lead_lowest i.edges i.kinds i.selectivities a b _ c hc in
        record { apart = d; left = v.holds a l hl; right = v.holds b r hr; edge = lowest_between lead }

    made : Made i st.plans pair new
    unfolding candidate
    made = record { taken = c; connection = hc; set = refl; lead = refl; kind = refl; estimate = refl }

    candidates : Candidates i (st.tried ++ (pair ∷ [])) (st.plans ++ (new ∷ []))
    candidates = candidates_more i st.tried st.plans v.candidates pair new qualifies made

    several : Several (bit_or a b)
    several =
        subst (λ (t : Pair). Several (union t)) (pair_new (length i.leaves) st.tried st.plans v.candidates.count pair new)
        (pair_several i (st.tried ++ (pair ∷ [])) (st.plans ++ (new ∷ [])) candidates limits.count (length st.tried) (omega (arith, length_more st.tried pair)))

    -- plan p is kept for s after this candidate
    abbrev KeptNow : ℕ → ℕ → Type 0
    KeptNow s p = KeptAfter (length i.leaves) (st.tried ++ (pair ∷ [])) (st.plans ++ (new ∷ [])) (suc (length st.tried)) s p

    -- the memo's plan for the set
    the_winner : (o : Option ℕ) → find st.memo (bit_or a b) ≡ o → KeptNow (bit_or a b) (winner st (length st.plans) new o)
    the_winner none e =
        rw v.candidates.count
        (kept_first (length i.leaves) st.tried st.plans v.candidates.count pair new several (v.no_candidate (bit_or a b) e))
    the_winner (some o) e = pick (cheaper new.estimate (plan_at st o).estimate) refl
      where
        old : KeptIn i st (bit_or a b) o
        old = v.holds (bit_or a b) o e

        new_finite : Finite new
        new_finite =
            subst Finite (plan_new (length i.leaves) st.tried st.plans v.candidates.count pair new)
            (all_finite i (st.tried ++ (pair ∷ [])) (st.plans ++ (new ∷ [])) candidates limits _ (omega (arith, candidates.count, length_more st.tried pair)))

        old_finite : Finite (plan_at st o)
        old_finite = all_finite i st.tried st.plans v.candidates limits o (omega (arith, v.candidates.count, kept_below old))

        pick : (x : Bool) → cheaper new.estimate (plan_at st o).estimate ≡ x → KeptNow (bit_or a b) (elim x [ true ↦ length st.plans | false ↦ o ])
        pick true f =
            rw v.candidates.count
            (kept-cheaper (length i.leaves) st.tried st.plans v.candidates.count pair new several o old
            (cheaper→costs_less new.estimate (plan_at st o).estimate new_finite.cost old_finite.cost f))
        pick false f =
            kept_dearer (length i.leaves) st.tried st.plans v.candidates.count pair new several o old
            (not_cheaper→at_least new.estimate (plan_at st o).estimate new_finite.cost old_finite.cost f)

    found : find more.memo (bit_or a b) ≡ some (winner st (length st.plans) new (find st.memo (bit_or a b)))
    found = memo_after_same st (bit_or a b) (length st.plans) new (find st.memo (bit_or a b)) refl

    others : (s : ℕ) → (bit_or a b ≡ s → ⊥) → find more.memo s ≡ find st.memo s
    others = memo_after_other st (bit_or a b) (length st.plans) new (find st.memo (bit_or a b))

    holds_more : (s p : ℕ) → find more.memo s ≡ some p → KeptNow s p
    holds_more s p h = go (eqb (bit_or a b) s) refl
      where
        go : (x : Bool) → eqb (bit_or a b) s ≡ x → KeptNow s p
        go true e =
            let q : bit_or a b ≡ s = eqb-true (bit_or a b) s e in
            let w : winner st (length st.plans) new (find st.memo (bit_or a b)) ≡ p = some_inj (sym found ∙ ap (find more.memo) q ∙ h) in
            subst₂ KeptNow q w (the_winner (find st.memo (bit_or a b)) refl)
        go false e =
            let q = eqb-false (bit_or a b) s e in
            kept_other (length i.leaves) st.tried st.plans v.candidates.count pair new s p q (v.holds s p (sym (others s q) ∙ h))

    -- a set that the memo lacks, it lacked before
    lacked : (s : ℕ) → find more.memo s ≡ none → (bit_or a b ≡ s → ⊥) × (find st.memo s ≡ none)
    lacked s h = go (eqb (bit_or a b) s) refl
      where
        go : (x : Bool) → eqb (bit_or a b) s ≡ x → (bit_or a b ≡ s → ⊥) × (find st.memo s ≡ none)
        go true e = absurd (none≢some (sym h ∙ ap (find more.memo) (sym (eqb-true (bit_or a b) s e)) ∙ found))
        go false e = let q = eqb-false (bit_or a b) s e in (q, sym (others s q) ∙ h)

    order_more : sets_of more.memo ≡ first_sets (tabulate (length i.leaves) singleton) (map union more.tried)
    order_more =
        sets-memo_after st (bit_or a b) (length st.plans) new (find st.memo (bit_or a b))
        ∙ ap₂ (λ (x : Bool) (m : List ℕ). elim x [ true ↦ m | false ↦ m ++ (bit_or a b ∷ []) ])
        (find-member st.memo (bit_or a b) ∙ ap (member (bit_or a b)) v.order) v.order
        ∙ sym (first_more (tabulate (length i.leaves) singleton) (map union st.tried) (bit_or a b))
        ∙ ap (first_sets (tabulate (length i.leaves) singleton)) (sym (map-append union st.tried (pair ∷ [])))

    added_ruled : Ruled i more
    added_ruled =
        let size = length_more st.tried pair in
        record {
          candidates = candidates;
          holds = λ s p h. rw size (holds_more s p h);
          no_leaf = λ s h. v.no_leaf s (lacked s h).1;
          no_candidate = λ s h k g.
              for_other (length i.leaves) st.tried st.plans v.candidates.count pair new s (lacked s h).0 (v.no_candidate s (lacked s h).1) k (rw size at g);
          order = order_more;
        }

  -- ---- the operations

  same_ruled : (st : State) (visits stop : ℕ) → Ruled i st
      → Ruled i (record { tried = st.tried; plans = st.plans; memo = st.memo; visits = visits; stop = stop })
  same_ruled st visits stop v = record { candidates = v.candidates; holds = v.holds; no_leaf = v.no_leaf; no_candidate = v.no_candidate; order = v.order }

  pub visit_ruled : (st : State) → Ruled i st → Ruled i (visit i st)
  visit_ruled st v = visit_keeps i (Ruled i) st v (same_ruled st (suc st.visits) 0 v) (same_ruled st st.visits visits_spent v)

  -- any two sets without a leaf in common may be tried
  pub attempt_ruled : (a b : ℕ) → Apart a b → (st : State) → Ruled i st → Ruled i (attempt i a b st)
  attempt_ruled a b d st v =
      attempt_keeps i (Ruled i) st v a b (same_ruled st st.visits plans_full v) (same_ruled st st.visits memo_full v)
      (λ l r c x. added_ruled st v a b d l r c x.left x.right x.connection)

  -- ---- the start

  pub start_ruled : Ruled i (start i)
  unfolding start first_sets
  start_ruled =
      record {
        candidates =
            record {
              count = omega (arith, leaf_plans-length 0 i.leaves);
              leaves = take_all (length i.leaves) (leaf_plans 0 i.leaves) (le_of_eq (leaf_plans-length 0 i.leaves));
              qualify = λ k h. absurd (not-suc-le-zero h);
              made = λ k h. absurd (not-suc-le-zero h);
            };
        holds = λ s p h. let f = leaf_found 0 i.leaves s p h in single (omega (arith, f.0)) f.1;
        no_leaf = λ s h p l e. leaf_missed 0 i.leaves s h p l (e ∙ ap singleton (omega arith));
        no_candidate = λ s h k l. absurd (not-suc-le-zero l);
        order = leaf-sets i.leaves;
      }

  -- ---- what follows

  module _ (st : State) (v : Ruled i st) where
    memo_holds : MemoHolds (length i.leaves) st.tried st.plans st.memo
    memo_holds =
        let d : Distinct (sets_of st.memo) = rw v.order (order_distinct (length i.leaves) (map union st.tried) limits.count) in
        record {
          kept = λ x h. v.holds _ _ (find_at st.memo d x h);
          every = λ s p k. find_position st.memo s p (entered s p k (find st.memo s) refl);
          once = entries_once st.memo d;
          leaves = λ p h.
              let f = leaf_first (length i.leaves) (map union st.tried) st.memo v.order p h in
              (f.0, f.1, same (entry_of st.memo p).set _ p f.1 (v.holds _ _ (find_at st.memo d p f.0)) (single h refl));
          order = v.order;
        }
      where
        same : (s x p : ℕ) → s ≡ singleton p → KeptIn i st s x → KeptIn i st (singleton p) p → x ≡ p
        same s x p e k j = kept_unique (length i.leaves) st.tried st.plans (length st.tried) s x p limits.count k (rw e j)

        entered : (s p : ℕ) → KeptIn i st s p → (o : Option ℕ) → find st.memo s ≡ o → o ≡ some p
        entered s p (single h e) none f = absurd (v.no_leaf s f p h e)
        entered s p (larger w j e b) none f = absurd (true≢false (sym b.chosen ∙ v.no_candidate s f j b.within))
        entered s p k (some o) f = ap some (kept_unique (length i.leaves) st.tried st.plans (length st.tried) s o p limits.count (v.holds s o f) k)

    pub ruled_rule : PlanRule i st.tried st.plans st.memo
    ruled_rule =
        record {
          candidates = v.candidates;
          memo = memo_holds;
          kept = λ x h s. well _ _ s (memo_holds.kept x h);
          whole = joins_once i st.tried st.plans v.candidates limits.count;
          finite = all_finite i st.tried st.plans v.candidates limits;
        }
      where
        well : (s p : ℕ) → Several s → KeptIn i st s p → WellKept i st.tried st.plans s p
        well s p w (single h e) = absurd (single_not_several p (subst Several e w))
        well s p w (larger u j e b) =
            let q = kept_set i st.tried st.plans v.candidates (length st.tried) s p (le_refl _) (larger u j e b) in
            let h : p < length st.plans = omega (arith, b.within, v.candidates.count) in
            record {
              number = j;
              plan = e;
              set = q;
              leaves = rw (← q) (joins_once i st.tried st.plans v.candidates limits.count p h);
              edge = edge-at-each-join i st.tried st.plans v.candidates p h;
              earliest = b;
            }

  -- ---- the theorems

  -- whatever pairs of disjoint sets are tried, one after the other
  pub attempts_rule : (ts : List Pair) → All (λ (t : Pair). Apart t.left t.right) ts
      → let st = attempts i ts (start i) in
      PlanRule i st.tried st.plans st.memo
  attempts_rule ts all = ruled_rule (attempts i ts (start i)) (go ts all (start i) start_ruled)
    where
      go : (ts : List Pair) → All (λ (t : Pair). Apart t.left t.right) ts → (st : State) → Ruled i st → Ruled i (attempts i ts st)
      go [] all st v = v
      go (t ∷ ts) all st v = go ts all.1 (attempt i t.left t.right st) (attempt_ruled t.left t.right all.0 st v)

  pub search_ruled : Ruled i (search i)
  unfolding search
  search_ruled = solve_keeps i.edges limits.edges State kept (visit i) (attempt i) (Ruled i) visit_ruled attempt_ruled (length i.leaves) (start i) start_ruled

  -- the plan rule of demand 3, for the search, whatever ends it
  pub search_rule : PlanRule i (search i).tried (search i).plans (search i).memo
  search_rule = ruled_rule (search i) search_ruled

  -- and for what an accepted call writes
  pub searched_rule : PlanRule i (searched i).tried (searched i).plans (searched i).memo
  unfolding searched
  searched_rule = search_rule

  -- the pairs tried can be read back from the plans
  pub searched-pairs : (searched i).tried ≡ pairs_in (length i.leaves) (searched i).plans
  searched-pairs = read_back_lem i (searched i).tried (searched i).plans searched_rule.candidates

  -- "the chosen plan's number, which is that of the plan kept for the set of all leaves", where the answer is 0
  pub chosen_kept : (searched i).answer ≡ 0
      → KeptAfter (length i.leaves) (searched i).tried (searched i).plans (length (searched i).tried) (all_below (length i.leaves)) (searched i).chosen
  unfolding searched
  chosen_kept = go (search i).stop (complete i (search i)) refl
    where
      go : (stop : ℕ) (o : Option ℕ) → complete i (search i) ≡ o → ending stop o ≡ 0 → KeptIn i (search i) (all_below (length i.leaves)) (chosen_plan stop o)
      go zero none e h = absurd (suc-ne-zero 14 h)
      go zero (some p) e h = search_ruled.holds _ p e
      go (suc k) o e h = absurd (suc-ne-zero k h)
