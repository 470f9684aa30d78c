-- Two searches that differ in their visit limit alone: they are the same until the smaller limit stops one of them. Assumes nothing.
use Rattle.std.specs.Prelude.{◌≡◌, refl, ◌⊎◌, Bool, true, false, List, [], ◌∷◌, ◌++◌, length, eqb, ltb}
use Rattle.std.proofs.Common.{sym, ap, ◌∙◌, subst, inl, inr, arith, le_refl, ltb-true, ltb-false}
use Prim.Native.Nat.{ℕ, suc, ◌≤◌, ◌<◌}
use Rattle.std.proofs.Math.Option.{Option}
use Rattle.std.proofs.lemmas.List.{take-append-le, take_all, length-take}
use Rattle.std.specs.Int.Bits.{bit_or}
use Rattle.nodeset.specs.SetLaws.{Apart}
use Rattle.nodeset.specs.SubsetLaws.{All}
use Rattle.definition.specs.Answers.{plans_full, memo_full, visits_spent}
use Rattle.definition.specs.Hypergraph.{Sided}
use Rattle.definition.specs.Search.{Plan, Input, State, find, is_some, kept, stopped, visit, memo_after}
use Rattle.definition.specs.Search.{attempt, start, search}
use Rattle.definition.specs.VisitLimits.{Begins}
use Rattle.definition.proofs.MemoLaws.{sets_of, sets-memo_after}
use Rattle.definition.proofs.WalkLaws.{either, solve_until_parted}
use Rattle.definition.proofs.StepLaws.{visit_keeps, attempt_keeps, attempt_alike}

-- ---- a list that grows at its end

begins_short : {A : Type 0} (xs ys : List A) → Begins xs ys → length xs ≤ length ys
begins_short xs ys b = omega (arith, ap length b, length-take (length xs) ys)

pub begins_same : {A : Type 0} (xs : List A) → Begins xs xs
begins_same xs = take_all (length xs) xs (le_refl _)

begins_more : {A : Type 0} (xs ys zs : List A) → Begins xs ys → Begins xs (ys ++ zs)
begins_more xs ys zs b = take-append-le (length xs) ys zs (begins_short xs ys b) ∙ b

-- ---- one input, under any limit

abbrev pub with_limit : Input → ℕ → Input
with_limit i limit =
    record {
      leaves = i.leaves;
      edges = i.edges;
      kinds = i.kinds;
      selectivities = i.selectivities;
      plan_room = i.plan_room;
      memo_room = i.memo_room;
      limit = limit;
    }

-- s has stopped with 14 after m visits; t has made more, and what s has written stands first in what t has written
pub record Parted (m : ℕ) (s t : State) : Type 0 where
  pub stop : s.stop ≡ visits_spent
  pub visits : s.visits ≡ m
  pub more : m < t.visits
  pub tried : Begins s.tried t.tried
  pub plans : Begins s.plans t.plans
  pub sets : Begins (sets_of s.memo) (sets_of t.memo)

-- at most m visits, and m where the number of the stop, or of the answer, is 14
pub record Spends (m visits number : ℕ) : Type 0 where
  pub few : visits ≤ m
  pub spent : number ≡ visits_spent → visits ≡ m

abbrev pub Same : ℕ → State → State → Type 0
Same m s t = (s ≡ t) × Spends m s.visits s.stop

abbrev pub TwoRuns : ℕ → State → State → Type 0
TwoRuns m s t = Same m s t ⊎ Parted m s t

-- a stopped state stays as it is
visit_stopped : (i : Input) (s : State) → s.stop ≡ visits_spent → visit i s ≡ s
unfolding visit
visit_stopped i s e = rw e refl

attempt_stopped : (i : Input) (a b : ℕ) (s : State) → s.stop ≡ visits_spent → attempt i a b s ≡ s
unfolding attempt
attempt_stopped i a b s e = rw e refl

-- ---- the two runs, step by step

module _ (i : Input) (m n : ℕ) (h : m ≤ n) where
  abbrev visited : State → Bool → Bool → State
  visited s going free =
      elim going [
        | true ↦
            elim free [
              | true ↦ record { tried = s.tried; plans = s.plans; memo = s.memo; visits = suc s.visits; stop = 0 }
              | false ↦ stopped s visits_spent
            ]
        | false ↦ s
      ]

  visit_two : (s : State) → Spends m s.visits s.stop → TwoRuns m (visit (with_limit i m) s) (visit (with_limit i n) s)
  unfolding visit
  visit_two s p =
      go (eqb s.stop 0) (ltb s.visits m) (ltb s.visits n) (λ e. ltb-true s.visits m e) (λ e. ltb-false s.visits m e) (λ e. ltb-false s.visits n e)
    where
      go : (b x y : Bool) → (x ≡ true → s.visits < m) → (x ≡ false → m ≤ s.visits) → (y ≡ false → n ≤ s.visits)
          → TwoRuns m (visited s b x) (visited s b y)
      go false x y l g k = inl (refl, p)
      go true true true l g k = inl (refl, record { few = l refl; spent = λ e. absurd (omega arith) })
      go true true false l g k = absurd (omega (arith, l refl, k refl))
      go true false true l g k =
          inr (
          record {
            stop = refl;
            visits = omega (arith, p.few, g refl);
            more = omega (arith, g refl);
            tried = begins_same s.tried;
            plans = begins_same s.plans;
            sets = begins_same (sets_of s.memo);
          }
          )
      go true false false l g k = inl (refl, record { few = p.few; spent = λ e. omega (arith, p.few, g refl) })

  attempt_spends : (j : Input) (a b : ℕ) (s : State) → Spends m s.visits s.stop → Spends m (attempt j a b s).visits (attempt j a b s).stop
  attempt_spends j a b s p =
      attempt_keeps j (λ (u : State). Spends m u.visits u.stop) s p a b (other plans_full (λ e. omega arith)) (other memo_full (λ e. omega arith))
      (λ l r c d. other 0 (λ e. omega arith))
    where
      other : (k : ℕ) → (k ≡ visits_spent → ⊥) → Spends m s.visits k
      other k z = record { few = p.few; spent = λ e. absurd (z e) }

  attempt_two : (a b : ℕ) (s : State) → Spends m s.visits s.stop → TwoRuns m (attempt (with_limit i m) a b s) (attempt (with_limit i n) a b s)
  attempt_two a b s p = inl (attempt_alike (with_limit i m) (with_limit i n) refl refl (λ st a b l r. refl) a b s, attempt_spends (with_limit i m) a b s p)

  -- the run that goes on only adds to what it has written
  parted_lists : (s t : State) → Parted m s t → (v k : ℕ) → m < v
      → Parted m s (record { tried = t.tried; plans = t.plans; memo = t.memo; visits = v; stop = k })
  parted_lists s t p v k more = record { stop = p.stop; visits = p.visits; more = more; tried = p.tried; plans = p.plans; sets = p.sets }

  visit_more : (s t : State) → Parted m s t → Parted m s (visit (with_limit i n) t)
  visit_more s t p =
      visit_keeps (with_limit i n) (Parted m s) t p (parted_lists s t p (suc t.visits) 0 (omega (arith, p.more)))
      (parted_lists s t p t.visits visits_spent p.more)

  sets_more : (t : State) (s : List ℕ) (a k : ℕ) (q : Plan) (o : Option ℕ) → Begins s (sets_of t.memo) → Begins s (sets_of (memo_after t a k q o))
  sets_more t s a k q o b =
      subst (Begins s) (sym (sets-memo_after t a k q o)) (either (Begins s) (is_some o) b (begins_more s (sets_of t.memo) (a ∷ []) b))

  attempt_more : (s : State) (a b : ℕ) (t : State) → Parted m s t → Parted m s (attempt (with_limit i n) a b t)
  attempt_more s a b t p =
      attempt_keeps (with_limit i n) (Parted m s) t p a b (parted_lists s t p t.visits plans_full p.more)
      (parted_lists s t p t.visits memo_full p.more)
      (λ l r c d.
      record {
        stop = p.stop;
        visits = p.visits;
        more = p.more;
        tried = begins_more s.tried t.tried _ p.tried;
        plans = begins_more s.plans t.plans _ p.plans;
        sets = sets_more t (sets_of s.memo) (bit_or a b) _ _ (find t.memo (bit_or a b)) p.sets;
      })

  -- the run that has stopped does nothing more
  visit_none : (t s : State) → Parted m s t → Parted m (visit (with_limit i m) s) t
  visit_none t s p = rw (visit_stopped (with_limit i m) s p.stop) p

  attempt_none : (t : State) (a b : ℕ) (s : State) → Parted m s t → Parted m (attempt (with_limit i m) a b s) t
  attempt_none t a b s p = rw (attempt_stopped (with_limit i m) a b s p.stop) p

  visit_runs : (s t : State) → TwoRuns m s t → TwoRuns m (visit (with_limit i m) s) (visit (with_limit i n) t)
  visit_runs s t (inl r) = subst (λ (u : State). TwoRuns m (visit (with_limit i m) s) (visit (with_limit i n) u)) r.0 (visit_two s r.1)
  visit_runs s t (inr p) = inr (visit_more (visit (with_limit i m) s) t (visit_none t s p))

  attempt_runs : (a b : ℕ) → Apart a b → (s t : State) → TwoRuns m s t → TwoRuns m (attempt (with_limit i m) a b s) (attempt (with_limit i n) a b t)
  attempt_runs a b h s t (inl r) =
      subst (λ (u : State). TwoRuns m (attempt (with_limit i m) a b s) (attempt (with_limit i n) a b u)) r.0 (attempt_two a b s r.1)
  attempt_runs a b h s t (inr p) = inr (attempt_more (attempt (with_limit i m) a b s) a b t (attempt_none t a b s p))

  kept_or_parted : (s t : State) → TwoRuns m s t → ((a : ℕ) → kept s a ≡ kept t a) ⊎ Parted m s t
  kept_or_parted s t (inl r) = inl (λ a. ap (λ (u : State). kept u a) r.0)
  kept_or_parted s t (inr p) = inr p

  pub search_two : All Sided i.edges → TwoRuns m (search (with_limit i m)) (search (with_limit i n))
  unfolding search start
  search_two sided =
      solve_until_parted i.edges sided State kept (visit (with_limit i m)) (attempt (with_limit i m)) State kept (visit (with_limit i n))
      (attempt (with_limit i n)) (TwoRuns m) (Parted m) visit_runs attempt_runs kept_or_parted visit_none (λ t a b k s p. attempt_none t a b s p) visit_more
      (λ s a b k t p. attempt_more s a b t p) (λ s t p. inr p) (length i.leaves) (start (with_limit i m)) (start (with_limit i n))
      (inl (refl, record { few = omega arith; spent = λ e. absurd (omega arith) }))
