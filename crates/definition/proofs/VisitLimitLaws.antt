-- A shorter default limit, for the whole call from the sheet's bytes: what a call under one visit limit says of calls under others. Assumes
-- nothing.
use Rattle.std.specs.Prelude.{◌≡◌, refl, ◌⊎◌, Bool, true, false, ◌&&◌, ◌||◌, not, List, eqb, ltb, leb}
use Rattle.std.proofs.Common.{sym, ap, ◌∙◌, subst, inl, inr, arith, true≢false, le_refl, ltb-true, ltb-false, eq-eqb, ne_eqb, lit≤}
use Prim.Native.Nat.{ℕ, zero, suc, ◌≤◌, ◌<◌}
use Rattle.std.proofs.lemmas.Bool.{leb-true, le-leb, not_from_false}
use Rattle.std.specs.Cmp.Derive.{both_true}
use Rattle.std.proofs.Math.Option.{Option, none, some}
use Rattle.nodeset.specs.SubsetLaws.{All}
use Rattle.definition.specs.Answers.{visits_spent}
use Rattle.definition.specs.Hypergraph.{Sided}
use Rattle.definition.specs.Question.{open_question}
use Rattle.definition.specs.Sheet.{question_of}
use Rattle.definition.specs.Search.{Input, search, complete, ending}
use Rattle.definition.specs.Call.{Rooms, Outcome, default_limit, accepted, input_of, searched, call}
use Rattle.definition.specs.VisitLimits.{ended_within, SameUnderLimits, former_default, SameUnderBoth, Beginning, Spent}
use Rattle.definition.proofs.EdgeLaws.{edges_sided}
use Rattle.definition.proofs.PlanRuleLaws.{accepted-call, call-searched}
use Rattle.definition.proofs.OutcomeLaws.{is_ending, refused_call, refused_answer}
use Rattle.definition.proofs.VisitLimitSearch.{begins_same, with_limit, Spends, TwoRuns, search_two}

-- ---- two calls, the first under the smaller limit

-- the one answers 14 after m visits; the other makes more, and what the one wrote stands first in what the other wrote
record CallParted (m : ℕ) (o p : Outcome) : Type 0 where
  pub answer : o.answer ≡ visits_spent
  pub visits : o.visits ≡ m
  pub more : m < p.visits
  pub beginning : Beginning o p

abbrev TwoCalls : ℕ → Outcome → Outcome → Type 0
TwoCalls m o p = ((o ≡ p) × Spends m o.visits o.answer) ⊎ CallParted m o p

beginning_same : (o : Outcome) → Beginning o o
beginning_same o = record { edges = refl; plans = begins_same o.plans; sets = begins_same _; tried = begins_same o.tried }

ending_spent : (stop : ℕ) (o : Option ℕ) → ending stop o ≡ visits_spent → stop ≡ visits_spent
ending_spent zero none e = absurd (omega arith)
ending_spent zero (some p) e = absurd (omega arith)
ending_spent (suc k) o e = e

spent_ending : (stop : ℕ) (o : Option ℕ) → stop ≡ visits_spent → ending stop o ≡ visits_spent
spent_ending stop o e = rw e refl

searched_two : (i : Input) → All Sided i.edges → (m n : ℕ) → m ≤ n → TwoCalls m (searched (with_limit i m)) (searched (with_limit i n))
unfolding searched
searched_two i sided m n h = go (search_two i m n h sided)
  where
    go : TwoRuns m (search (with_limit i m)) (search (with_limit i n)) → TwoCalls m (searched (with_limit i m)) (searched (with_limit i n))
    go (inl r) =
        inl (
          (let same : search (with_limit i m) ≡ search (with_limit i n) = r.0 in cc),
          record { few = r.1.few; spent = λ e. r.1.spent (ending_spent (search (with_limit i m)).stop (complete i (search (with_limit i m))) e) },
        )
    go (inr p) =
        inr (
        record {
          answer = spent_ending (search (with_limit i m)).stop (complete i (search (with_limit i m))) p.stop;
          visits = p.visits;
          more = p.more;
          beginning = record { edges = refl; plans = p.plans; sets = p.sets; tried = p.tried };
        }
        )

-- ---- what it says that a call ended within a limit, and not with 14

ended : (limit : ℕ) (o : Outcome) → ended_within limit o ≡ true → (o.visits ≤ limit) × (o.answer ≡ visits_spent → ⊥)
ended limit o = go (leb o.visits limit) (eqb o.answer visits_spent) (leb-true o.visits limit) (eq-eqb o.answer visits_spent)
  where
    go : (a b : Bool) → (a ≡ true → o.visits ≤ limit) → (o.answer ≡ visits_spent → b ≡ true) → (a && not b) ≡ true
        → (o.visits ≤ limit) × (o.answer ≡ visits_spent → ⊥)
    go true true f g e = absurd (true≢false (sym e))
    go true false f g e = (f refl, λ a. absurd (true≢false (sym (g a))))
    go false b f g e = absurd (true≢false (sym e))

within_more : (first limit : ℕ) (o : Outcome) → first ≤ limit → ended_within first o ≡ true → ended_within limit o ≡ true
within_more first limit o h e =
    let r = ended first o e in
    both_true (le-leb o.visits limit (omega (arith, r.0))) (not_from_false (eqb o.answer visits_spent) (ne_eqb o.answer visits_spent r.1))

-- ---- the whole call

module _ (bs : List ℕ) (rooms : Rooms) where
  refused_spends : (m : ℕ) → accepted bs rooms ≡ false → Spends m (call bs rooms m).visits (call bs rooms m).answer
  refused_spends m r =
      let none : (call bs rooms m).visits ≡ 0 = ap (λ (o : Outcome). o.visits) (refused_call bs rooms m r) in
      record { few = omega (arith, none); spent = λ e. absurd (true≢false (sym (ap is_ending e) ∙ refused_answer bs rooms m r)) }

  same_or_parted : (m n : ℕ) → m ≤ n → TwoCalls m (call bs rooms m) (call bs rooms n)
  same_or_parted m n h = go (accepted bs rooms) refl
    where
      go : (b : Bool) → accepted bs rooms ≡ b → TwoCalls m (call bs rooms m) (call bs rooms n)
      go true a =
          rw (call-searched bs rooms a m, call-searched bs rooms a n)
          (searched_two (input_of (question_of bs) rooms 0) (edges_sided (open_question (question_of bs)) (accepted-call bs rooms a).sound.few_leaves) m n h)
      go false r = inl (refused_call bs rooms m r ∙ sym (refused_call bs rooms n r), refused_spends m r)

  -- ---- "for any two limits that such a run's looks don't pass"

  pub same_under_limits : (first : ℕ) → SameUnderLimits bs rooms (call bs rooms first)
  same_under_limits first limit e = go (ltb limit first) (ltb-true limit first) (ltb-false limit first)
    where
      first_smaller : TwoCalls first (call bs rooms first) (call bs rooms limit) → call bs rooms limit ≡ call bs rooms first
      first_smaller (inl r) = sym r.0
      first_smaller (inr p) = absurd ((ended limit (call bs rooms first) e).1 p.answer)

      limit_smaller : TwoCalls limit (call bs rooms limit) (call bs rooms first) → call bs rooms limit ≡ call bs rooms first
      limit_smaller (inl r) = r.0
      limit_smaller (inr p) = absurd (omega (arith, p.more, (ended limit (call bs rooms first) e).0))

      go : (b : Bool) → (b ≡ true → limit < first) → (b ≡ false → first ≤ limit) → call bs rooms limit ≡ call bs rooms first
      go true l m = limit_smaller (same_or_parted limit first (omega (arith, l refl)))
      go false l m = first_smaller (same_or_parted first limit (m refl))

  -- the request's sentence
  pub same_under_both : SameUnderBoth bs rooms
  same_under_both e = go (ended_within default_limit (call bs rooms default_limit)) refl e
    where
      go : (b : Bool) → ended_within default_limit (call bs rooms default_limit) ≡ b
          → (b || ended_within default_limit (call bs rooms former_default)) ≡ true → call bs rooms former_default ≡ call bs rooms default_limit
      go true f e = same_under_limits default_limit former_default (within_more default_limit former_default (call bs rooms default_limit) (lit≤ tt) f)
      go false f e = sym (same_under_limits former_default default_limit e)

  -- ---- a call that answers 14

  call_spends : (limit : ℕ) → Spends limit (call bs rooms limit).visits (call bs rooms limit).answer
  call_spends limit = go (same_or_parted limit limit (le_refl limit))
    where
      go : TwoCalls limit (call bs rooms limit) (call bs rooms limit) → Spends limit (call bs rooms limit).visits (call bs rooms limit).answer
      go (inl r) = r.1
      go (inr p) = record { few = omega (arith, p.visits); spent = λ e. p.visits }

  -- whatever the answer
  pub visits_few : (limit : ℕ) → (call bs rooms limit).visits ≤ limit
  visits_few limit = (call_spends limit).few

  pub call_spent : (limit : ℕ) → (call bs rooms limit).answer ≡ visits_spent → Spent bs rooms limit (call bs rooms limit)
  call_spent limit e =
      record {
        visits = (call_spends limit).spent e;
        beginning = λ greater h. first (same_or_parted limit greater h);
        goes_on = λ greater h. more greater h (same_or_parted limit greater (omega (arith, h)));
      }
    where
      first : {p : Outcome} → TwoCalls limit (call bs rooms limit) p → Beginning (call bs rooms limit) p
      first (inl r) = subst (Beginning (call bs rooms limit)) r.0 (beginning_same (call bs rooms limit))
      first (inr p) = p.beginning

      more : (greater : ℕ) → limit < greater → TwoCalls limit (call bs rooms limit) (call bs rooms greater) → limit < (call bs rooms greater).visits
      more greater h (inl r) =
          let same : (call bs rooms greater).answer ≡ visits_spent = ap (λ (o : Outcome). o.answer) (sym r.0) ∙ e in
          omega (arith, h, (call_spends greater).spent same)
      more greater h (inr p) = p.more
