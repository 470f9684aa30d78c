-- The answer's number: 0 or 12 to 15 where the sheet is accepted, and else another one, with nothing written. Assumes nothing.
use Rattle.std.proofs.Math.Path.{◌≡◌, refl}
use Rattle.std.specs.Prelude.{Bool, true, false, ◌&&◌, ◌||◌, List, [], ◌∷◌, ◌++◌, eqb, leb}
use Rattle.std.proofs.Math.Option.{Option, none, some}
use Prim.Native.Nat.{ℕ, zero, suc}
use Rattle.std.proofs.lemmas.Bool.{eqb-false}
use Rattle.nodeset.specs.SubsetLaws.{All}
use Rattle.definition.specs.Answers.{planned, plans_full, no_plan}
use Rattle.definition.specs.Lists.{concat_map}
use Rattle.definition.specs.Question.{Question, open_question}
use Rattle.definition.specs.Sheet.{Check, first_failing, header_checks, item_checks, predicate_checks, question_of, question_answer, sheet_answer}
use Rattle.definition.specs.Hypergraph.{Sided}
use Rattle.definition.specs.Search.{Input, search, complete, ending}
use Rattle.definition.specs.Call.{Rooms, Outcome, edge_checks, store_checks, refused_with, accepted, refusal, input_of, searched, call}
use Rattle.definition.proofs.AllLaws.{all_both, all_concat}
use Rattle.definition.proofs.EdgeLaws.{edges_sided}
use Rattle.definition.proofs.StopLaws.{Stop, goes_on, plans-full, memo_full_lem, visits_spent_lem, search_stop}
use Rattle.definition.proofs.PlanRuleLaws.{accepted-call, call-searched}

-- the numbers that end a search: 0, and 12 to 15
abbrev pub is_ending : ℕ → Bool
is_ending n = eqb n planned || leb plans_full n && leb n no_plan

-- ---- a refusal's number ends no search

abbrev Refuses : Check → Type 0
Refuses c = is_ending c.answer ≡ false

abbrev Refusing : ℕ → Type 0
Refusing n = (n ≡ 0 → ⊥) → is_ending n ≡ false

first_refuses : (cs : List Check) → All Refuses cs → Refusing (first_failing cs)
unfolding first_failing
first_refuses [] a = λ z. absurd (z refl)
first_refuses (c ∷ cs) a = go c.fails (first_refuses cs a.1)
  where
    go : (b : Bool) → Refusing (first_failing cs) → Refusing (elim b [ true ↦ c.answer | false ↦ first_failing cs ])
    go true h = λ z. a.0
    go false h = h

-- the first number that is not 0
then : (n m : ℕ) → Refusing n → Refusing m → Refusing (elim n [ zero ↦ m | suc k ↦ suc k ])
then zero m h k = k
then (suc n) m h k = h

question_refuses : (q : Question) → Refusing (question_answer q)
unfolding question_answer
question_refuses q =
    first_refuses _
    (all_both Refuses (concat_map (item_checks q) q.items) _ (all_concat Refuses (item_checks q) (λ i. (refl, (refl, (refl, tt)))) q.items)
    (all_both Refuses (concat_map (predicate_checks q) q.predicates) _ (all_concat Refuses (predicate_checks q) (λ p. (refl, (refl, tt))) q.predicates)
    (refl, (refl, tt))))

sheet_refuses : (bs : List ℕ) → Refusing (sheet_answer bs)
unfolding sheet_answer
sheet_refuses bs =
    then (first_failing (header_checks bs)) _
    (first_refuses (header_checks bs) (refl, (refl, (refl, (refl, (refl, (refl, (refl, (refl, tt)))))))))
    (question_refuses (question_of bs))

call_refuses : (bs : List ℕ) (rooms : Rooms) → Refusing (refused_with bs rooms)
unfolding refused_with
call_refuses bs rooms =
    then (sheet_answer bs) _ (sheet_refuses bs) (first_refuses (edge_checks (question_of bs) ++ store_checks (question_of bs) rooms) (refl, (refl, tt)))

-- ---- what ends a search

searched_ends : (i : Input) → All Sided i.edges → is_ending (searched i).answer ≡ true
unfolding searched
searched_ends i sided = go (search i).stop (complete i (search i)) (search_stop i sided)
  where
    go : (stop : ℕ) (o : Option ℕ) → Stop stop → is_ending (ending stop o) ≡ true
    go stop none (goes_on e) = rw e
    go stop (some p) (goes_on e) = rw e
    go stop o (plans-full e) = rw e
    go stop o (memo_full_lem e) = rw e
    go stop o (visits_spent_lem e) = rw e

-- ---- "A sheet is accepted if its call gets none of 1 to 11, nor a number added later that writes nothing."

module _ (bs : List ℕ) (rooms : Rooms) (limit : ℕ) where
  pub accepted_answer : accepted bs rooms ≡ true → is_ending (call bs rooms limit).answer ≡ true
  accepted_answer a =
      rw (call-searched bs rooms a limit)
      (searched_ends (input_of (question_of bs) rooms limit) (edges_sided (open_question (question_of bs)) (accepted-call bs rooms a).sound.few_leaves))

  pub refused_call : accepted bs rooms ≡ false → call bs rooms limit ≡ refusal (refused_with bs rooms)
  unfolding call
  refused_call r = go (refused_with bs rooms) (eqb-false (refused_with bs rooms) 0 r)
    where
      go : (n : ℕ) → (n ≡ 0 → ⊥) → ◌≡◌ {A = Outcome} (elim n [ zero ↦ searched (input_of (question_of bs) rooms limit) | suc k ↦ refusal (suc k) ]) (refusal n)
      go zero z = absurd (z refl)
      go (suc n) z = refl

  pub refused_answer : accepted bs rooms ≡ false → is_ending (call bs rooms limit).answer ≡ false
  refused_answer r = rw (refused_call r) (call_refuses bs rooms (eqb-false (refused_with bs rooms) 0 r))
