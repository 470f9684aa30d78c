-- An item and its table by what is read, and what an answer says. Assumes nothing.
use Rattle.std.specs.Prelude.{ℕ, ◌+◌, ◌<◌, drop, List, [], ◌∷◌, ◌≡◌, eqb, Result, Ok, Err, IsErrAnd}
use Rattle.std.proofs.Common.{add-one, drop-cons, inl, inr, sym, ap, ◌∙◌, arith}
use Rattle.std.proofs.lemmas.Result.{err_from_is_err_and}
use Rattle.definition.specs.Lists.{concat_map}
use Rattle.definition.specs.Question.{Item, Predicate, predicate, leaf}
use Rattle.definition.specs.Sheet.{question_of, predicate_count, table_length, Check, first_failing}
use Rattle.definition.proofs.SheetLaws.{length_columns, length_predicates, true_or_false, Numbered, fails_first, fails_after}
use Rattle.sheet.specs.Views.{Placed}
use Rattle.sheet.specs.declared.Sections.{Sections}
use Rattle.sheet_check.specs.Views.{number_of, answer_number, table_count}
use Rattle.sheet_check.specs.declared.Fault.{Fault}
use Rattle.sheet_check.specs.declared.Fault.TheVariants.{Truncated, OverLimit, Misplaced, UnknownKind, ReservedNotZero}
use Rattle.sheet_check.specs.declared.Fault.TheVariants.{RangePastTable, SelectivityAboveOne, TooManyLeaves, BrokenWalk}

-- the table of an item
pub table_here : (bs : List ℕ) (s : Sections) → Placed bs s → (x : Item) → table_count s x.kind ≡ table_length (question_of bs) x
table_here bs s p x =
    elim (true_or_false (eqb x.kind leaf)) [
      | inl t ↦ rw (t, table_count, table_length) (p.columns_many ∙ sym (length_columns bs))
      | inr f ↦ rw (f, table_count, table_length) (p.predicates_many ∙ sym (length_predicates bs))
    ]

-- no fault has the number 0
pub positive : (f : Fault) → 0 < number_of f
positive Truncated = omega arith
positive OverLimit = omega arith
positive Misplaced = omega arith
positive UnknownKind = omega arith
positive ReservedNotZero = omega arith
positive RangePastTable = omega arith
positive SelectivityAboveOne = omega arith
positive TooManyLeaves = omega arith
positive BrokenWalk = omega arith

-- what an answer says of the definition's number
module _ {A : Type 0} {v : Result A Fault} {n : ℕ} where
  pub number_fails : (f : Fault) → v ≡ Err f → answer_number v ≡ n → (number_of f ≡ n) × (0 < n)
  number_fails f e h =
      let same : number_of f ≡ n = sym (ap answer_number e) ∙ h in
      (same, omega (arith, positive f))

  pub number_passes : {x : A} → v ≡ Ok x → answer_number v ≡ n → n ≡ 0
  number_passes e h = sym h ∙ ap answer_number e

-- where a `?` hands a fault on, the answer is the fault's number
pub fault_exits : {A : Type 0} (r : Result A Fault) (f : Fault) {n m : ℕ} → IsErrAnd r (λ y. y ≡ f)
    → number_of f ≡ n → (0 < n → n ≡ m) → answer_number r ≡ m
fault_exits r f e h k =
    let exit = err_from_is_err_and r e in
    rw (exit.1, exit.2) (h ∙ k (omega (arith, positive f)))

-- checks of each member of a list: the first member fails, or the rest decide
module _ {A : Type 0} (f : A → List Check) (numbered : (x : A) → Numbered (f x)) {ys zs : List A} {x : A} (e : ys ≡ x ∷ zs) where
  member_fails : 0 < first_failing (f x) → first_failing (concat_map f ys) ≡ first_failing (f x)
  unfolding concat_map
  member_fails p = rw e (fails_first (f x) (concat_map f zs) p)

  pub member_exits : {B : Type 0} (r : Result B Fault) (g : Fault) {m : ℕ} → IsErrAnd r (λ y. y ≡ g) → number_of g ≡ first_failing (f x)
      → first_failing (concat_map f ys) ≡ m → answer_number r ≡ m
  member_exits r g err h all = fault_exits r g err h (λ p. sym (member_fails p) ∙ all)

  pub member_passes : 0 ≡ first_failing (f x) → {m : ℕ} → first_failing (concat_map f ys) ≡ m → first_failing (concat_map f zs) ≡ m
  unfolding concat_map
  member_passes h all = sym (rw e (fails_after (f x) (concat_map f zs) (numbered x) (sym h))) ∙ all

pub none_fails : {A : Type 0} (f : A → List Check) {ys : List A} {m : ℕ} → ys ≡ [] → first_failing (concat_map f ys) ≡ m → 0 ≡ m
unfolding concat_map first_failing
none_fails f e all = sym (rw e) ∙ all

-- a predicate, and those behind it
pub predicates_on : (bs : List ℕ) (n : ℕ) {x : Predicate} → n < predicate_count bs → x ≡ predicate (question_of bs) n
    → drop n (question_of bs).predicates ≡ x ∷ drop (n + 1) (question_of bs).predicates
predicates_on bs n h e = rw (add-one, e) (drop-cons (question_of bs).predicates n _ (omega (arith, length_predicates bs)))

-- an answer is of one kind, and an accepted one has one value
pub never_accepted : {A : Type 0} {v : Result A Fault} {f : Fault} {s t : A} → v ≡ Err f → v ≡ Ok s → s ≡ t
never_accepted e h = let z : ◌≡◌ {A = ℕ} 0 1 = cc in absurd (omega arith)

pub same_sections : {A : Type 0} {v : Result A Fault} {s t u : A} → v ≡ Ok s → v ≡ Ok t → s ≡ u → t ≡ u
same_sections e f h = cc
