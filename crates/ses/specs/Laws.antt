-- Laws of what the loops leave to do. Assumes nothing.
use Rattle.std.specs.Prelude.{◌≡◌, refl, Bool, ◌&&◌, ◌||◌, ℕ, zero, suc, ◌+◌, ◌-◌, ◌^◌, ◌<◌, ◌≤◌, length, get_or, take, eqb}
use Rattle.std.proofs.Math.Path.{sym, ap, subst}
use Rattle.std.proofs.Common.{ap₂, ◌∙◌, inl, inr, add-one, drop-cons, drop_of_length-le, length-take-le, get_or-take, eq-eqb, ne_eqb, eqb-true}
use mathlib.Core.List.{List, [], ◌∷◌, ◌++◌, map}
use Rattle.std.proofs.Math.Bool.{true, false}
use native.Mathlib.Omega.{arith}
use Rattle.std.proofs.Math.ListN.{drop, get_or-map}
use Rattle.std.proofs.lemmas.List.{length-map}
use Rattle.std.proofs.Math.Pow.{pow-lt}
use Rattle.std.specs.Int.Bits.{bit_and, bit_or}
use Rattle.std.proofs.lemmas.Bool.{eqb-false}
use Rattle.std.specs.List.{list_any, range_with_len}
use Rattle.nodeset.specs.Sets.{bit, singleton, disjoint}
use Rattle.nodeset.specs.SetLaws.{Apart, bit-lt, bit-and, bit_one, bit_one_cases, bit_empty, singleton_is, apart_disjoint}
use Rattle.definition.specs.Lists.{member, concat_map}
use Rattle.definition.specs.Question.{Range, Predicate, part, predicate, open_question}
use Rattle.definition.specs.Sheet.{question_of}
use Rattle.definition.specs.Edges.{holder, holders, side_set}
use Rattle.sheet.specs.declared.Range as range
use Rattle.ses.specs.View.{columns_at, leaves_of, leaf_range, Fit, Fits, columns_of}

-- ---- the part of a list that is left from place i of a range on

abbrev pub rest : {A : Type 0} → ℕ → ℕ → List A → ℕ → List A
rest first count xs i = take (count - i) (drop (first + i) xs)

pub rest-start : {A : Type 0} (first count : ℕ) (xs : List A) → rest first count xs 0 ≡ part (record { first = first; count = count }) xs
rest-start {A} first count xs =
    let m : count - 0 ≡ count = omega arith in
    let n : first + 0 ≡ first = omega arith in
    ap₂ (λ (k j : ℕ). take k (drop j xs)) m n

pub rest_end : {A : Type 0} (first count : ℕ) (xs : List A) (i : ℕ) → count ≤ i → rest first count xs i ≡ []
rest_end first count xs i h = let z : count - i ≡ 0 = omega arith in ap (λ (k : ℕ). take k (drop (first + i) xs)) z

pub rest_step : {A : Type 0} (first count : ℕ) (xs : List A) (i : ℕ) (d : A) → i < count → first + count ≤ length xs
    → rest first count xs i ≡ get_or xs (first + i) d ∷ rest first count xs (i + 1)
rest_step {A} first count xs i d h k =
    let m : count - i ≡ suc (count - (i + 1)) = omega arith in
    let n : suc (first + i) ≡ first + (i + 1) = omega arith in
    ap₂ (λ (k : ℕ) (l : List A). take k l) m (drop-cons xs (first + i) d (omega arith))
    ∙ ap (λ (k : ℕ). get_or xs (first + i) d ∷ take (count - (i + 1)) (drop k xs)) n

-- ---- a column among others

-- whether c is one of the n columns that are left from place i of a range on
pub member_any : (c first count : ℕ) (xs : List ℕ) → first + count ≤ length xs → (n i : ℕ) → i + n ≡ count
    → list_any (λ k. eqb (get_or xs (first + k) 0) c) (range_with_len i n) ≡ member c (rest first count xs i)
unfolding member
member_any c first count xs h zero i e = rw (rest_end first count xs i (omega arith)) refl
member_any c first count xs h (suc n) i e =
    rw (rest_step first count xs i 0 (omega arith) h)
    (ap (λ b. eqb (get_or xs (first + i) 0) c || b) (member_any c first count xs h n (i + 1) (omega arith)))

-- ---- the leaves of a side

pub fits_fewer : (sheet : List ℕ) (leaves : List range.Range) (m : ℕ) → m ≤ length leaves → Fits sheet leaves → Fits sheet (take m leaves)
fits_fewer sheet leaves m h f =
    let few = length-take-le m leaves h in
    record {
      few = omega (arith, f.few, few);
      inside = λ k l.
          let below : k < m = omega (arith, few) in
          subst (λ (r : range.Range). Fit sheet r.first r.count)
          (sym (get_or-take m leaves k (record { first = 0; count = 0 }) below)) (f.inside k (omega arith));
    }

in_side : (s k : ℕ) → k < 64 → (disjoint (singleton k) s ≡ false) → bit s k ≡ 1
in_side s k h e = go (bit s k) refl
  where
    go : (b : ℕ) → bit s k ≡ b → bit s k ≡ 1
    go zero q =
        absurd (eqb-false _ _ e (ap (λ (x : ℕ). bit_and x s) (singleton_is k h) ∙ apart_disjoint (2 ^ k) s (pow-lt h) apart))
      where
        apart : Apart (2 ^ k) s
        apart i = elim (bit_one_cases k i) [ inl z ↦ omega arith | inr z ↦ omega (arith, ap (bit s) z) ]
    go (suc b) q = omega (arith, bit-lt s k)

out_of_side : (s k : ℕ) → k < 64 → (disjoint (singleton k) s ≡ true) → bit s k ≡ 0
out_of_side s k h e =
    let z : bit_and (2 ^ k) s ≡ 0 = ap (λ (x : ℕ). bit_and x s) (sym (singleton_is k h)) ∙ eqb-true _ _ e in
    omega (arith, bit_one k, bit-lt s k, sym (bit-and (2 ^ k) s k) ∙ ap (λ (x : ℕ). bit x k) z ∙ bit_empty k)

pub not_held : (s k : ℕ) (m : Bool) → k < 64 → disjoint (singleton k) s ≡ true → false ≡ (eqb (bit s k) 1 && m)
not_held s k m h e = rw (out_of_side s k h e)

pub held_by : (s k : ℕ) {m : Bool} → k < 64 → disjoint (singleton k) s ≡ false → m ≡ (eqb (bit s k) 1 && m)
held_by s k h e = rw (in_side s k h e)

-- ---- a leaf's columns, by its range

module _ (sheet : List ℕ) (leaves : List range.Range) where
  pub length_leaves : length (leaves_of sheet leaves) ≡ length leaves
  length_leaves = length-map leaves (λ (r : range.Range). columns_at sheet r.first r.count)

  pub leaf_columns : (k : ℕ) → k < length leaves
      → get_or (leaves_of sheet leaves) k [] ≡ columns_at sheet (leaf_range leaves k).first (leaf_range leaves k).count
  leaf_columns k h = get_or-map (λ (r : range.Range). columns_at sheet r.first r.count) leaves k (record { first = 0; count = 0 })

-- ---- the lowest leaf with a column, from leaf k on

module _ (ls : List (List ℕ)) (s c k : ℕ) where
  abbrev from_k : List (List ℕ)
  from_k = drop k ls

  abbrev held_here : Bool
  held_here = eqb (bit s k) 1 && member c (get_or ls k [])

  next : k < length ls → holder k from_k s c ≡ elim held_here [ true ↦ singleton k | false ↦ holder (k + 1) (drop (k + 1) ls) s c ]
  unfolding holder
  next h =
      ap (λ (l : List (List ℕ)). holder k l s c) (drop-cons ls k [] h)
      ∙ ap (λ (j : ℕ). elim held_here [ true ↦ singleton k | false ↦ holder j (drop j ls) s c ]) (sym (add-one k))

  pub holder_hit : k < length ls → true ≡ held_here → singleton k ≡ holder k from_k s c
  holder_hit h m = sym (next h ∙ rw (sym m))

  pub holder_miss : k < length ls → false ≡ held_here → holder (k + 1) (drop (k + 1) ls) s c ≡ holder k from_k s c
  holder_miss h m = sym (next h ∙ rw (sym m))

  pub holder_none : length ls ≤ k → 0 ≡ holder k from_k s c
  unfolding holder
  holder_none h = sym (ap (λ (l : List (List ℕ)). holder k l s c) (drop_of_length-le ls h))

-- the same of a leaf's range
pub leaf_held : (sheet : List ℕ) (leaves : List range.Range) (s c k : ℕ) → k < length leaves
    → (eqb (bit s k) 1 && member c (columns_at sheet (leaf_range leaves k).first (leaf_range leaves k).count)) ≡ held_here (leaves_of sheet leaves) s c k
leaf_held sheet leaves s c k h = ap (λ (cs : List ℕ). eqb (bit s k) 1 && member c cs) (sym (leaf_columns sheet leaves k h))

-- ---- columns one by one, predicates one by one

pub holders_step : (ls : List (List ℕ)) (s c : ℕ) (cs : List ℕ) (t : ℕ) → holders ls s cs (bit_or t (holder 0 ls s c)) ≡ holders ls s (c ∷ cs) t
unfolding holders
holders_step ls s c cs t = refl

pub holders_done : (ls : List (List ℕ)) (s : ℕ) (cs : List ℕ) (t : ℕ) → cs ≡ [] → t ≡ holders ls s cs t
unfolding holders
holders_done ls s cs t e = sym (ap (λ (l : List ℕ). holders ls s l t) e)

pub holders-append : (ls : List (List ℕ)) (s : ℕ) (xs ys : List ℕ) (t : ℕ) → holders ls s ys (holders ls s xs t) ≡ holders ls s (xs ++ ys) t
unfolding holders
holders-append ls s [] ys t = refl
holders-append ls s (x ∷ xs) ys t = holders-append ls s xs ys (bit_or t (holder 0 ls s x))

-- the columns of the predicates from place i of the range on
abbrev pub columns_from : List ℕ → ℕ → ℕ → ℕ → List ℕ
columns_from sheet first count i =
    let q = open_question (question_of sheet) in
    concat_map (λ (p : Range). part p q.columns) (rest first count q.predicates i)

pub columns_start : (sheet : List ℕ) (first count : ℕ) → columns_from sheet first count 0 ≡ columns_of sheet (record { first = first; count = count })
columns_start sheet first count =
    ap (concat_map (λ (p : Range). part p (question_of sheet).columns)) (rest-start first count (open_question (question_of sheet)).predicates)

pub columns_step : (sheet : List ℕ) (first count i : ℕ) → i < count → first + count ≤ length (question_of sheet).predicates
    → columns_from sheet first count i
    ≡ part (predicate (question_of sheet) (first + i)).range (question_of sheet).columns ++ columns_from sheet first count (i + 1)
unfolding concat_map
columns_step sheet first count i h k =
    let q = question_of sheet in
    let ranges = map (λ (p : Predicate). p.range) q.predicates in
    let none : Range = record { first = 0; count = 0 } in
    ap (concat_map (λ (p : Range). part p q.columns))
    (rest_step first count ranges i none h (omega (arith, length-map q.predicates (λ (p : Predicate). p.range))))
    ∙ ap (λ (r : Range). part r q.columns ++ columns_from sheet first count (i + 1))
    (get_or-map (λ (p : Predicate). p.range) q.predicates (first + i) (record { selectivity = 0; range = none }))

pub columns_end : (sheet : List ℕ) (first count i : ℕ) → count ≤ i → columns_from sheet first count i ≡ []
unfolding concat_map
columns_end sheet first count i h =
    ap (concat_map (λ (p : Range). part p (question_of sheet).columns)) (rest_end first count (open_question (question_of sheet)).predicates i h)

-- ---- the whole side where no leaf is named

module _ (ls : List (List ℕ)) (s : ℕ) (cs : List ℕ) (u : ℕ) (e : u ≡ holders ls s cs 0) where
  pub side_whole : u ≡ 0 → s ≡ side_set ls s cs
  unfolding side_set
  side_whole z = rw (eq-eqb _ _ (sym e ∙ z), side_set)

  pub side_named : (u ≡ 0 → ⊥) → u ≡ side_set ls s cs
  unfolding side_set
  side_named z = rw (ne_eqb _ _ (λ q. z (e ∙ q)), side_set) e
