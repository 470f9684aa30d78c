-- What each enumeration keeps, visit by visit and pair by pair: an invariant speaks of the candidates and of the memo's sets. Of these: there is
-- room for all; each set is there once; the leaves' sets come first. Assumes nothing.
use Rattle.std.specs.Prelude.{◌≡◌, refl, Bool, true, false, ◌&&◌, ◌||◌, List, [], ◌∷◌, ◌++◌, map, ℕ, suc, ◌+◌, ◌<◌, ◌≤◌, length, eqb, ltb}
use Rattle.std.proofs.Common.{sym, ap, ◌∙◌, arith, length-append, append_assoc, ltb-true}
use Rattle.std.proofs.lemmas.Bool.{false≢true, and_parts}
use Rattle.std.proofs.lemmas.List.{length-map, append-nil}
use Rattle.std.specs.Int.Bits.{bit_or}
use Rattle.nodeset.specs.SubsetLaws.{All}
use Rattle.definition.specs.Lists.{member}
use Rattle.definition.specs.Hypergraph.{Sided, has_edge}
use Rattle.definition.specs.Search.{Leaf, Entry, Input, leaf_entries}
use Rattle.definition.specs.TwoPasses.{Positions, Enumeration, entered, position_of, count_visit, positions, with_entry, list_if_room, list_pair}
use Rattle.definition.specs.TwoPasses.{leaves_entered, enumerate}
use Rattle.definition.proofs.WalkLaws.{either, solve_keeps}
use Rattle.definition.proofs.MemoLaws.{sets_of}
use Rattle.definition.proofs.MemoOrder.{Distinct, distinct_more, leaf-sets, leaves_distinct}

-- what holds where the candidate of a and b is listed behind ts, and l are the memo's sets
pub record ListedFor (i : Input) (ts : List Positions) (l : List ℕ) (a b : ℕ) : Type 0 where
  pub left : member a l ≡ true
  pub right : member b l ≡ true
  pub edge : has_edge i.edges a b ≡ true
  pub plans : length i.leaves + length ts < i.plan_room
  pub sets : (member (bit_or a b) l || ltb (length l) i.memo_room) ≡ true

-- a case of a test, with what the test says there
cases : {A : Type 0} (P : A → Type 0) (b : Bool) {x y : A} → (b ≡ true → P x) → (b ≡ false → P y) → P (elim b [ true ↦ x | false ↦ y ])
cases P true f g = f refl
cases P false f g = g refl

-- ---- an invariant: what the listing of a candidate keeps

module _ (i : Input) (P : List Positions → List ℕ → Type 0)
    (more : (ts : List Positions) (l : List ℕ) (a b : ℕ) → ListedFor i ts l a b → P ts l
    → P (ts ++ (positions l a b ∷ [])) (with_entry l (bit_or a b) (member (bit_or a b) l))) where
  abbrev pub Holds : Enumeration → Type 0
  Holds t = P t.candidates t.sets

  pub visit_holds : (t : Enumeration) → Holds t → Holds (count_visit i t)
  unfolding count_visit
  visit_holds t p = either Holds (eqb t.stop 0) (either Holds (ltb t.visits i.limit) p p) p

  pub pair_holds : (a b : ℕ) (t : Enumeration) → Holds t → Holds (list_pair i a b t)
  unfolding list_pair
  pair_holds a b t p = either Holds (eqb t.stop 0) (cases Holds (entered t a && entered t b && has_edge i.edges a b) due (λ e. p)) p
    where
      due : (entered t a && entered t b && has_edge i.edges a b) ≡ true → Holds (list_if_room i t a b)
      due e =
          let parts = and_parts (entered t a && entered t b) (has_edge i.edges a b) e in
          let both = and_parts (entered t a) (entered t b) parts.0 in
          cases Holds (ltb (length i.leaves + length t.candidates) i.plan_room)
          (λ plans. cases Holds (entered t (bit_or a b) || ltb (length t.sets) i.memo_room)
          (λ sets. more t.candidates t.sets a b
          (record {
            left = both.0;
            right = both.1;
            edge = parts.1;
            plans = ltb-true _ _ plans;
            sets = sets;
          }) p) (λ f. p)) (λ f. p)

  pub enumeration_holds : All Sided i.edges → P [] (sets_of (leaf_entries 0 i.leaves)) → Holds (enumerate i)
  unfolding enumerate leaves_entered
  enumeration_holds sided p =
      solve_keeps i.edges sided Enumeration entered (count_visit i) (list_pair i) Holds visit_holds (λ a b d. pair_holds a b) (length i.leaves)
      (leaves_entered i) p

-- ---- the leaves

pub leaf_entries-length : (k : ℕ) (ls : List Leaf) → length (leaf_entries k ls) ≡ length ls
unfolding leaf_entries
leaf_entries-length k [] = refl
leaf_entries-length k (x ∷ ls) = ap suc (leaf_entries-length (suc k) ls)

pub leaf_sets-length : (ls : List Leaf) → length (sets_of (leaf_entries 0 ls)) ≡ length ls
leaf_sets-length ls = length-map (leaf_entries 0 ls) (λ (e : Entry). e.set) ∙ leaf_entries-length 0 ls

pub leaf_plans_kept-length : (ls : List Leaf) → length (map (λ (e : Entry). e.plan) (leaf_entries 0 ls)) ≡ length ls
leaf_plans_kept-length ls = length-map (leaf_entries 0 ls) (λ (e : Entry). e.plan) ∙ leaf_entries-length 0 ls

-- ---- room

-- the leaves and the candidates fit the plan store, and the sets the memo
pub record Fits (i : Input) (ts : List Positions) (l : List ℕ) : Type 0 where
  pub plans : length i.leaves + length ts ≤ i.plan_room
  pub sets : length l ≤ i.memo_room

module _ (i : Input) where
  pub fits_more : (ts : List Positions) (l : List ℕ) (a b : ℕ) → ListedFor i ts l a b → Fits i ts l
      → Fits i (ts ++ (positions l a b ∷ [])) (with_entry l (bit_or a b) (member (bit_or a b) l))
  fits_more ts l a b for f = record {
    plans = omega (arith, for.plans, length-append ts (positions l a b ∷ []));
    sets = go (member (bit_or a b) l) for.sets;
  }
    where
      go : (known : Bool) → (known || ltb (length l) i.memo_room) ≡ true → length (with_entry l (bit_or a b) known) ≤ i.memo_room
      go true e = f.sets
      go false e = omega (arith, ltb-true (length l) i.memo_room e, length-append l (bit_or a b ∷ []))

  pub enumerate_fits : All Sided i.edges → length i.leaves ≤ i.plan_room → length i.leaves ≤ i.memo_room
      → Fits i (enumerate i).candidates (enumerate i).sets
  enumerate_fits sided plans sets =
      enumeration_holds i (Fits i) fits_more sided (record { plans = omega arith; sets = omega (arith, leaf_sets-length i.leaves) })

-- ---- positions

-- a set that has no entry gets the next position
pub position_new : (l : List ℕ) (s : ℕ) → member s l ≡ false → position_of l s ≡ length l
unfolding member position_of
position_new [] s e = refl
position_new (x ∷ l) s e = go (eqb x s) e (position_new l s)
  where
    go : (b : Bool) → (b || member s l) ≡ false → (member s l ≡ false → position_of l s ≡ length l)
        → ◌≡◌ {A = ℕ} (elim b [ true ↦ 0 | false ↦ suc (position_of l s) ]) (suc (length l))
    go true e r = absurd (false≢true (sym e))
    go false e r = ap suc (r e)

-- ---- each set once

pub distinct_with_entry : (l : List ℕ) (s : ℕ) → Distinct l → Distinct (with_entry l s (member s l))
distinct_with_entry l s d = cases Distinct (member s l) (λ e. d) (λ e. distinct_more l s d e)

pub leaves_entered_once : (ls : List Leaf) → length ls ≤ 64 → Distinct (sets_of (leaf_entries 0 ls))
leaves_entered_once ls few = rw (leaf-sets ls) (leaves_distinct (length ls) few)

pub enumerate_distinct : (i : Input) → All Sided i.edges → length i.leaves ≤ 64 → Distinct (enumerate i).sets
enumerate_distinct i sided few =
    enumeration_holds i (λ ts l. Distinct l) (λ ts l a b for d. distinct_with_entry l (bit_or a b) d) sided (leaves_entered_once i.leaves few)

-- ---- the leaves' sets first

-- xs, and others behind it
pub record Extends (xs l : List ℕ) : Type 0 where
  pub rest : List ℕ
  pub same : l ≡ xs ++ rest

pub extends_more : (xs l : List ℕ) (s : ℕ) (known : Bool) → Extends xs l → Extends xs (with_entry l s known)
extends_more xs l s true x = x
extends_more xs l s false x =
    record { rest = x.rest ++ (s ∷ []); same = ap (λ (z : List ℕ). z ++ (s ∷ [])) x.same ∙ append_assoc xs x.rest (s ∷ []) }

module _ (i : Input) (sided : All Sided i.edges) where
  pub leaves_first : Extends (sets_of (leaf_entries 0 i.leaves)) (enumerate i).sets
  leaves_first =
      enumeration_holds i (λ ts l. Extends (sets_of (leaf_entries 0 i.leaves)) l) (λ ts l a b for x. extends_more _ l (bit_or a b) _ x) sided
      (record { rest = []; same = sym (append-nil (sets_of (leaf_entries 0 i.leaves))) })

  -- so no fewer sets than leaves, and leaf n's at position n
  pub leaves_among : length i.leaves ≤ length (enumerate i).sets
  leaves_among =
      omega
      (arith, ap length leaves_first.same, length-append (sets_of (leaf_entries 0 i.leaves)) leaves_first.rest, leaf_sets-length i.leaves)
