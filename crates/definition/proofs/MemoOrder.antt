-- Where the memo's entries stand: each set once, in order of first entry, the leaves first. Assumes nothing.
use Rattle.std.specs.Prelude.{◌≡◌, refl, Bool, true, false, ◌||◌, List, [], ◌∷◌, ◌++◌, map, ℕ, zero, suc, ◌+◌, ◌≤◌, ◌<◌, length, get_or, eqb}
use Rattle.std.proofs.Common.{sym, ap, ap₂, ◌∙◌, subst, inl, inr, le_refl, le_trans, not-suc-le-zero, le_of_suc-le-suc, lt_irrefl, eq-or-lt_of_le, arith, length-append, get_or-drop, eqb-true, eq-eqb, ne_eqb}
use Rattle.std.proofs.lemmas.Bool.{false≢true, eqb-false}
use Rattle.std.proofs.Math.Option.{some}
use Rattle.std.proofs.Math.Nat.{le-suc}
use Rattle.std.proofs.lemmas.List.{length-map}
use Rattle.std.proofs.Math.ListN.{get_or-append, get_or-map}
use Rattle.std.proofs.Math.Seq.{get_or-append_seam}
use Rattle.nodeset.specs.Sets.{singleton}
use Rattle.definition.specs.Lists.{tabulate, member}
use Rattle.definition.proofs.ListLaws.{length-tabulate, tabulate_same, tabulate-at}
use Rattle.definition.specs.Search.{Leaf, Entry, Pair, find, leaf_entries}
use Rattle.definition.specs.Kept.{pair_of, union}
use Rattle.definition.proofs.MemoLaws.{sets_of, some_inj, none≢some, found_first, passed_over_lem}
use Rattle.definition.specs.PlanRule.{entry_of, first_sets}
use Rattle.definition.proofs.KeptLaws.{singleton_inj}

-- ---- one set more

pub first_more : (seen ss : List ℕ) (s : ℕ)
    → first_sets seen (ss ++ (s ∷ [])) ≡ elim (member s (first_sets seen ss)) [ true ↦ first_sets seen ss | false ↦ first_sets seen ss ++ (s ∷ []) ]
unfolding first_sets
first_more seen [] s = refl
first_more seen (x ∷ ss) s = go (member x seen) (first_more seen ss s) (first_more (seen ++ (x ∷ [])) ss s)
  where
    more : List ℕ → List ℕ
    more l = elim (member s l) [ true ↦ l | false ↦ l ++ (s ∷ []) ]

    go : (b : Bool) → first_sets seen (ss ++ (s ∷ [])) ≡ more (first_sets seen ss) → first_sets (seen ++ (x ∷ [])) (ss ++ (s ∷ [])) ≡ more (first_sets (seen ++ (x ∷ [])) ss)
        → elim b [ true ↦ first_sets seen (ss ++ (s ∷ [])) | false ↦ first_sets (seen ++ (x ∷ [])) (ss ++ (s ∷ [])) ]
        ≡ more (elim b [ true ↦ first_sets seen ss | false ↦ first_sets (seen ++ (x ∷ [])) ss ])
    go true p q = p
    go false p q = q

-- ---- each set once

abbrev pub Distinct : List ℕ → Type 0
Distinct [] = Unit {0}
Distinct (s ∷ ss) = (member s ss ≡ false) × Distinct ss

member_more : (x : ℕ) (l : List ℕ) (s : ℕ) → member x l ≡ false → (s ≡ x → ⊥) → member x (l ++ (s ∷ [])) ≡ false
unfolding member
member_more x [] s e h = ap (λ (b : Bool). b || false) (ne_eqb s x h)
member_more x (y ∷ l) s e h = go (eqb y x) e (λ f. member_more x l s f h)
  where
    go : (b : Bool) → (b || member x l) ≡ false → (member x l ≡ false → member x (l ++ (s ∷ [])) ≡ false) → (b || member x (l ++ (s ∷ []))) ≡ false
    go true e r = e
    go false e r = r e

member-not : (s x : ℕ) (l : List ℕ) → member s (x ∷ l) ≡ false → (x ≡ s → ⊥) × (member s l ≡ false)
unfolding member
member-not s x l h = go (eqb x s) refl h
  where
    go : (b : Bool) → eqb x s ≡ b → (b || member s l) ≡ false → (x ≡ s → ⊥) × (member s l ≡ false)
    go true e h = absurd (false≢true (sym h))
    go false e h = (eqb-false x s e, h)

pub distinct_more : (l : List ℕ) (s : ℕ) → Distinct l → member s l ≡ false → Distinct (l ++ (s ∷ []))
unfolding member
distinct_more [] s d h = (refl, tt)
distinct_more (x ∷ l) s d h =
    let g = member-not s x l h in
    (member_more x l s d.0 (λ e. g.0 (sym e)), distinct_more l s d.1 g.1)

distinct_first : (seen ss : List ℕ) → Distinct seen → Distinct (first_sets seen ss)
unfolding first_sets
distinct_first seen [] d = d
distinct_first seen (s ∷ ss) d = go (member s seen) refl (distinct_first seen ss) (distinct_first (seen ++ (s ∷ [])) ss)
  where
    go : (b : Bool) → member s seen ≡ b → (Distinct seen → Distinct (first_sets seen ss)) → (Distinct (seen ++ (s ∷ [])) → Distinct (first_sets (seen ++ (s ∷ [])) ss))
        → Distinct (elim b [ true ↦ first_sets seen ss | false ↦ first_sets (seen ++ (s ∷ [])) ss ])
    go true e p q = p d
    go false e p q = q (distinct_more seen s d e)

-- ---- where the entries stand

member-at : (l : List ℕ) (x d : ℕ) → x < length l → member (get_or l x d) l ≡ true
unfolding member
member-at [] x d h = absurd (not-suc-le-zero h)
member-at (y ∷ l) zero d h = ap (λ (b : Bool). b || member y l) (eq-eqb y y refl)
member-at (y ∷ l) (suc x) d h = go (eqb y (get_or l x d)) (member-at l x d (le_of_suc-le-suc h))
  where
    go : (b : Bool) → member (get_or l x d) l ≡ true → (b || member (get_or l x d) l) ≡ true
    go true e = refl
    go false e = e

set_at : (m : List Entry) (x : ℕ) → get_or (sets_of m) x 0 ≡ (entry_of m x).set
set_at [] x = refl
set_at (e ∷ m) zero = refl
set_at (e ∷ m) (suc x) = set_at m x

entry-member : (m : List Entry) (x : ℕ) → x < length m → member (entry_of m x).set (sets_of m) ≡ true
entry-member m x h = rw (← set_at m x) (member-at (sets_of m) x 0 (omega (arith, length-map m (λ (e : Entry). e.set))))

-- an entry of a set differs from those behind it
differs : (e : Entry) (m : List Entry) (x : ℕ) → x < length m → member e.set (sets_of m) ≡ false → e.set ≡ (entry_of m x).set → ⊥
differs e m x h d q = false≢true (sym d ∙ ap (λ (s : ℕ). member s (sets_of m)) q ∙ entry-member m x h)

distinct_at : (l : List ℕ) → Distinct l → (x y : ℕ) → x < y → y < length l → get_or l x 0 ≡ get_or l y 0 → ⊥
distinct_at [] d x y l h e = not-suc-le-zero h
distinct_at (z ∷ l) d zero zero g h e = lt_irrefl 0 g
distinct_at (z ∷ l) d (suc x) zero g h e = not-suc-le-zero g
distinct_at (z ∷ l) d zero (suc y) g h e = false≢true (sym d.0 ∙ ap (λ (s : ℕ). member s l) e ∙ member-at l y 0 (le_of_suc-le-suc h))
distinct_at (z ∷ l) d (suc x) (suc y) g h e = distinct_at l d.1 x y (le_of_suc-le-suc g) (le_of_suc-le-suc h) e

pub entries_once : (m : List Entry) → Distinct (sets_of m) → (x y : ℕ) → x < y → y < length m → (entry_of m x).set ≡ (entry_of m y).set → ⊥
entries_once m d x y l h e =
    distinct_at (sets_of m) d x y l (omega (arith, length-map m (λ (e : Entry). e.set))) (set_at m x ∙ e ∙ sym (set_at m y))

pub find_at : (m : List Entry) → Distinct (sets_of m) → (x : ℕ) → x < length m → find m (entry_of m x).set ≡ some (entry_of m x).plan
unfolding find
find_at [] d x h = absurd (not-suc-le-zero h)
find_at (e ∷ m) d zero h = found_first e.set e.plan (find m e.set)
find_at (e ∷ m) d (suc x) h =
    passed_over_lem e.set (entry_of m x).set e.plan _ (differs e m x (le_of_suc-le-suc h) d.0) ∙ find_at m d.1 x (le_of_suc-le-suc h)

pub find_position : (m : List Entry) (s p : ℕ) → find m s ≡ some p → (x : ℕ) × (x < length m) × ((entry_of m x).set ≡ s) × ((entry_of m x).plan ≡ p)
unfolding find
find_position [] s p h = absurd (none≢some h)
find_position (e ∷ m) s p h = go (eqb e.set s) refl h (find_position m s p)
  where
    go : (b : Bool) → eqb e.set s ≡ b → elim b [ true ↦ some e.plan | false ↦ find m s ] ≡ some p
        → (find m s ≡ some p → (x : ℕ) × (x < length m) × ((entry_of m x).set ≡ s) × ((entry_of m x).plan ≡ p))
        → (x : ℕ) × (x < length (e ∷ m)) × ((entry_of (e ∷ m) x).set ≡ s) × ((entry_of (e ∷ m) x).plan ≡ p)
    go true d h r = (0, omega arith, eqb-true e.set s d, some_inj h)
    go false d h r = let f = r h in (suc f.0, omega (arith, f.1), f.2, f.3)

-- ---- the leaves' sets

tabulate_first : {A : Type 0} (n : ℕ) (f : ℕ → A) → tabulate (suc n) f ≡ f 0 ∷ tabulate n (λ j. f (suc j))
unfolding tabulate
tabulate_first zero f = refl
tabulate_first (suc n) f = ap (λ (l : List _). l ++ (f (suc n) ∷ [])) (tabulate_first n f)

leaf-sets-from : (k : ℕ) (ls : List Leaf) → sets_of (leaf_entries k ls) ≡ tabulate (length ls) (λ j. singleton (k + j))
unfolding leaf_entries tabulate
leaf-sets-from k [] = refl
leaf-sets-from k (l ∷ ls) =
    let z : k ≡ k + 0 = omega arith in
    ap₂ (λ (s : ℕ) (t : List ℕ). s ∷ t) (ap singleton z)
    (leaf-sets-from (suc k) ls ∙ tabulate_same (length ls) (λ j. singleton (suc k + j)) (λ j. singleton (k + suc j)) (λ j h. ap singleton (omega arith)))
    ∙ sym (tabulate_first (length ls) (λ j. singleton (k + j)))

pub leaf-sets : (ls : List Leaf) → sets_of (leaf_entries 0 ls) ≡ tabulate (length ls) singleton
leaf-sets ls = leaf-sets-from 0 ls ∙ tabulate_same (length ls) (λ j. singleton (0 + j)) singleton (λ j h. ap singleton (omega arith))

leaf_new : (n : ℕ) (s : ℕ) → ((j : ℕ) → j < n → singleton j ≡ s → ⊥) → member s (tabulate n singleton) ≡ false
unfolding tabulate member
leaf_new zero s h = refl
leaf_new (suc n) s h = member_more s (tabulate n singleton) (singleton n) (leaf_new n s (λ j l. h j (le_trans l (le-suc n)))) (h n (le_refl (suc n)))

pub leaves_distinct : (n : ℕ) → n ≤ 64 → Distinct (tabulate n singleton)
unfolding tabulate
leaves_distinct zero h = tt
leaves_distinct (suc n) h =
    distinct_more (tabulate n singleton) (singleton n) (leaves_distinct n (omega arith))
    (leaf_new n (singleton n) (λ j l e. lt_irrefl n (subst (λ (x : ℕ). x < n) (singleton_inj j n (omega arith) (omega arith) e) l)))

-- ---- the leaves come first

tabulate_get : {A : Type 0} (n : ℕ) (f : ℕ → A) (j : ℕ) (d : A) → j < n → get_or (tabulate n f) j d ≡ f j
tabulate_get n f j d h =
    let z : j ≡ j + 0 = omega arith in
    ap (λ (k : ℕ). get_or (tabulate n f) k d) z ∙ sym (get_or-drop j (tabulate n f) 0 d) ∙ ap (λ (l : List _). get_or l 0 d) (tabulate-at n f j h)

-- l has at x what seen has there
abbrev SameAt : ℕ → List ℕ → List ℕ → Type 0
SameAt x seen l = (x < length l) × (get_or l x 0 ≡ get_or seen x 0)

first_keeps : (seen ss : List ℕ) (x : ℕ) → x < length seen → SameAt x seen (first_sets seen ss)
unfolding first_sets
first_keeps seen [] x h = (h, refl)
first_keeps seen (s ∷ ss) x h = go (member s seen) (first_keeps seen ss x h) (first_keeps (seen ++ (s ∷ [])) ss x (omega (arith, length-append seen (s ∷ []))))
  where
    go : (b : Bool) → SameAt x seen (first_sets seen ss) → SameAt x (seen ++ (s ∷ [])) (first_sets (seen ++ (s ∷ [])) ss)
        → SameAt x seen (elim b [ true ↦ first_sets seen ss | false ↦ first_sets (seen ++ (s ∷ [])) ss ])
    go true p q = p
    go false p q = (q.0, q.1 ∙ get_or-append seen (s ∷ []) 0 x h)

pub leaf_first : (n : ℕ) (ss : List ℕ) (m : List Entry) → sets_of m ≡ first_sets (tabulate n singleton) ss → (p : ℕ) → p < n
    → (p < length m) × ((entry_of m p).set ≡ singleton p)
leaf_first n ss m e p h =
    let k = first_keeps (tabulate n singleton) ss p (omega (arith, length-tabulate n singleton)) in
    let l : length m ≡ length (first_sets (tabulate n singleton) ss) = sym (length-map m (λ (e : Entry). e.set)) ∙ ap length e in
    (omega (arith, k.0), sym (set_at m p) ∙ ap (λ (t : List ℕ). get_or t p 0) e ∙ k.1 ∙ tabulate_get n singleton p 0 h)

-- the memo's sets are distinct where they are in order of first entry
pub order_distinct : (n : ℕ) (ss : List ℕ) → n ≤ 64 → Distinct (first_sets (tabulate n singleton) ss)
order_distinct n ss h = distinct_first (tabulate n singleton) ss (leaves_distinct n h)

-- ---- the first candidate of an earlier entry's set comes before all of a later entry's

member_position : (s : ℕ) (l : List ℕ) → member s l ≡ true → (x : ℕ) × (x < length l) × (get_or l x 0 ≡ s)
unfolding member
member_position s [] h = absurd (false≢true h)
member_position s (y ∷ l) h = go (eqb y s) refl h (member_position s l)
  where
    go : (b : Bool) → eqb y s ≡ b → (b || member s l) ≡ true → (member s l ≡ true → (x : ℕ) × (x < length l) × (get_or l x 0 ≡ s))
        → (x : ℕ) × (x < length (y ∷ l)) × (get_or (y ∷ l) x 0 ≡ s)
    go true e h r = (0, omega arith, eqb-true y s e)
    go false e h r = let f = r h in (suc f.0, omega (arith, f.1), f.2)

-- ss has what l has at x, before j
abbrev Before : List ℕ → ℕ → ℕ → List ℕ → Type 0
Before ss j x l = (k : ℕ) × (k < j) × (get_or ss k 0 ≡ get_or l x 0)

first_before : (seen ss : List ℕ) → Distinct seen → (x y j : ℕ) → length seen ≤ x → x < y → y < length (first_sets seen ss) → j < length ss
    → get_or ss j 0 ≡ get_or (first_sets seen ss) y 0 → Before ss j x (first_sets seen ss)
unfolding first_sets
first_before seen [] d x y j g l h b e = absurd (not-suc-le-zero b)
first_before seen (s ∷ ss) d x y j g l h b e = go (member s seen) refl j b h e (λ k. first_before seen ss d x y k g l) (λ d' k g'. first_before (seen ++ (s ∷ [])) ss d' x y k g' l)
  where
    later : (j : ℕ) (t : List ℕ) → Before ss j x t → Before (s ∷ ss) (suc j) x t
    later j t f = (suc f.0, omega (arith, f.1), f.2)

    -- s stands at the end of those seen
    last : SameAt (length seen) (seen ++ (s ∷ [])) (first_sets (seen ++ (s ∷ [])) ss)
    last = first_keeps (seen ++ (s ∷ [])) ss (length seen) (omega (arith, length-append seen (s ∷ [])))

    last_is : get_or (first_sets (seen ++ (s ∷ [])) ss) (length seen) 0 ≡ s
    last_is = last.1 ∙ get_or-append_seam seen s [] 0

    go : (c : Bool) → member s seen ≡ c → (j : ℕ) → j < length (s ∷ ss)
        → y < length {A = ℕ} (elim c [ true ↦ first_sets seen ss | false ↦ first_sets (seen ++ (s ∷ [])) ss ])
        → get_or (s ∷ ss) j 0 ≡ get_or {A = ℕ} (elim c [ true ↦ first_sets seen ss | false ↦ first_sets (seen ++ (s ∷ [])) ss ]) y 0
        → ((k : ℕ) → y < length (first_sets seen ss) → k < length ss → get_or ss k 0 ≡ get_or (first_sets seen ss) y 0 → Before ss k x (first_sets seen ss))
        → (Distinct (seen ++ (s ∷ [])) → (k : ℕ) → length (seen ++ (s ∷ [])) ≤ x → y < length (first_sets (seen ++ (s ∷ [])) ss) → k < length ss
        → get_or ss k 0 ≡ get_or (first_sets (seen ++ (s ∷ [])) ss) y 0 → Before ss k x (first_sets (seen ++ (s ∷ [])) ss))
        → Before (s ∷ ss) j x (elim c [ true ↦ first_sets seen ss | false ↦ first_sets (seen ++ (s ∷ [])) ss ])
    go true f zero b h e r q =
        let z = member_position s seen f in
        absurd (distinct_at (first_sets seen ss) (distinct_first seen ss d) z.0 y (omega (arith, z.1)) h ((first_keeps seen ss z.0 z.1).1 ∙ z.2 ∙ e))
    go true f (suc j) b h e r q = later j (first_sets seen ss) (r j h (le_of_suc-le-suc b) e)
    go false f zero b h e r q =
        absurd (distinct_at (first_sets (seen ++ (s ∷ [])) ss) (distinct_first (seen ++ (s ∷ [])) ss (distinct_more seen s d f)) (length seen) y (omega arith) h (last_is ∙ e))
    go false f (suc j) b h e r q = elim (eq-or-lt_of_le g) [
      | inl i ↦ (0, omega arith, sym last_is ∙ ap (λ (k : ℕ). get_or (first_sets (seen ++ (s ∷ [])) ss) k 0) i)
      | inr i ↦ later j (first_sets (seen ++ (s ∷ [])) ss) (q (distinct_more seen s d f) j (omega (arith, length-append seen (s ∷ []))) h (le_of_suc-le-suc b) e)
    ]

-- of two entries behind the leaves', the earlier's set has a candidate before each one of the later's
pub entered_in_order : (n : ℕ) (ts : List Pair) (m : List Entry) → n ≤ 64 → sets_of m ≡ first_sets (tabulate n singleton) (map union ts)
    → (x y j : ℕ) → n ≤ x → x < y → y < length m → j < length ts → union (pair_of ts j) ≡ (entry_of m y).set
    → (k : ℕ) × (k < j) × (union (pair_of ts k) ≡ (entry_of m x).set)
entered_in_order n ts m small e x y j g l h b f =
    let size : length m ≡ length (first_sets (tabulate n singleton) (map union ts)) = sym (length-map m (λ (e : Entry). e.set)) ∙ ap length e in
    let at : (z : ℕ) → (entry_of m z).set ≡ get_or (first_sets (tabulate n singleton) (map union ts)) z 0 = λ z. sym (set_at m z) ∙ ap (λ (t : List ℕ). get_or t z 0) e in
    let of : (z : ℕ) → get_or (map union ts) z 0 ≡ union (pair_of ts z) = λ z. get_or-map union ts z (record { left = 0; right = 0 }) in
    let r =
    first_before (tabulate n singleton) (map union ts) (leaves_distinct n small) x y j (omega (arith, length-tabulate n singleton)) l (omega (arith, size)) (omega (arith, length-map ts union))
    (of j ∙ f ∙ at y) in
    (r.0, r.1, sym (of r.0) ∙ r.2 ∙ sym (at x))
