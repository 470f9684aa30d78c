-- What the memo finds after a change, and what its sets are. Assumes nothing.
use Rattle.std.specs.Prelude.{◌≡◌, refl, Bool, true, false, ◌||◌, List, [], ◌∷◌, ◌++◌, map, ℕ, zero, suc, ◌+◌, ◌<◌, length, eqb}
use Rattle.std.proofs.Common.{sym, ap, ◌∙◌, not-suc-le-zero, le_of_suc-le-suc, arith, eqb-true, eq-eqb, ne_eqb}
use Rattle.std.proofs.lemmas.List.{map-append}
use Rattle.std.proofs.Math.Option.{Option, none, some}
use Rattle.std.proofs.lemmas.Bool.{eqb-false}
use Rattle.nodeset.specs.Sets.{singleton}
use Rattle.definition.specs.Lists.{member}
use Rattle.definition.specs.Cost.{cheaper}
use Rattle.definition.specs.Search.{Leaf, Plan, Entry, State, find, is_some, replace, plan_at, memo_after, leaf_plans, leaf_entries}

abbrev pub sets_of : List Entry → List ℕ
sets_of = map (λ (e : Entry). e.set)

pub some_inj : {m n : ℕ} → ◌≡◌ {A = Option ℕ} (some m) (some n) → m ≡ n
some_inj p = cc

pub none≢some : {n : ℕ} → ◌≡◌ {A = Option ℕ} none (some n) → ⊥
none≢some p = let z : ◌≡◌ {A = ℕ} 0 1 = cc in omega arith

-- ---- an entry more

abbrev entry : ℕ → ℕ → Entry
entry s n = record { set = s; plan = n }

-- an entry first in a list is found
pub found_first : (s n : ℕ) (o : Option ℕ) → elim (eqb s s) [ true ↦ some n | false ↦ o ] ≡ some n
found_first s n o = ap (λ (b : Bool). elim b [ true ↦ some n | false ↦ o ]) (eq-eqb s s refl)

-- and not where another is asked for
pub passed_over_lem : (s t n : ℕ) (o : Option ℕ) → (s ≡ t → ⊥) → elim (eqb s t) [ true ↦ some n | false ↦ o ] ≡ o
passed_over_lem s t n o h = ap (λ (b : Bool). elim b [ true ↦ some n | false ↦ o ]) (ne_eqb s t h)

append_same : (m : List Entry) (s n : ℕ) → find m s ≡ none → find (m ++ (entry s n ∷ [])) s ≡ some n
unfolding find
append_same [] s n h = found_first s n none
append_same (x ∷ m) s n h = go (eqb x.set s) h (append_same m s n)
  where
    go : (b : Bool) → ◌≡◌ {A = Option ℕ} (elim b [ true ↦ some x.plan | false ↦ find m s ]) none → (find m s ≡ none → find (m ++ (entry s n ∷ [])) s ≡ some n)
        → elim b [ true ↦ some x.plan | false ↦ find (m ++ (entry s n ∷ [])) s ] ≡ some n
    go true h r = absurd (none≢some (sym h))
    go false h r = r h

append_other : (m : List Entry) (s n t : ℕ) → (s ≡ t → ⊥) → find (m ++ (entry s n ∷ [])) t ≡ find m t
unfolding find
append_other [] s n t h = passed_over_lem s t n none h
append_other (x ∷ m) s n t h = ap (λ (o : Option ℕ). elim (eqb x.set t) [ true ↦ some x.plan | false ↦ o ]) (append_other m s n t h)

-- ---- another plan for a set

replace_same : (m : List Entry) (s n o : ℕ) → find m s ≡ some o → find (replace m s n) s ≡ some n
unfolding find replace
replace_same [] s n o h = absurd (none≢some h)
replace_same (x ∷ m) s n o h = go (eqb x.set s) refl h (replace_same m s n o)
  where
    go : (b : Bool) → eqb x.set s ≡ b → elim b [ true ↦ some x.plan | false ↦ find m s ] ≡ some o → (find m s ≡ some o → find (replace m s n) s ≡ some n)
        → find (elim b [ true ↦ entry s n ∷ m | false ↦ x ∷ replace m s n ]) s ≡ some n
    go true e h r = found_first s n (find m s)
    go false e h r = passed_over_lem x.set s x.plan (find (replace m s n) s) (eqb-false x.set s e) ∙ r h

replace_other : (m : List Entry) (s n t : ℕ) → (s ≡ t → ⊥) → find (replace m s n) t ≡ find m t
unfolding find replace
replace_other [] s n t h = refl
replace_other (x ∷ m) s n t h = go (eqb x.set s) (eqb-true x.set s) (replace_other m s n t h)
  where
    go : (b : Bool) → (b ≡ true → x.set ≡ s) → find (replace m s n) t ≡ find m t
        → find (elim b [ true ↦ entry s n ∷ m | false ↦ x ∷ replace m s n ]) t ≡ elim (eqb x.set t) [ true ↦ some x.plan | false ↦ find m t ]
    go true e r = passed_over_lem s t n (find m t) h ∙ sym (passed_over_lem x.set t x.plan (find m t) (λ f. h (sym (e refl) ∙ f)))
    go false e r = ap (λ (o : Option ℕ). elim (eqb x.set t) [ true ↦ some x.plan | false ↦ o ]) r

-- ---- after a candidate p, plan n, for the set s, where the memo had o for it

abbrev pub winner : State → ℕ → Plan → Option ℕ → ℕ
winner st n p none = n
winner st n p (some o) = elim (cheaper p.estimate (plan_at st o).estimate) [ true ↦ n | false ↦ o ]

pub memo_after_same : (st : State) (s n : ℕ) (p : Plan) (o : Option ℕ) → find st.memo s ≡ o → find (memo_after st s n p o) s ≡ some (winner st n p o)
unfolding memo_after
memo_after_same st s n p none h = append_same st.memo s n h
memo_after_same st s n p (some o) h = go (cheaper p.estimate (plan_at st o).estimate)
  where
    go : (b : Bool) → find (elim b [ true ↦ replace st.memo s n | false ↦ st.memo ]) s ≡ some (elim b [ true ↦ n | false ↦ o ])
    go true = replace_same st.memo s n o h
    go false = h

pub memo_after_other : (st : State) (s n : ℕ) (p : Plan) (o : Option ℕ) (t : ℕ) → (s ≡ t → ⊥) → find (memo_after st s n p o) t ≡ find st.memo t
unfolding memo_after
memo_after_other st s n p none t h = append_other st.memo s n t h
memo_after_other st s n p (some o) t h = go (cheaper p.estimate (plan_at st o).estimate)
  where
    go : (b : Bool) → find (elim b [ true ↦ replace st.memo s n | false ↦ st.memo ]) t ≡ find st.memo t
    go true = replace_other st.memo s n t h
    go false = refl

-- ---- the memo's sets

pub find-member : (m : List Entry) (s : ℕ) → is_some (find m s) ≡ member s (sets_of m)
unfolding find member
find-member [] s = refl
find-member (e ∷ m) s = go (eqb e.set s) (find-member m s)
  where
    go : (b : Bool) → is_some (find m s) ≡ member s (sets_of m)
        → is_some {A = ℕ} (elim b [ true ↦ some e.plan | false ↦ find m s ]) ≡ (b || member s (sets_of m))
    go true h = refl
    go false h = h

sets-replace : (m : List Entry) (s n : ℕ) → sets_of (replace m s n) ≡ sets_of m
unfolding replace
sets-replace [] s n = refl
sets-replace (e ∷ m) s n = go (eqb e.set s) (eqb-true e.set s) (sets-replace m s n)
  where
    go : (b : Bool) → (b ≡ true → e.set ≡ s) → sets_of (replace m s n) ≡ sets_of m
        → sets_of (elim b [ true ↦ record { set = s; plan = n } ∷ m | false ↦ e ∷ replace m s n ]) ≡ e.set ∷ sets_of m
    go true q h = ap (λ (x : ℕ). x ∷ sets_of m) (sym (q refl))
    go false q h = ap (λ (l : List ℕ). e.set ∷ l) h

pub sets-memo_after : (st : State) (s n : ℕ) (p : Plan) (o : Option ℕ) → sets_of (memo_after st s n p o) ≡ elim (is_some o) [ true ↦ sets_of st.memo | false ↦ sets_of st.memo ++ (s ∷ []) ]
unfolding memo_after
sets-memo_after st s n p none = map-append (λ (e : Entry). e.set) st.memo _
sets-memo_after st s n p (some o) = go (cheaper p.estimate (plan_at st o).estimate)
  where
    go : (b : Bool) → sets_of (elim b [ true ↦ replace st.memo s n | false ↦ st.memo ]) ≡ sets_of st.memo
    go true = sets-replace st.memo s n
    go false = refl

-- ---- the leaves' plans and entries

pub leaf_plans-length : (n : ℕ) (ls : List Leaf) → length (leaf_plans n ls) ≡ length ls
unfolding leaf_plans
leaf_plans-length n [] = refl
leaf_plans-length n (l ∷ ls) = ap suc (leaf_plans-length (suc n) ls)

pub leaf_found : (k : ℕ) (ls : List Leaf) (s p : ℕ) → find (leaf_entries k ls) s ≡ some p → (p < k + length ls) × (s ≡ singleton p)
unfolding find leaf_entries
leaf_found k [] s p h = absurd (none≢some h)
leaf_found k (l ∷ ls) s p h = go (eqb (singleton k) s) refl h (leaf_found (suc k) ls s p)
  where
    go : (b : Bool) → eqb (singleton k) s ≡ b → elim b [ true ↦ some k | false ↦ find (leaf_entries (suc k) ls) s ] ≡ some p
        → (find (leaf_entries (suc k) ls) s ≡ some p → (p < suc k + length ls) × (s ≡ singleton p)) → (p < k + length (l ∷ ls)) × (s ≡ singleton p)
    go true e h r =
        let q : k ≡ p = some_inj h in
        (omega arith, sym (eqb-true (singleton k) s e) ∙ ap singleton q)
    go false e h r = let f = r h in (omega (arith, f.0), f.1)

pub leaf_missed : (k : ℕ) (ls : List Leaf) (s : ℕ) → find (leaf_entries k ls) s ≡ none → (x : ℕ) → x < length ls → s ≡ singleton (k + x) → ⊥
unfolding find leaf_entries
leaf_missed k [] s h x l e = not-suc-le-zero l
leaf_missed k (z ∷ ls) s h x l e = go (eqb (singleton k) s) refl h x l e (leaf_missed (suc k) ls s)
  where
    go : (b : Bool) → eqb (singleton k) s ≡ b → ◌≡◌ {A = Option ℕ} (elim b [ true ↦ some k | false ↦ find (leaf_entries (suc k) ls) s ]) none → (x : ℕ) → x < length (z ∷ ls) → s ≡ singleton (k + x)
        → (find (leaf_entries (suc k) ls) s ≡ none → (x : ℕ) → x < length ls → s ≡ singleton (suc k + x) → ⊥) → ⊥
    go true d h x l e r = none≢some (sym h)
    go false d h zero l e r = eqb-false (singleton k) s d (ap singleton (omega arith) ∙ sym e)
    go false d h (suc x) l e r = r h x (le_of_suc-le-suc l) (e ∙ ap singleton (omega arith))
