-- What the index of the first n sets holds: each of the first 512 stands where a walk from its home comes to it, and the other places are vacant.
-- Assumes nothing.
use Rattle.std.proofs.Common.{◌≡◌, ℕ, zero, suc, ◌+◌, ◌<◌, ◌≤◌, min, ◌⊎◌, List, [], ◌∷◌, length, get_or, set, replicate, refl, sym, ap, ap₂, ◌∙◌, ⊎_elim}
use Rattle.std.proofs.Common.{inl, inr, le_of_lt, add-one, arith, length-set, get_or-set_same, get_or-set_other, eq-eqb, ne_eqb, lt-ltb, le-ltb}
use Rattle.std.proofs.Math.Nat.{min-eq_left}
use Rattle.std.proofs.lemmas.List.{length-replicate}
use Rattle.memo_index.specs.Index.{home, free, entered, noted, index_of, vacant}
use Rattle.memo_index.proofs.WalkLaws.{same_or_not, below_or_not, home_in, around, run, Vacant, ends, free_is_vacant, free_around, free_in, run_occupied}

-- ---- vacant places

vacant_here : (x : ℕ) (l : List ℕ) → x ≡ 0 → vacant (x ∷ l) ≡ suc (vacant l)
unfolding vacant
vacant_here x l e = rw (eq-eqb x 0 e, vacant)

vacant_past : (x : ℕ) (l : List ℕ) → (x ≡ 0 → ⊥) → vacant (x ∷ l) ≡ vacant l
unfolding vacant
vacant_past x l h = rw (ne_eqb x 0 h, vacant)

vacant_all : (n : ℕ) → vacant (replicate n 0) ≡ n
unfolding vacant
vacant_all zero = refl
vacant_all (suc n) = vacant_here 0 (replicate n 0) refl ∙ ap suc (vacant_all n)

vacant_set : (l : List ℕ) (i v : ℕ) → i < length l → get_or l i 0 ≡ 0 → suc (vacant (set l i (suc v))) ≡ vacant l
vacant_set [] i v h e = absurd (omega arith)
vacant_set (x ∷ l) zero v h e = ap suc (vacant_past (suc v) l (λ z. omega arith)) ∙ sym (vacant_here x l e)
vacant_set (x ∷ l) (suc i) v h e =
    let r = vacant_set l i v (omega arith) e in
    ⊎_elim (λ z. ap suc (vacant_here x (set l i (suc v)) z ∙ r) ∙ sym (vacant_here x l z))
    (λ z. ap suc (vacant_past x (set l i (suc v)) z) ∙ r ∙ sym (vacant_past x l z))
    (same_or_not x 0)

vacant_place : (l : List ℕ) → 0 < vacant l → (q : ℕ) × (q < length l) × (get_or l q 0 ≡ 0)
unfolding vacant
vacant_place [] h = absurd (omega arith)
vacant_place (x ∷ l) h =
    ⊎_elim (λ z. (0, omega arith, z))
    (λ z. let r = vacant_place l (omega (arith, vacant_past x l z)) in (suc r.0, omega (arith, r.1), r.2))
    (same_or_not x 0)

-- a vacant place anywhere ends every walk
pub vacant_ends : (index : List ℕ) (p : ℕ) → length index ≡ 1024 → 0 < vacant index → p < 1024 → run 1024 index p < 1024
vacant_ends index p e h l = let r = vacant_place index h in ends index p r.0 l (omega (arith, r.1)) r.2

-- ---- what an index is

-- position i stands at a place, and none from the home of s to it is vacant
pub record Stands (index : List ℕ) (s i : ℕ) : Type 0 where
  pub steps : ℕ
  pub few : steps < 1024
  pub there : get_or index (around (home s) steps) 0 ≡ suc i
  pub occupied : (j : ℕ) → j < steps → Vacant index (around (home s) j) → ⊥

-- the first n sets stand in it, each at one place, and nothing else does
pub record Indexed (index sets : List ℕ) (n : ℕ) : Type 0 where
  pub sized : length index ≡ 1024
  pub entries : (p : ℕ) → get_or index p 0 ≤ n
  pub stands : (i : ℕ) → i < n → Stands index (get_or sets i 0) i
  pub others : vacant index + n ≡ 1024

all_zero : (n p : ℕ) → get_or (replicate {A = ℕ} n 0) p 0 ≡ 0
all_zero zero p = refl
all_zero (suc n) zero = refl
all_zero (suc n) (suc p) = all_zero n p

empty_indexed : (sets : List ℕ) → Indexed (replicate 1024 0) sets 0
empty_indexed sets =
    record {
      sized = length-replicate {A = ℕ} 1024 0;
      entries = λ p. omega (arith, all_zero 1024 p);
      stands = λ i h. absurd (omega arith);
      others = omega (arith, vacant_all 1024);
    }

-- set number n entered too
module _ (index sets : List ℕ) (n : ℕ) (k : Indexed index sets n) (f : n < 512) where
  abbrev s : ℕ
  s = get_or sets n 0

  walk_ends : run 1024 index (home s) < 1024
  walk_ends = vacant_ends index (home s) k.sized (omega (arith, k.others)) (home_in s)

  abbrev v : ℕ
  v = free 1024 index (home s)

  abbrev more : List ℕ
  more = set index v (suc n)

  v_in : v < length index
  v_in = let h = free_in index 1024 (home s) (home_in s) in omega (arith, k.sized)

  v_vacant : Vacant index v
  v_vacant = free_is_vacant index 1024 (home s) walk_ends

  here : get_or more v 0 ≡ suc n
  here = get_or-set_same index v (suc n) 0 v_in

  elsewhere : (p : ℕ) → (p ≡ v → ⊥) → get_or more p 0 ≡ get_or index p 0
  elsewhere p h = get_or-set_other index v p (suc n) 0 h

  still : (p : ℕ) → (Vacant index p → ⊥) → get_or more p 0 ≡ get_or index p 0
  still p h = elsewhere p (λ e. h (rw e v_vacant))

  still_occupied : (p : ℕ) → (Vacant index p → ⊥) → Vacant more p → ⊥
  still_occupied p h e = h (sym (still p h) ∙ e)

  older : (i : ℕ) → i < n → Stands more (get_or sets i 0) i
  older i l =
      let t = k.stands i l in
      record {
        steps = t.steps;
        few = t.few;
        there = still _ (λ z. omega (arith, t.there)) ∙ t.there;
        occupied = λ j h. still_occupied _ (t.occupied j h);
      }

  newest : (i : ℕ) → i ≡ n → Stands more (get_or sets i 0) i
  newest i e =
      rw e
      record {
        steps = run 1024 index (home s);
        few = walk_ends;
        there = rw (free_around index 1024 (home s) walk_ends) here;
        occupied = λ j h. still_occupied _ (run_occupied index 1024 (home s) j h);
      }

  entered_indexed : Indexed (entered index s n) sets (suc n)
  unfolding entered
  entered_indexed =
      record {
        sized = length-set index v (suc n) ∙ k.sized;
        entries = λ p. ⊎_elim (λ e. rw e (omega (arith, here))) (λ h. omega (arith, elsewhere p h, k.entries p)) (same_or_not p v);
        stands = λ i h. ⊎_elim (λ e. older i e) (λ e. newest i (omega arith)) (below_or_not i n);
        others = omega (arith, k.others, vacant_set index v n v_in v_vacant);
      }

-- ---- an entry noted, one law for each way through `enter`

module _ (index : List ℕ) (s i : ℕ) where
  pub noted_other : (length index ≡ 1024 → ⊥) → noted index s i ≡ index
  unfolding noted
  noted_other h = rw (ne_eqb (length index) 1024 h, noted)

  pub noted_under : length index ≡ 1024 → i < 512 → noted index s i ≡ entered index s i
  unfolding noted
  noted_under e h = rw (eq-eqb (length index) 1024 e, noted, lt-ltb i 512 h)

  pub noted_past : 512 ≤ i → noted index s i ≡ index
  unfolding noted
  noted_past h =
      ⊎_elim (λ (e : length index ≡ 1024). rw (eq-eqb (length index) 1024 e, noted, le-ltb i 512 h)) (λ e. noted_other e) (same_or_not (length index) 1024)

  pub set_is_noted : {q : ℕ} → length index ≡ 1024 → i < 512 → q ≡ free 1024 index (home s) → set index q (i + 1) ≡ noted index s i
  unfolding entered
  set_is_noted {q} e h f = rw (f, add-one) (sym (noted_under e h))

  pub none_noted : ((length index ≡ 1024) × (512 ≤ i)) ⊎ (length index ≡ 1024 → ⊥) → index ≡ noted index s i
  none_noted (inl h) = sym (noted_past h.1)
  none_noted (inr h) = sym (noted_other h)

  pub length_noted : length (noted index s i) ≡ length index
  unfolding entered
  length_noted =
      ⊎_elim
      (λ (e : length index ≡ 1024).
      ⊎_elim (λ (h : i < 512). ap length (noted_under e h) ∙ length-set index (free 1024 index (home s)) (suc i))
      (λ (h : 512 ≤ i). ap length (noted_past h))
      (below_or_not i 512))
      (λ e. ap length (noted_other e))
      (same_or_not (length index) 1024)

-- ---- the index of the first n sets

indexed : (sets : List ℕ) (n m : ℕ) → m ≡ min n 512 → Indexed (index_of sets n) sets m
unfolding index_of
indexed sets zero m e = let z : m ≡ 0 = omega arith in rw z (empty_indexed sets)
indexed sets (suc n) m e =
    ⊎_elim
    (λ (h : n < 512).
    let z : m ≡ suc n = e ∙ min-eq_left h in
    let k : Indexed (index_of sets n) sets n = indexed sets n n (sym (min-eq_left (le_of_lt h))) in
    rw (z, noted_under (index_of sets n) (get_or sets n 0) n k.sized h) (entered_indexed (index_of sets n) sets n k h))
    (λ (h : 512 ≤ n). rw (noted_past (index_of sets n) (get_or sets n 0) n h) (indexed sets n m (omega arith)))
    (below_or_not n 512)

pub index_of_indexed : (sets : List ℕ) (n : ℕ) → Indexed (index_of sets n) sets (min n 512)
index_of_indexed sets n = indexed sets n (min n 512) refl

-- it asks for no set past the first n
pub index_of_same : (sets other : List ℕ) (n : ℕ) → ((i : ℕ) → i < n → get_or sets i 0 ≡ get_or other i 0) → index_of sets n ≡ index_of other n
unfolding index_of
index_of_same sets other zero h = refl
index_of_same sets other (suc n) h =
    ap₂ (λ (x : List ℕ) (y : ℕ). noted x y n) (index_of_same sets other n (λ i l. h i (omega arith))) (h n (omega arith))
