-- Laws that stood before the structs, kept as they were; no proof needs them now. Assumes nothing.
use Rattle.std.specs.Prelude.{◌≡◌, refl, ◌⊎◌, List, [], ◌∷◌, ◌++◌, ℕ, zero, suc, ◌+◌, ◌-◌, ◌≤◌, ◌<◌, length, get_or, take, drop, set}
use Rattle.std.proofs.Common.{sym, ap₂, ◌∙◌, inl, inr, arith, add-one, le_of_suc-le-suc, eq-or-lt_of_le, length-set, length-drop}
use Rattle.std.proofs.Common.{drop-set-lt, length-take-le}
use Rattle.std.proofs.Math.Path.{ap}
use Rattle.std.specs.Int.Bits.{bit_or}
use Rattle.std.proofs.lemmas.List.{drop-set-add, take-set-le}
use Rattle.std.proofs.Math.Seq.{take-set-lt}
use Rattle.definition.specs.Lists.{tabulate}
use Rattle.definition.proofs.ListLaws.{tabulate_more}
use Rattle.definition.specs.Hypergraph.{Edge}
use Rattle.definition.specs.Edges.{JoinRecord, Build}
use Rattle.ses.specs.View.{columns_at, Fit}
use Rattle.ses.proofs.StandingLaws.{leaves_of, Fits}
use Rattle.tes.proofs.StandingLaws.{join_at, joins_of}
use Rattle.builder.specs.Laws.{put_same, put_other}

-- ---- the builder's own lists, as they lay

-- the 64 places of a list from this one on
abbrev pub section : ℕ → List ℕ → List ℕ
section at l = take 64 (drop at l)

pub record Places (numbers sets : List ℕ) : Type 0 where
  pub all_numbers : length numbers ≡ 192
  pub all_sets : length sets ≡ 320

abbrev pub joins_in : ℕ → List ℕ → List ℕ → List JoinRecord
joins_in n numbers sets = joins_of n (section 0 numbers) (section 64 sets) (section 128 sets) (section 192 sets) (section 256 sets)

-- the h things on the pile, its top first
unfoldable pub pile_of : ℕ → List ℕ → List ℕ
pile_of zero p = []
pile_of (suc h) p = get_or p h 0 ∷ pile_of h p

-- ---- one place more

join_eq : {a b c d e f g h i j : ℕ} → a ≡ f → b ≡ g → c ≡ h → d ≡ i → e ≡ j
    → ◌≡◌ {A = JoinRecord} (record { type = a; left_nodes = b; right_nodes = c; tes_left = d; tes_right = e })
    (record { type = f; left_nodes = g; right_nodes = h; tes_left = i; tes_right = j })
join_eq p q r s t = cc

module _ (n : ℕ) (a b c d e : List ℕ) (v w x y z : ℕ) (ha : n < length a) (hb : n < length b) (hc : n < length c) (hd : n < length d) (he : n < length e) where
  pub joins_more : joins_of (n + 1) (set a n v) (set b n w) (set c n x) (set d n y) (set e n z)
      ≡ joins_of n a b c d e ++ (record { type = v; left_nodes = w; right_nodes = x; tes_left = y; tes_right = z } ∷ [])
  unfolding joins_of
  joins_more =
      tabulate_more n _ (join_at a b c d e)
      (λ i h. join_eq (put_other a n v i h) (put_other b n w i h) (put_other c n x i h) (put_other d n y i h) (put_other e n z i h))
      ∙ ap (λ (f : JoinRecord). tabulate n (join_at a b c d e) ++ (f ∷ []))
      (join_eq (put_same a n v ha) (put_same b n w hb) (put_same c n x hc) (put_same d n y hd) (put_same e n z he))

module _ (sheet : List ℕ) (n : ℕ) (first count : List ℕ) (f c : ℕ) (hf : n < length first) (hc : n < length count) where
  pub leaves_more : leaves_of sheet (n + 1) (set first n f) (set count n c) ≡ leaves_of sheet n first count ++ (columns_at sheet f c ∷ [])
  leaves_more =
      tabulate_more n _ (λ k. columns_at sheet (get_or first k 0) (get_or count k 0))
      (λ i h. ap₂ (columns_at sheet) (put_other first n f i h) (put_other count n c i h))
      ∙ ap (λ (l : List ℕ). leaves_of sheet n first count ++ (l ∷ [])) (ap₂ (columns_at sheet) (put_same first n f hf) (put_same count n c hc))

-- ---- the pile

pub pile_under : (h j : ℕ) (p : List ℕ) (x : ℕ) → h ≤ j → pile_of h (set p j x) ≡ pile_of h p
unfolding pile_of
pile_under zero j p x k = refl
pile_under (suc h) j p x k = ap₂ (λ (y : ℕ) (r : List ℕ). y ∷ r) (put_other p j x h (omega arith)) (pile_under h j p x (omega arith))

pub pile_put : (h : ℕ) (p : List ℕ) (x : ℕ) → h < length p → pile_of (h + 1) (set p h x) ≡ x ∷ pile_of h p
unfolding pile_of
pile_put h p x k =
    ap (λ (n : ℕ). pile_of n (set p h x)) (add-one h)
    ∙ ap₂ (λ (y : ℕ) (r : List ℕ). y ∷ r) (put_same p h x k) (pile_under h h p x (omega arith))

pub pile_two : (n : ℕ) (p : List ℕ) → 2 ≤ n → pile_of n p ≡ get_or p (n - 1) 0 ∷ (get_or p (n - 2) 0 ∷ pile_of (n - 2) p)
unfolding pile_of
pile_two n p h =
    let e : n ≡ suc (suc (n - 2)) = omega arith in
    let f : n - 1 ≡ suc (n - 2) = omega arith in
    ap (λ (k : ℕ). pile_of k p) e ∙ ap (λ (k : ℕ). get_or p k 0 ∷ (get_or p (n - 2) 0 ∷ pile_of (n - 2) p)) (sym f)

-- ---- the sections

section_put : (at : ℕ) (l : List ℕ) (j x : ℕ) → j < 64 → section at (set l (at + j) x) ≡ set (section at l) j x
section_put at l j x h = ap (take 64) (drop-set-add at l j x) ∙ take-set-lt 64 (drop at l) j x h

section_before : (at : ℕ) (l : List ℕ) (i x : ℕ) → i < at → section at (set l i x) ≡ section at l
section_before at l i x h = ap (take 64) (drop-set-lt at l i x h)

section_behind : (at : ℕ) (l : List ℕ) (i x : ℕ) → at + 64 ≤ i → section at (set l i x) ≡ section at l
section_behind at l i x h =
    let e : i ≡ at + (i - at) = omega arith in
    ap (λ (k : ℕ). section at (set l k x)) e ∙ ap (take 64) (drop-set-add at l (i - at) x)
    ∙ take-set-le 64 (drop at l) (i - at) x (omega arith)

pub section-length : (at : ℕ) (l : List ℕ) → at + 64 ≤ length l → length (section at l) ≡ 64
section-length at l h = length-take-le 64 (drop at l) (omega (arith, length-drop at l))

in_section : (at : ℕ) (l : List ℕ) (j : ℕ) → at + 64 ≤ length l → j < 64 → j < length (section at l)
in_section at l j h e = omega (arith, section-length at l h)

joins_same : {a b c d e f g h i j : List ℕ} (n : ℕ) → a ≡ f → b ≡ g → c ≡ h → d ≡ i → e ≡ j → joins_of n a b c d e ≡ joins_of n f g h i j
joins_same n p q r s t = cc

build_eq : {ls ms : List (List ℕ)} {es : List Edge} {js ks : List JoinRecord} {p q : List ℕ} → ls ≡ ms → js ≡ ks → p ≡ q
    → ◌≡◌ {A = Build} (record { leaves = ls; edges = es; joins = js; pile = p }) (record { leaves = ms; edges = es; joins = ks; pile = q })
build_eq x y z = cc

-- ---- one record more

abbrev recorded : List ℕ → ℕ → ℕ → ℕ → ℕ → ℕ → List ℕ
recorded sets j l r x y = set (set (set (set sets (64 + j) l) (128 + j) r) (192 + j) x) (256 + j) y

module _ (numbers sets : List ℕ) (w : Places numbers sets) (j t l r x y top : ℕ) (hj : j < 64) (ht : top < 64) where
  abbrev s₁ : List ℕ
  s₁ = set sets (64 + j) l

  abbrev s₂ : List ℕ
  s₂ = set s₁ (128 + j) r

  abbrev s₃ : List ℕ
  s₃ = set s₂ (192 + j) x

  joins_after : joins_in (j + 1) (set numbers j t) (set (recorded sets j l r x y) top (bit_or l r))
      ≡ joins_in j numbers sets ++ (record { type = t; left_nodes = l; right_nodes = r; tes_left = x; tes_right = y } ∷ [])
  joins_after =
      joins_same (j + 1) (take-set-lt 64 numbers j t hj)
      (section_before 64 (recorded sets j l r x y) top (bit_or l r) (omega arith) ∙ section_behind 64 s₃ (256 + j) y (omega arith)
      ∙ section_behind 64 s₂ (192 + j) x (omega arith) ∙ section_behind 64 s₁ (128 + j) r (omega arith) ∙ section_put 64 sets j l hj)
      (section_before 128 (recorded sets j l r x y) top (bit_or l r) (omega arith) ∙ section_behind 128 s₃ (256 + j) y (omega arith)
      ∙ section_behind 128 s₂ (192 + j) x (omega arith) ∙ section_put 128 s₁ j r hj
      ∙ ap (λ (s : List ℕ). set s j r) (section_before 128 sets (64 + j) l (omega arith)))
      (section_before 192 (recorded sets j l r x y) top (bit_or l r) (omega arith) ∙ section_behind 192 s₃ (256 + j) y (omega arith)
      ∙ section_put 192 s₂ j x hj
      ∙ ap (λ (s : List ℕ). set s j x) (section_before 192 s₁ (128 + j) r (omega arith) ∙ section_before 192 sets (64 + j) l (omega arith)))
      (section_before 256 (recorded sets j l r x y) top (bit_or l r) (omega arith) ∙ section_put 256 s₃ j y hj
      ∙ ap (λ (s : List ℕ). set s j y)
      (section_before 256 s₂ (192 + j) x (omega arith) ∙ section_before 256 s₁ (128 + j) r (omega arith)
      ∙ section_before 256 sets (64 + j) l (omega arith)))
      ∙ joins_more j (section 0 numbers) (section 64 sets) (section 128 sets) (section 192 sets) (section 256 sets) t l r x y
      (in_section 0 numbers j (omega (arith, w.all_numbers)) hj) (in_section 64 sets j (omega (arith, w.all_sets)) hj)
      (in_section 128 sets j (omega (arith, w.all_sets)) hj) (in_section 192 sets j (omega (arith, w.all_sets)) hj)
      (in_section 256 sets j (omega (arith, w.all_sets)) hj)

  pile_after : pile_of (top + 1) (set (recorded sets j l r x y) top (bit_or l r)) ≡ bit_or l r ∷ pile_of top sets
  pile_after =
      pile_put top (recorded sets j l r x y) (bit_or l r) (simp length-set (omega (arith, w.all_sets)))
      ∙ ap (λ (h : List ℕ). bit_or l r ∷ h)
      (pile_under top (256 + j) s₃ y (omega arith) ∙ pile_under top (192 + j) s₂ x (omega arith)
      ∙ pile_under top (128 + j) s₁ r (omega arith) ∙ pile_under top (64 + j) sets l (omega arith))

-- ---- one leaf more

pub fits_more : (sheet : List ℕ) (n : ℕ) (first count : List ℕ) (f c : ℕ) → Fits sheet n first count → n < length first → n < length count
    → Fit sheet f c → n < 64 → Fits sheet (n + 1) (set first n f) (set count n c)
fits_more sheet n first count f c w hf hc fit few =
    record {
      few = omega arith;
      firsts = simp length-set (omega arith);
      counts = simp length-set (omega arith);
      inside = λ k h. at k (eq-or-lt_of_le (le_of_suc-le-suc (rw add-one at h)));
    }
  where
    at : (k : ℕ) → (k ≡ n) ⊎ (k < n) → Fit sheet (get_or (set first n f) k 0) (get_or (set count n c) k 0)
    at k (inl e) = rw (e, put_same first n f hf, put_same count n c hc) fit
    at k (inr l) = rw (put_other first n f k l, put_other count n c k l) (w.inside k l)

-- b: how many leaves there were
module _ (numbers sets : List ℕ) (w : Places numbers sets) (f c b : ℕ) (hk : b < 64) where
  abbrev after : List ℕ
  after = set (set numbers (64 + b) f) (128 + b) c

  firsts : section 64 after ≡ set (section 64 numbers) b f
  firsts = section_behind 64 (set numbers (64 + b) f) (128 + b) c (omega arith) ∙ section_put 64 numbers b f hk

  counts : section 128 after ≡ set (section 128 numbers) b c
  counts =
      section_put 128 (set numbers (64 + b) f) b c hk
      ∙ ap (λ (s : List ℕ). set s b c) (section_before 128 numbers (64 + b) f (omega arith))

  first_fits : b < length (section 64 numbers)
  first_fits = in_section 64 numbers b (omega (arith, w.all_numbers)) hk

  count_fits : b < length (section 128 numbers)
  count_fits = in_section 128 numbers b (omega (arith, w.all_numbers)) hk
