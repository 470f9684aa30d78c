-- Laws that stood before the structs, or for loops over all 64 classes, kept as they were; no proof needs them now. Assumes nothing.
use mathlib.Core.Path.{◌≡◌, refl, sym, ap, ap₂, ◌∙◌, subst}
use mathlib.Core.Bool.{Bool, true, false, not, ◌&&◌}
use mathlib.Core.List.{List, [], ◌∷◌, ◌++◌, map, map-append}
use Prim.Native.Nat.{ℕ, suc, ◌+◌, ◌≤◌, ◌<◌, ◌^◌}
use native.Mathlib.Nat.{add-zero}
use native.Mathlib.Numerals.{add-one}
use lib.ListN.{length, get_or, take, drop, set, length-set}
use lib.Seq.{take-suc, take-suc-set, drop-cons, drop-drop, drop-set-lt, take_all, get_or-drop, set-get_or, slice, slice-cons, slice_empty}
use Rattle.std.proofs.Common.{drop_of_length-le}
use lib.Bits.{bit_and, bit_or}
use lib.Dec.{eqb}
use lib.Count.{count_trailing_zeros}
use native.Mathlib.Omega.{arith}
use Rattle.nodeset.specs.Sets.{disjoint}
use Rattle.nodeset.specs.SetLaws.{lowest_is}
use borrow.Author.Tests.{eq-eqb, ne_eqb}
use Rattle.definition.specs.Connected.{own_classes, one_class, met, merge, merges, round, rounds, connected}

-- ---- a loop that replaces each element x of l₀ by f x, in place: j of them are done
pub record Mapped (f : ℕ → ℕ) (l₀ : List ℕ) (j : ℕ) (l : List ℕ) : Type 0 where
  pub len : length l ≡ length l₀
  pub head : take j l ≡ map f (take j l₀)
  pub tail : drop j l ≡ drop j l₀

module _ (f : ℕ → ℕ) (l₀ : List ℕ) (j : ℕ) (l : List ℕ) (m : Mapped f l₀ j l) where
  pub mapped_at : get_or l j 0 ≡ get_or l₀ j 0
  mapped_at =
      let e : (k : List ℕ) → get_or (drop j k) 0 0 ≡ get_or k j 0 = λ k. get_or-drop j k 0 0 ∙ ap (λ (n : ℕ). get_or k n 0) (add-zero j) in
      sym (e l) ∙ ap (λ (k : List ℕ). get_or k 0 0) m.tail ∙ e l₀

  pub mapped_store : (v : ℕ) → j < length l₀ → v ≡ f (get_or l j 0) → Mapped f l₀ (j + 1) (set l j v)
  mapped_store v h e =
      let hl : j < length l = omega (arith, m.len) in
      record {
        len = length-set l j v ∙ m.len;
        head =
            ap (λ (n : ℕ). take n (set l j v)) (add-one j) ∙ take-suc-set l j v hl
            ∙ ap₂ (λ (xs : List ℕ) (x : ℕ). xs ++ (x ∷ [])) m.head (e ∙ ap f mapped_at)
            ∙ sym (map-append f (take j l₀) (get_or l₀ j 0 ∷ [])) ∙ ap (map f) (sym (take-suc l₀ j 0 h)) ∙ ap (λ (n : ℕ). map f (take n l₀)) (sym (add-one j));
        tail = drop-set-lt (j + 1) l j v (omega arith) ∙ sym (drop-drop 1 j l) ∙ ap (drop 1) m.tail ∙ drop-drop 1 j l₀;
      }

  -- the same of a list that is the written one
  pub mapped_one : {k : List ℕ} (v : ℕ) → j < length l₀ → v ≡ f (get_or l j 0) → k ≡ set l j v → Mapped f l₀ (j + 1) k
  mapped_one v h e q = rw q (mapped_store v h e)

  pub mapped_all : length l₀ ≤ j → l ≡ map f l₀
  mapped_all h = sym (take_all j l (omega (arith, m.len))) ∙ m.head ∙ ap (map f) (take_all j l₀ h)

-- what becomes of a class p where the classes that meet s become all
abbrev pub into : ℕ → ℕ → ℕ → ℕ
into s all p = (elim (disjoint p s) [ true ↦ p | false ↦ all ])

pub into_by : (s all p : ℕ) (b : Bool) → disjoint p s ≡ b → elim b [ true ↦ p | false ↦ all ] ≡ into s all p
into_by s all p b e = ap (λ (x : Bool). elim x [ true ↦ p | false ↦ all ]) (sym e)

-- ---- met: one element more, which meets s or not
module _ (s t : ℕ) (l : List ℕ) (i v : ℕ) (h : i < length l) where
  abbrev meets : Bool → ℕ
  meets b = elim b [ true ↦ t | false ↦ bit_or t (get_or l i 0) ]

  pub met_one : (b : Bool) → disjoint (get_or l i 0) s ≡ b → v ≡ meets b → met s v (drop (i + 1) l) ≡ met s t (drop i l)
  unfolding met
  met_one b m e = rw (add-one, drop-cons l i 0 h) (ap (λ (u : ℕ). met s u (drop (suc i) l)) (e ∙ ap meets (sym m)))

pub met_none : (s t : ℕ) (l : List ℕ) (i : ℕ) → length l ≤ i → met s t (drop i l) ≡ t
unfolding met
met_none s t l i h = rw (drop_of_length-le l h)

-- ---- a loop that replaces each element x of l₀ by f x, in place: an element that stays
module _ (f : ℕ → ℕ) (l₀ : List ℕ) (j : ℕ) (l : List ℕ) (m : Mapped f l₀ j l) where
  pub mapped_keep : j < length l₀ → get_or l j 0 ≡ f (get_or l j 0) → Mapped f l₀ (j + 1) l
  mapped_keep h e = subst (λ (k : List ℕ). Mapped f l₀ (j + 1) k) (set-get_or l j 0) (mapped_store f l₀ j l m (get_or l j 0) h e)

-- ---- met: one element more, which meets s or not
pub met_with : (s t : ℕ) (l : List ℕ) (i v : ℕ) → i < length l → (bit_and (get_or l i 0) s ≡ 0 → ⊥) → v ≡ bit_or t (get_or l i 0)
    → met s v (drop (i + 1) l) ≡ met s t (drop i l)
unfolding met
met_with s t l i v h m e =
    let x = get_or l i 0 in
    rw (add-one, drop-cons l i 0 h)
    (ap (λ (u : ℕ). met s u (drop (suc i) l))
    (e ∙ ap (λ (b : Bool). elim b [ true ↦ t | false ↦ bit_or t x ]) (sym (ne_eqb (bit_and x s) 0 m))))

pub met_without : (s t : ℕ) (l : List ℕ) (i v : ℕ) → i < length l → bit_and (get_or l i 0) s ≡ 0 → v ≡ t
    → met s v (drop (i + 1) l) ≡ met s t (drop i l)
unfolding met
met_without s t l i v h m e =
    let x = get_or l i 0 in
    rw (add-one, drop-cons l i 0 h)
    (ap (λ (u : ℕ). met s u (drop (suc i) l))
    (e ∙ ap (λ (b : Bool). elim b [ true ↦ t | false ↦ bit_or t x ]) (sym (eq-eqb (bit_and x s) 0 m))))

-- ---- round: one edge more, which merges or not
module _ (skip n : ℕ) (ls rs : List ℕ) (i : ℕ) (a : n ≤ length ls) (b : n ≤ length rs) (h : i < n) where
  round_step : (ps : List ℕ) →
      round skip (slice (i + 1) n ls) (slice (i + 1) n rs)
      (elim (merges skip (get_or ls i 0) (get_or rs i 0) ps) [ true ↦ merge (bit_or (get_or ls i 0) (get_or rs i 0)) ps | false ↦ ps ])
      ≡ round skip (slice i n ls) (slice i n rs) ps
  unfolding round
  round_step ps = rw (add-one, slice-cons i n ls 0 h a, slice-cons i n rs 0 h b)

  pub round_with : (ps qs : List ℕ) → merges skip (get_or ls i 0) (get_or rs i 0) ps ≡ true
      → qs ≡ merge (bit_or (get_or ls i 0) (get_or rs i 0)) ps
      → round skip (slice (i + 1) n ls) (slice (i + 1) n rs) qs ≡ round skip (slice i n ls) (slice i n rs) ps
  round_with ps qs e f =
      let m = merge (bit_or (get_or ls i 0) (get_or rs i 0)) ps in
      ap (round skip (slice (i + 1) n ls) (slice (i + 1) n rs)) (f ∙ ap (λ (t : Bool). elim t [ true ↦ m | false ↦ ps ]) (sym e))
      ∙ round_step ps

  pub round_without : (ps qs : List ℕ) → merges skip (get_or ls i 0) (get_or rs i 0) ps ≡ false → qs ≡ ps
      → round skip (slice (i + 1) n ls) (slice (i + 1) n rs) qs ≡ round skip (slice i n ls) (slice i n rs) ps
  round_without ps qs e f =
      let m = merge (bit_or (get_or ls i 0) (get_or rs i 0)) ps in
      ap (round skip (slice (i + 1) n ls) (slice (i + 1) n rs)) (f ∙ ap (λ (t : Bool). elim t [ true ↦ m | false ↦ ps ]) (sym e))
      ∙ round_step ps

pub round_done : (skip n : ℕ) (ls rs ps : List ℕ) → round skip (slice n n ls) (slice n n rs) ps ≡ ps
unfolding round
round_done skip n ls rs ps = rw (slice_empty n ls)

-- ---- when an edge merges
and_false : (b c d : Bool) → b && false && c && d ≡ false
and_false true c d = refl
and_false false c d = refl

pub merges-joined : (skip l r : ℕ) (ps : List ℕ) → one_class (bit_or l r) ps ≡ true → merges skip l r ps ≡ false
unfolding merges
merges-joined skip l r ps e = rw e (and_false (not (eqb (bit_or l r) skip)) (one_class l ps) (one_class r ps))

pub merges_by : (skip l r : ℕ) (ps : List ℕ) → (bit_or l r ≡ skip → ⊥) → one_class (bit_or l r) ps ≡ false
    → merges skip l r ps ≡ (one_class l ps && one_class r ps)
unfolding merges
merges_by skip l r ps n e = rw (ne_eqb (bit_or l r) skip n, e)

-- ---- connected
module _ (ls rs : List ℕ) (a b skip : ℕ) where
  pub connected_by : {n : ℕ} {p q r t : List ℕ} → (a ≡ 0 → ⊥) → (b ≡ 0 → ⊥) → n ≡ length ls → p ≡ own_classes → q ≡ merge a p
      → r ≡ merge b q → t ≡ rounds n skip ls rs r → one_class (bit_or a b) t ≡ connected ls rs a b skip
  unfolding connected
  connected_by {n} {p} {q} {r} {t} na nb en ep eq er et =
      rw (ne_eqb a 0 na, ne_eqb b 0 nb)
      (ap (one_class (bit_or a b))
      (et ∙ ap₂ (λ (k : ℕ) (ps : List ℕ). rounds k skip ls rs ps) en (er ∙ ap (merge b) (eq ∙ ap (merge a) ep))))

-- ---- a set that is not empty has a lowest leaf
low : (s : ℕ) → (s ≡ 0 → ⊥) → s < 2 ^ 64 → count_trailing_zeros 64 s < 64
low s n h = (lowest_is 64 s (omega arith) h).inside
