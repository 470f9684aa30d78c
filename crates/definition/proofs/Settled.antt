-- As many rounds as there are edges are enough: one more changes nothing. Assumes nothing.
use Rattle.std.specs.Prelude.{◌≡◌, refl, ◌⊎◌, Bool, true, false, ◌&&◌, not, List, [], ◌∷◌, map, ℕ, zero, suc, ◌+◌, ◌^◌, ◌≤◌, ◌<◌, min, max, length, get_or, eqb}
use Rattle.std.proofs.Common.{sym, ap, ap₂, ◌∙◌, subst, inl, inr, zero-le, suc-le-suc, le_refl, le_trans, eq-zero-or-pos, arith, eq-eqb, ne_eqb, eqb-true}
use Rattle.std.proofs.Math.Nat.{max-le, le-max_left, le-max_right}
use Rattle.std.proofs.Math.ListN.{get_or-map}
use Rattle.std.specs.Int.Bits.{bit_and, bit_or, and_zero_l}
use Rattle.std.proofs.lemmas.Nat.{or_lt}
use Rattle.nodeset.specs.Sets.{bit, within, disjoint, lowest}
use Rattle.nodeset.specs.SetLaws.{bit-lt, bit_empty, bit-and, bit-or, lowest_of, In, within_in, in_within}
use Rattle.definition.specs.Connected.{one_class, met, merge, merges, round, rounds}

le-or-lt : (a b : ℕ) → (a ≤ b) ⊎ (b < a)
le-or-lt zero b = inl zero-le
le-or-lt (suc a) zero = inr (suc-le-suc zero-le)
le-or-lt (suc a) (suc b) = elim (le-or-lt a b) [ inl h ↦ inl (suc-le-suc h) | inr h ↦ inr (suc-le-suc h) ]

-- ---- sets in sets
pub sub_trans : (a b c : ℕ) → In a b → In b c → In a c
sub_trans a b c p q i = le_trans (p i) (q i)

pub sub_of : (a b : ℕ) → within a b ≡ true → In a b
sub_of a b e = within_in a b (eqb-true (bit_and a b) a e)

of_sub : (a b : ℕ) → a < 2 ^ 64 → In a b → within a b ≡ true
of_sub a b h s = eq-eqb (bit_and a b) a (in_within a b h s)

pub sub-or_l : (a b : ℕ) → In a (bit_or a b)
sub-or_l a b i = subst (λ (x : ℕ). bit a i ≤ x) (sym (bit-or a b i)) (le-max_left (bit a i) (bit b i))

pub sub-or_r : (a b : ℕ) → In b (bit_or a b)
sub-or_r a b i = subst (λ (x : ℕ). bit b i ≤ x) (sym (bit-or a b i)) (le-max_right (bit a i) (bit b i))

pub or-sub : (a b c : ℕ) → In a c → In b c → In (bit_or a b) c
or-sub a b c p q i = subst (λ (x : ℕ). x ≤ bit c i) (sym (bit-or a b i)) (max-le (p i) (q i))

one_in : (a b i : ℕ) → In a b → bit a i ≡ 1 → bit b i ≡ 1
one_in a b i s e = omega (arith, s i, bit-lt b i)

pub meets : (p u i : ℕ) → bit p i ≡ 1 → bit u i ≡ 1 → disjoint p u ≡ false
meets p u i e f =
    ne_eqb (bit_and p u) 0
    (λ z. let k : bit (bit_and p u) i ≡ 1 = bit-and p u i ∙ ap₂ min e f in let n : bit (bit_and p u) i ≡ 0 = ap (λ (x : ℕ). bit x i) z ∙ bit_empty i in omega arith)

-- ---- a merge only makes classes larger
met_base : (s t : ℕ) (ps : List ℕ) → In t (met s t ps)
unfolding met
met_base s t [] = λ i. le_refl (bit t i)
met_base s t (p ∷ ps) = sub_trans t (elim (disjoint p s) [ true ↦ t | false ↦ bit_or t p ]) (met s (elim (disjoint p s) [ true ↦ t | false ↦ bit_or t p ]) ps) (step (disjoint p s)) (met_base s (elim (disjoint p s) [ true ↦ t | false ↦ bit_or t p ]) ps)
  where
    step : (b : Bool) → In t (elim b [ true ↦ t | false ↦ bit_or t p ])
    step true = λ i. le_refl (bit t i)
    step false = sub-or_l t p

pub met_has : (s t : ℕ) (ps : List ℕ) (i : ℕ) → disjoint (get_or ps i 0) s ≡ false → In (get_or ps i 0) (met s t ps)
unfolding met
met_has s t [] i e = λ j. omega (arith, bit_empty j)
met_has s t (p ∷ ps) zero e =
    sub_trans p (elim (disjoint p s) [ true ↦ t | false ↦ bit_or t p ]) (met s (elim (disjoint p s) [ true ↦ t | false ↦ bit_or t p ]) ps)
    (subst (λ (b : Bool). In p (elim b [ true ↦ t | false ↦ bit_or t p ])) (sym e) (sub-or_r t p)) (met_base s (elim (disjoint p s) [ true ↦ t | false ↦ bit_or t p ]) ps)
met_has s t (p ∷ ps) (suc i) e = met_has s (elim (disjoint p s) [ true ↦ t | false ↦ bit_or t p ]) ps i e

pub get_or-merge : (s : ℕ) (ps : List ℕ) (i : ℕ) → get_or (merge s ps) i 0 ≡ (elim (disjoint (get_or ps i 0) s) [ true ↦ get_or ps i 0 | false ↦ met s 0 ps ])
unfolding merge
get_or-merge s ps i =
    let f : ℕ → ℕ = λ p. elim (disjoint p s) [ true ↦ p | false ↦ met s 0 ps ] in
    let z : f 0 ≡ 0 = ap (λ (b : Bool). elim b [ true ↦ 0 | false ↦ met s 0 ps ]) (eq-eqb (bit_and 0 s) 0 (and_zero_l s)) in
    ap (λ (d : ℕ). get_or (map f ps) i d) (sym z) ∙ get_or-map f ps i 0

grows : (s : ℕ) (ps : List ℕ) (i : ℕ) → In (get_or ps i 0) (get_or (merge s ps) i 0)
grows s ps i = subst (λ (x : ℕ). In (get_or ps i 0) x) (sym (get_or-merge s ps i)) (go (disjoint (get_or ps i 0) s) refl)
  where
    go : (b : Bool) → disjoint (get_or ps i 0) s ≡ b → In (get_or ps i 0) (elim b [ true ↦ get_or ps i 0 | false ↦ met s 0 ps ])
    go true e = λ j. le_refl (bit (get_or ps i 0) j)
    go false e = met_has s 0 ps i e

keeps : (s u : ℕ) (ps : List ℕ) → u < 2 ^ 64 → one_class u ps ≡ true → one_class u (merge s ps) ≡ true
unfolding one_class
keeps s u ps h e =
    let i = lowest u in
    of_sub u (get_or (merge s ps) i 0) h (sub_trans u (get_or ps i 0) (get_or (merge s ps) i 0) (sub_of u (get_or ps i 0) e) (grows s ps i))

-- ---- the two sides of an edge that merges are in one class then
has : (u s : ℕ) (ps : List ℕ) → s < 2 ^ 64 → one_class s ps ≡ true → In s u → In s (met u 0 ps)
unfolding one_class
has u s ps h e w =
    elim (eq-zero-or-pos s) [
      | inl z ↦ λ j. omega (arith, bit_empty j, ap (λ (x : ℕ). bit x j) z)
      | inr p ↦
          let i = lowest s in
          let q = get_or ps i 0 in
          let in-q = sub_of s q e in
          sub_trans s q (met u 0 ps) in-q (met_has u 0 ps i (meets q u i (one_in s q i in-q (lowest_of s p h).has) (one_in s u i w (lowest_of s p h).has)))
    ]

same_low : (l u : ℕ) → l < 2 ^ 64 → u < 2 ^ 64 → 0 < u → In l u → bit l (lowest u) ≡ 1 → lowest l ≡ lowest u
same_low l u hl hu pu w e =
    elim (eq-zero-or-pos l) [
      | inl z ↦ absurd (let k = ap (λ (x : ℕ). bit x (lowest u)) z in omega (arith, bit_empty (lowest u)))
      | inr pl ↦
          let a = lowest_of l pl hl in
          let b = lowest_of u pu hu in
          let i = lowest l in
          let j = lowest u in
          elim (le-or-lt i j) [
            | inl h ↦ elim (le-or-lt j i) [
              | inl k ↦ omega arith
              | inr k ↦ absurd (omega (arith, b.least i k, one_in l u i w a.has))
            ]
            | inr h ↦ absurd (omega (arith, a.least j h))
          ]
    ]

joins : (l r : ℕ) (ps : List ℕ) → l < 2 ^ 64 → r < 2 ^ 64 → one_class l ps ≡ true → one_class r ps ≡ true → one_class (bit_or l r) (merge (bit_or l r) ps) ≡ true
unfolding one_class
joins l r ps hl hr el er =
    elim (eq-zero-or-pos u) [
      | inl z ↦ of_sub u (get_or (merge u ps) i 0) hu (λ j. omega (arith, bit_empty j, ap (λ (x : ℕ). bit x j) z))
      | inr p ↦ of_sub u (get_or (merge u ps) i 0) hu (subst (λ (x : ℕ). In u x) (sym (get_or-merge u ps i ∙ ap (λ (b : Bool). elim b [ true ↦ get_or ps i 0 | false ↦ met u 0 ps ]) (met_u p))) all)
    ]
  where
    u : ℕ
    u = bit_or l r

    i : ℕ
    i = lowest u

    hu : u < 2 ^ 64
    hu = or_lt 64 l r hl hr

    all : In u (met u 0 ps)
    all = or-sub l r (met u 0 ps) (has u l ps hl el (sub-or_l l r)) (has u r ps hr er (sub-or_r l r))

    side : (s : ℕ) → s < 2 ^ 64 → one_class s ps ≡ true → In s u → 0 < u → bit s i ≡ 1 → disjoint (get_or ps i 0) u ≡ false
    side s h e w p b =
        let q = sub_of s (get_or ps (lowest s) 0) e in
        let q2 = subst (λ (k : ℕ). In s (get_or ps k 0)) (same_low s u h hu p w b) q in
        meets (get_or ps i 0) u i (one_in s (get_or ps i 0) i q2 b) (one_in s u i w b)

    either : bit u i ≡ 1 → (bit l i ≡ 1) ⊎ (bit r i ≡ 1)
    either e = pick (bit l i) (bit r i) (bit-lt l i) (bit-lt r i) (sym (bit-or l r i) ∙ e)
      where
        pick : (a b : ℕ) → a < 2 → b < 2 → max a b ≡ 1 → (a ≡ 1) ⊎ (b ≡ 1)
        pick zero b ha hb e = inr (omega arith)
        pick (suc a) b ha hb e = inl (omega arith)

    met_u : 0 < u → disjoint (get_or ps i 0) u ≡ false
    met_u p = elim (either (lowest_of u p hu).has) [
      | inl b ↦ side l hl el (sub-or_l l r) p b
      | inr b ↦ side r hr er (sub-or_r l r) p b
    ]

-- ---- rounds
-- every set below 2 ^ 64 that lies in one class of ps does so in qs
abbrev pub Grown : List ℕ → List ℕ → Type 0
Grown ps qs = (u : ℕ) → u < 2 ^ 64 → one_class u ps ≡ true → one_class u qs ≡ true

abbrev Small : List ℕ → Type 0
Small ls = (i : ℕ) → get_or ls i 0 < 2 ^ 64

-- how many edges have sides that are not in one class
unfoldable undone : List ℕ → List ℕ → List ℕ → ℕ
undone [] rs ps = 0
undone (l ∷ ls) [] ps = 0
undone (l ∷ ls) (r ∷ rs) ps = (elim (one_class (bit_or l r) ps) [ true ↦ 0 | false ↦ 1 ]) + undone ls rs ps

undone_few : (ls rs ps : List ℕ) → undone ls rs ps ≤ length ls
unfolding undone
undone_few [] rs ps = le_refl 0
undone_few (l ∷ ls) [] ps = zero-le
undone_few (l ∷ ls) (r ∷ rs) ps = go (one_class (bit_or l r) ps) (undone_few ls rs ps)
  where
    go : (b : Bool) → undone ls rs ps ≤ length ls → (elim b [ true ↦ 0 | false ↦ 1 ]) + undone ls rs ps ≤ suc (length ls)
    go true h = omega arith
    go false h = omega arith

here : (b c : Bool) → (b ≡ true → c ≡ true) → (elim c [ true ↦ 0 | false ↦ 1 ]) ≤ (elim b [ true ↦ 0 | false ↦ 1 ])
here true c f = subst (λ (x : Bool). elim x [ true ↦ 0 | false ↦ 1 ] ≤ 0) (sym (f refl)) (le_refl 0)
here false true f = zero-le
here false false f = le_refl 1

undone_less : (ls rs ps qs : List ℕ) → Small ls → Small rs → Grown ps qs → undone ls rs qs ≤ undone ls rs ps
unfolding undone
undone_less [] rs ps qs a b g = le_refl 0
undone_less (l ∷ ls) [] ps qs a b g = le_refl 0
undone_less (l ∷ ls) (r ∷ rs) ps qs a b g =
    let h = here (one_class (bit_or l r) ps) (one_class (bit_or l r) qs) (g (bit_or l r) (or_lt 64 l r (a 0) (b 0))) in
    let t = undone_less ls rs ps qs (λ i. a (suc i)) (λ i. b (suc i)) g in
    omega arith

and_parts : (x y z w : Bool) → not x && not y && z && w ≡ true → (y ≡ false) × (z ≡ true) × (w ≡ true)
and_parts true y z w e = absurd (let k : ◌≡◌ {A = ℕ} 0 1 = cc in omega arith)
and_parts false true z w e = absurd (let k : ◌≡◌ {A = ℕ} 0 1 = cc in omega arith)
and_parts false false true true e = (refl, refl, refl)
and_parts false false true false e = absurd (let k : ◌≡◌ {A = ℕ} 0 1 = cc in omega arith)
and_parts false false false w e = absurd (let k : ◌≡◌ {A = ℕ} 0 1 = cc in omega arith)

merges_parts : (skip l r : ℕ) (ps : List ℕ) → merges skip l r ps ≡ true → (one_class (bit_or l r) ps ≡ false) × (one_class l ps ≡ true) × (one_class r ps ≡ true)
unfolding merges
merges_parts skip l r ps e = and_parts (eqb (bit_or l r) skip) (one_class (bit_or l r) ps) (one_class l ps) (one_class r ps) e

-- what an edge does to the classes
unfoldable after : ℕ → ℕ → ℕ → List ℕ → List ℕ
after skip l r ps = (elim (merges skip l r ps) [ true ↦ merge (bit_or l r) ps | false ↦ ps ])

step_grown : (skip l r : ℕ) (ps : List ℕ) → Grown ps (after skip l r ps)
unfolding after
step_grown skip l r ps u h e = go (merges skip l r ps)
  where
    go : (b : Bool) → one_class u (elim b [ true ↦ merge (bit_or l r) ps | false ↦ ps ]) ≡ true
    go true = keeps (bit_or l r) u ps h e
    go false = e

pub round_grown : (skip : ℕ) (ls rs ps : List ℕ) → Grown ps (round skip ls rs ps)
unfolding round after
round_grown skip [] rs ps u h e = e
round_grown skip (l ∷ ls) [] ps u h e = e
round_grown skip (l ∷ ls) (r ∷ rs) ps u h e = round_grown skip ls rs (after skip l r ps) u h (step_grown skip l r ps u h e)

-- a round changes nothing, or brings the sides of an edge together
round_cases : (skip : ℕ) (ls rs ps : List ℕ) → Small ls → Small rs → (round skip ls rs ps ≡ ps) ⊎ (undone ls rs (round skip ls rs ps) < undone ls rs ps)
unfolding round undone
round_cases skip [] rs ps a b = inl refl
round_cases skip (l ∷ ls) [] ps a b = inl refl
round_cases skip (l ∷ ls) (r ∷ rs) ps a b = go (merges skip l r ps) refl (round_cases skip ls rs ps (λ i. a (suc i)) (λ i. b (suc i)))
  where
    u : ℕ
    u = bit_or l r

    small_l : Small ls
    small_l i = a (suc i)

    small_r : Small rs
    small_r i = b (suc i)

    go : (m : Bool) → merges skip l r ps ≡ m → (round skip ls rs ps ≡ ps) ⊎ (undone ls rs (round skip ls rs ps) < undone ls rs ps)
        → (round skip ls rs (elim m [ true ↦ merge u ps | false ↦ ps ]) ≡ ps) ⊎ ((elim (one_class u (round skip ls rs (elim m [ true ↦ merge u ps | false ↦ ps ]))) [ true ↦ 0 | false ↦ 1 ]) + undone ls rs (round skip ls rs (elim m [ true ↦ merge u ps | false ↦ ps ])) < (elim (one_class u ps) [ true ↦ 0 | false ↦ 1 ]) + undone ls rs ps)
    go false e ih = elim ih [
      | inl q ↦ inl q
      | inr q ↦ inr (
          let h = here (one_class u ps) (one_class u (round skip ls rs ps)) (round_grown skip ls rs ps u (or_lt 64 l r (a 0) (b 0))) in
          omega arith)
    ]
    go true e ih =
        let w = merges_parts skip l r ps e in
        let qs = round skip ls rs (merge u ps) in
        let grown : Grown ps qs = λ v h o. round_grown skip ls rs (merge u ps) v h (keeps u v ps h o) in
        let in-q : one_class u qs ≡ true = round_grown skip ls rs (merge u ps) u (or_lt 64 l r (a 0) (b 0)) (joins l r ps (a 0) (b 0) w.1 w.2) in
        let t = undone_less ls rs ps qs small_l small_r grown in
        let x : ◌≡◌ {A = ℕ} (elim (one_class u qs) [ true ↦ 0 | false ↦ 1 ]) 0 = ap (λ (z : Bool). elim z [ true ↦ 0 | false ↦ 1 ]) in-q in
        let y : ◌≡◌ {A = ℕ} (elim (one_class u ps) [ true ↦ 0 | false ↦ 1 ]) 1 = ap (λ (z : Bool). elim z [ true ↦ 0 | false ↦ 1 ]) w.0 in
        inr (omega arith)

still : (k skip : ℕ) (ls rs ps : List ℕ) → round skip ls rs ps ≡ ps → rounds k skip ls rs ps ≡ ps
unfolding rounds
still zero skip ls rs ps e = refl
still (suc k) skip ls rs ps e = ap (rounds k skip ls rs) e ∙ still k skip ls rs ps e

fixed : (k skip : ℕ) (ls rs ps : List ℕ) → Small ls → Small rs → undone ls rs ps ≤ k → round skip ls rs (rounds k skip ls rs ps) ≡ rounds k skip ls rs ps
unfolding rounds
fixed zero skip ls rs ps a b h = elim (round_cases skip ls rs ps a b) [ inl e ↦ e | inr l ↦ absurd (omega arith) ]
fixed (suc k) skip ls rs ps a b h =
    elim (round_cases skip ls rs ps a b) [
      | inl e ↦ let z = still (suc k) skip ls rs ps e in ap (round skip ls rs) z ∙ e ∙ sym z
      | inr l ↦ fixed k skip ls rs (round skip ls rs ps) a b (omega arith)
    ]

-- after as many rounds as there are edges, another round changes nothing
pub settled : (skip : ℕ) (ls rs ps : List ℕ) → Small ls → Small rs
    → round skip ls rs (rounds (length ls) skip ls rs ps) ≡ rounds (length ls) skip ls rs ps
settled skip ls rs ps a b = fixed (length ls) skip ls rs ps a b (undone_few ls rs ps)

-- so any number of rounds from there on gives the same: going on until nothing changes is this number of rounds
pub settled_more : (k skip : ℕ) (ls rs ps : List ℕ) → Small ls → Small rs
    → rounds k skip ls rs (rounds (length ls) skip ls rs ps) ≡ rounds (length ls) skip ls rs ps
settled_more k skip ls rs ps a b = still k skip ls rs (rounds (length ls) skip ls rs ps) (settled skip ls rs ps a b)
