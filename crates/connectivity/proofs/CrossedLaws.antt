-- Where no edge crosses s, each class lies in s or outside it: so s is connected with nothing outside. Assumes nothing.
use Rattle.std.specs.Prelude.{◌≡◌, refl, ◌⊎◌, Bool, true, false, not, List, [], ◌∷◌, ℕ, zero, suc, ◌^◌, ◌≤◌, ◌<◌, ◌≢◌, min, length, get_or}
use Rattle.std.proofs.Common.{sym, ◌∙◌, subst, inl, inr, arith, ne_eqb, eqb-true, lt_of_le_of_lt, pow_pos, pow-suc}
use Rattle.std.proofs.lemmas.Bool.{eqb-false, cases_lt, and_cases, or_parts}
use Rattle.std.proofs.lemmas.List.{get_or_past}
use Rattle.std.specs.Int.Bits.{bit_and, bit_or, and_self}
use Rattle.std.proofs.lemmas.Nat.{and_le_l}
use Rattle.nodeset.specs.Sets.{bit, within, disjoint, singleton, lowest}
use Rattle.nodeset.specs.SetLaws.{In, Apart, bit-lt, bit_empty, bit-and, bit-or, bit_one, bit_one_cases, ext, disjoint_apart, singleton_is}
use Rattle.definition.proofs.ListLaws.{get_d_tabulate, length-tabulate}
use Rattle.definition.proofs.Settled.{sub_of, sub-or_l, sub-or_r, or-sub, get_or-merge}
use Rattle.definition.specs.Connected.{own_classes, one_class, met, merge, merges, round, rounds, connected}
use Rattle.connectivity.specs.Crossed.{crosses, is_crossed}

-- ---- sets with no leaf in common
below_pow : (n : ℕ) → n < 2 ^ n
below_pow zero = pow_pos 0
below_pow (suc n) = omega (arith, pow-suc 2 n, below_pow n)

apart_none : (a b : ℕ) → Apart a b → bit_and a b ≡ 0
apart_none a b w =
    ext a (bit_and a b) 0 (lt_of_le_of_lt (and_le_l a b) (below_pow a)) (pow_pos a) (λ i l. bit-and a b i ∙ w i ∙ sym (bit_empty i))

apart_or : (a b s : ℕ) → Apart a s → Apart b s → Apart (bit_or a b) s
apart_or a b s p q i = omega (arith, p i, q i, bit-or a b i)

-- a set that is in s and has no leaf of it is empty
in_apart : (a s : ℕ) → In a s → Apart a s → a ≡ 0
in_apart a s w p = sym (and_self a) ∙ apart_none a a (λ i. omega (arith, w i, p i))

-- ---- what holds of each class that meets x, and of unions, holds of met
module _ (P : ℕ → Type 0) (or : (a b : ℕ) → P a → P b → P (bit_or a b)) (x : ℕ) where
  pub met_all : (t : ℕ) (ps : List ℕ) → P t → ((i : ℕ) → disjoint (get_or ps i 0) x ≡ false → P (get_or ps i 0)) → P (met x t ps)
  unfolding met
  met_all t [] h f = h
  met_all t (p ∷ ps) h f = met_all (elim (disjoint p x) [ true ↦ t | false ↦ bit_or t p ]) ps (step (disjoint p x) refl) (λ i. f (suc i))
    where
      step : (b : Bool) → disjoint p x ≡ b → P (elim b [ true ↦ t | false ↦ bit_or t p ])
      step true e = h
      step false e = or t p h (f 0 e)

-- ---- p lies in s or outside it
abbrev Sided : ℕ → ℕ → Type 0
Sided s p = In p s ⊎ Apart p s

module _ (s : ℕ) where
  empty_in : In 0 s
  empty_in i = omega (arith, bit_empty i)

  empty_apart : Apart 0 s
  empty_apart i = omega (arith, bit_empty i)

  one_sided : (i : ℕ) → Sided s (2 ^ i)
  one_sided i = go (bit s i) refl (bit-lt s i)
    where
      go : (b : ℕ) → bit s i ≡ b → b < 2 → Sided s (2 ^ i)
      go zero e h =
          inr (λ j. elim (bit_one_cases i j) [ inl z ↦ omega (arith, z) | inr q ↦ subst (λ (k : ℕ). min (bit (2 ^ i) k) (bit s k) ≡ 0) q (omega (arith, e)) ])
      go (suc b) e h =
          inl (λ j. elim (bit_one_cases i j) [ inl z ↦ omega (arith, z) | inr q ↦ subst (λ (k : ℕ). bit (2 ^ i) k ≤ bit s k) q (omega (arith, e, bit_one i)) ])

  -- every class does
  abbrev AllSided : List ℕ → Type 0
  AllSided ps = (i : ℕ) → Sided s (get_or ps i 0)

  own_sided : AllSided own_classes
  own_sided i = elim (cases_lt i 64) [
    | inl h ↦ subst (Sided s) (sym (get_d_tabulate 64 singleton i 0 h ∙ singleton_is i h)) (one_sided i)
    | inr h ↦ subst (Sided s) (sym (get_or_past own_classes i 0 (omega (arith, length-tabulate 64 singleton)))) (inl empty_in)
  ]

  -- a class that meets x lies on x's side
  merge_sided : (x : ℕ) (ps : List ℕ) → Sided s x → AllSided ps → AllSided (merge x ps)
  merge_sided x ps h a i = subst (Sided s) (sym (get_or-merge x ps i)) (go (disjoint (get_or ps i 0) x) h)
    where
      not_none : (p : ℕ) → disjoint p x ≡ false → Apart p x → ⊥
      not_none p m w = eqb-false (bit_and p x) 0 m (apart_none p x w)

      go : (b : Bool) → Sided s x → Sided s (elim b [ true ↦ get_or ps i 0 | false ↦ met x 0 ps ])
      go true w = a i
      go false (inl w) =
          inl (met_all (λ p. In p s) (λ p q. or-sub p q s) x 0 ps empty_in (λ k m. elim (a k) [
            | inl n ↦ n
            | inr n ↦ absurd (not_none (get_or ps k 0) m (λ j. omega (arith, w j, n j)))
          ]))
      go false (inr w) =
          inr (met_all (λ p. Apart p s) (λ p q. apart_or p q s) x 0 ps empty_apart (λ k m. elim (a k) [
            | inl n ↦ absurd (not_none (get_or ps k 0) m (λ j. omega (arith, w j, n j)))
            | inr n ↦ n
          ]))

  yes : (b : Bool) → not b ≡ false → b ≡ true
  yes true e = refl
  yes false e = sym e

  edge_sided : (u : ℕ) → crosses s u ≡ false → Sided s u
  edge_sided u e = elim (and_cases (not (disjoint u s)) (not (within u s)) e) [
    | inl d ↦ inr (disjoint_apart u s (eqb-true (bit_and u s) 0 (yes (disjoint u s) d)))
    | inr d ↦ inl (sub_of u s (yes (within u s) d))
  ]

  round_sided : (skip : ℕ) (ls rs ps : List ℕ) → is_crossed s ls rs ≡ false → AllSided ps → AllSided (round skip ls rs ps)
  unfolding round
  round_sided skip [] rs ps n a = a
  round_sided skip (l ∷ ls) [] ps n a = a
  round_sided skip (l ∷ ls) (r ∷ rs) ps n a =
      let w = or_parts (crosses s (bit_or l r)) (is_crossed s ls rs) n in
      round_sided skip ls rs (elim (merges skip l r ps) [ true ↦ merge (bit_or l r) ps | false ↦ ps ]) w.1
      (go (merges skip l r ps) (edge_sided (bit_or l r) w.0))
    where
      go : (b : Bool) → Sided s (bit_or l r) → AllSided (elim b [ true ↦ merge (bit_or l r) ps | false ↦ ps ])
      go true h = merge_sided (bit_or l r) ps h a
      go false h = a

  rounds_sided : (k skip : ℕ) (ls rs ps : List ℕ) → is_crossed s ls rs ≡ false → AllSided ps → AllSided (rounds k skip ls rs ps)
  unfolding rounds
  rounds_sided zero skip ls rs ps n a = a
  rounds_sided (suc k) skip ls rs ps n a = rounds_sided k skip ls rs (round skip ls rs ps) n (round_sided skip ls rs ps n a)

  -- so none has both s and leaves outside it
  two_classes : (a : ℕ) (ps : List ℕ) → Apart a s → (a ≢ 0) → (s ≢ 0) → AllSided ps → one_class (bit_or a s) ps ≡ false
  unfolding one_class
  two_classes a ps w na ns h = go (within (bit_or a s) p) refl
    where
      p : ℕ
      p = get_or ps (lowest (bit_or a s)) 0

      go : (b : Bool) → within (bit_or a s) p ≡ b → b ≡ false
      go false e = refl
      go true e =
          let both = sub_of (bit_or a s) p e in
          absurd (elim (h (lowest (bit_or a s))) [
            | inl k ↦ na (in_apart a s (λ i. omega (arith, both i, sub-or_l a s i, k i)) w)
            | inr k ↦ ns (in_apart s s (λ i. omega arith) (λ i. omega (arith, both i, sub-or_r a s i, k i)))
          ])

-- a has no leaf of b, and no edge crosses b
pub not_crossed : (ls rs : List ℕ) (a b skip : ℕ) → (a ≢ 0) → (b ≢ 0) → disjoint a b ≡ true → is_crossed b ls rs ≡ false → connected ls rs a b skip ≡ false
unfolding connected
not_crossed ls rs a b skip na nb d n =
    let w = disjoint_apart a b (eqb-true (bit_and a b) 0 d) in
    rw (ne_eqb a 0 na, ne_eqb b 0 nb)
    (two_classes b a (rounds (length ls) skip ls rs (merge b (merge a own_classes))) w na nb
    (rounds_sided b (length ls) skip ls rs (merge b (merge a own_classes)) n
    (merge_sided b b (merge a own_classes) (inl (λ i. omega arith)) (merge_sided b a own_classes (inr w) (own_sided b)))))
