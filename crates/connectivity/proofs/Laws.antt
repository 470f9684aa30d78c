-- Loops over the edges, against their definitions. Assumes nothing.
use mathlib.Core.Path.{◌≡◌, refl, sym, ap, ◌∙◌}
use mathlib.Core.Bool.{Bool, true, false, not, ◌&&◌}
use mathlib.Core.List.{List}
use Prim.Native.Nat.{ℕ, zero, suc, ◌+◌, ◌-◌, ◌≤◌, ◌<◌}
use native.Mathlib.Nat.{not-suc-le-zero}
use native.Mathlib.Numerals.{add-one}
use native.Mathlib.Omega.{arith}
use lib.ListN.{length, get_or, drop}
use lib.Seq.{drop-cons}
use Rattle.std.proofs.Common.{drop_of_length-le}
use lib.Bits.{bit_or, and_zero_l}
use lib.Dec.{eqb}
use Rattle.nodeset.specs.Sets.{lowest}
use borrow.Author.Tests.{eq-eqb, ne_eqb}
use Rattle.definition.specs.Connected.{own_classes, one_class, merge, merges, round, rounds, connected}

-- ---- round: one edge more, which merges or not
module _ (skip : ℕ) (ls rs : List ℕ) (i : ℕ) (a : i < length ls) (b : i < length rs) (ps qs : List ℕ) where
  pub round_one : {x y : ℕ} (m : Bool) → x ≡ get_or ls i 0 → y ≡ get_or rs i 0 → merges skip x y ps ≡ m
      → qs ≡ elim m [ true ↦ merge (bit_or x y) ps | false ↦ ps ]
      → round skip (drop (i + 1) ls) (drop (i + 1) rs) qs ≡ round skip (drop i ls) (drop i rs) ps
  unfolding round
  round_one {x} {y} m p q e f =
      rw (add-one, drop-cons ls i 0 a, drop-cons rs i 0 b, ← p, ← q)
      (ap (round skip (drop (suc i) ls) (drop (suc i) rs)) (f ∙ ap (λ (t : Bool). elim t [ true ↦ merge (bit_or x y) ps | false ↦ ps ]) (sym e)))

pub round_done : (skip i : ℕ) (ls rs ps : List ℕ) → length ls ≤ i → round skip (drop i ls) (drop i rs) ps ≡ ps
unfolding round
round_done skip i ls rs ps h = rw (drop_of_length-le ls h)

-- ---- a round that changes nothing is the last that matters
pub rounds_still : (k skip : ℕ) (ls rs ps : List ℕ) → round skip ls rs ps ≡ ps → rounds k skip ls rs ps ≡ ps
unfolding rounds
rounds_still zero skip ls rs ps e = refl
rounds_still (suc k) skip ls rs ps e = ap (rounds k skip ls rs) e ∙ rounds_still k skip ls rs ps e

pub rounds_step : (k skip : ℕ) (ls rs ps : List ℕ) → 0 < k → rounds (k - 1) skip ls rs (round skip ls rs ps) ≡ rounds k skip ls rs ps
unfolding rounds
rounds_step zero skip ls rs ps h = absurd (not-suc-le-zero h)
rounds_step (suc k) skip ls rs ps h = let e : suc k - 1 ≡ k = omega arith in ap (λ (m : ℕ). rounds m skip ls rs (round skip ls rs ps)) e

-- ---- the empty set lies in one class
pub one_class_none : (s : ℕ) (ps : List ℕ) → s ≡ 0 → one_class s ps ≡ true
unfolding one_class
one_class_none s ps e = ap (λ (x : ℕ). one_class x ps) e ∙ eq-eqb _ 0 (and_zero_l (get_or ps (lowest 0) 0))

-- ---- connected
none : (x c : Bool) → x && false && c ≡ false
none true c = refl
none false c = refl

module _ (ls rs : List ℕ) (a b skip : ℕ) where
  pub connected_none : b ≡ 0 → connected ls rs a b skip ≡ false
  unfolding connected
  connected_none e =
      rw (eq-eqb b 0 e) (none (not (eqb a 0)) (one_class (bit_or a b) (rounds (length ls) skip ls rs (merge b (merge a own_classes)))))

  pub connected_by : {p q r t : List ℕ} → (a ≡ 0 → ⊥) → (b ≡ 0 → ⊥) → p ≡ own_classes → q ≡ merge a p → r ≡ merge b q → t ≡ rounds (length ls) skip ls rs r
      → one_class (bit_or a b) t ≡ connected ls rs a b skip
  unfolding connected
  connected_by {p} {q} {r} {t} na nb ep eq er et =
      rw (ne_eqb a 0 na, ne_eqb b 0 nb)
      (ap (one_class (bit_or a b)) (et ∙ ap (rounds (length ls) skip ls rs) (er ∙ ap (merge b) (eq ∙ ap (merge a) ep))))
