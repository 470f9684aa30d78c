-- The depth given to the recursion never cuts the walk short: more of it changes nothing. Assumes nothing.
use Rattle.std.specs.Prelude.{◌≡◌, ◌⊎◌, Bool, ◌&&◌}
use Rattle.std.proofs.Math.Path.{refl, ap, subst}
use Rattle.std.proofs.Common.{sym, ap₂, ◌∙◌, inl, inr, eq-zero-or-pos, zero-add, lt_of_le_of_lt, lt_of_lt_of_le, lt_of_not-le, add-zero, add-suc, le_refl, arith, pow_mono}
use Prim.Native.Nat.{ℕ, zero, suc, ◌+◌, ◌-◌, ◌/◌, ◌%◌, ◌^◌, ◌<◌, ◌≤◌, min, max}
use Rattle.std.proofs.Math.Decide.{dec_le}
use Rattle.std.proofs.Math.Bool.{true, false}
use mathlib.Core.List.{List, [], ◌∷◌}
use Rattle.std.proofs.Math.Arith.{bin_ind}
use Rattle.std.proofs.Math.Pow.{pow_pos, pow-lt, ones_lt}
use Rattle.std.specs.Int.Bits.{bit_and, bit_or, or_step, or_lt, or_add_and}
use Rattle.std.proofs.lemmas.Nat.{and_le_r, ones-le}
use Rattle.std.specs.Int.Count.{ones, ones_step}
use Rattle.nodeset.specs.Sets.{bit, within, disjoint, singleton, lowest, all_below, up_to_lowest}
use Rattle.nodeset.specs.SetLaws.{bit-zero, bit-suc, bit_high, Lowest, lowest_of, singleton_is, all_below_is, Apart, In}
use Rattle.nodeset.specs.Subsets.{subsets_of, non_empty_subsets, singletons}
use Rattle.nodeset.specs.SubsetLaws.{All}
use Rattle.nodeset.proofs.SubsetLaws.{subsets_in, subsets_within}
use Rattle.nodeset.proofs.SingletonLaws.{singletons_in}
use Rattle.definition.specs.Hypergraph.{Edge, beyond, neighborhood}
use Rattle.definition.specs.Walk.{each, try_connected, enumerate_cmp_rec, emit_csg, emit_kept, enumerate_csg_rec, solve_from, solve}
use Rattle.definition.proofs.WalkLaws.{Sided, neighborhood_apart, neighborhood-set}

-- ---- how many leaves a set has

half_apart : (a b : ℕ) → Apart a b → Apart (a / 2) (b / 2)
half_apart a b h i = ap₂ min (sym (bit-suc a i)) (sym (bit-suc b i)) ∙ h (suc i)

pub ones_or : (a b : ℕ) → Apart a b → ones (bit_or a b) ≡ ones a + ones b
unfolding ones
ones_or =
    bin_ind (λ (a : ℕ). (b : ℕ) → Apart a b → ones (bit_or a b) ≡ ones a + ones b) (λ b h. sym (zero-add (ones b)))
    (λ a ih b h.
    let r = or_step a b in
    let low : bit_or a b % 2 ≡ max (a % 2) (b % 2) = omega (arith, r) in
    let high : bit_or a b / 2 ≡ bit_or (a / 2) (b / 2) = omega (arith, r) in
    let e : ones (bit_or a b) ≡ max (a % 2) (b % 2) + ones (bit_or (a / 2) (b / 2)) = ones_step (bit_or a b) ∙ ap₂ (λ (x y : ℕ). x + ones y) low high in
    let z : min (a % 2) (b % 2) ≡ 0 = ap₂ min (sym (bit-zero a)) (sym (bit-zero b)) ∙ h 0 in
    omega (arith, e, ih (b / 2) (half_apart a b h), ones_step a, ones_step b, z))

ones_zero : (a : ℕ) → ones a ≡ 0 → a ≡ 0
ones_zero = bin_ind (λ (a : ℕ). ones a ≡ 0 → a ≡ 0) (λ _. refl) (λ a ih e. omega (arith, ones_step a, ih (omega (arith, ones_step a))))

-- ---- all neighbours are among the first n leaves

pub record Below (n : ℕ) (e : Edge) : Type 0 where
  pub left : lowest e.left < n
  pub right : lowest e.right < n

module _ (n : ℕ) (few : n ≤ 64) where
  beyond-lt : (s x near far : ℕ) → lowest far < n → beyond s x near far < 2 ^ n
  unfolding beyond
  beyond-lt s x near far h = go (within near s && disjoint far s && disjoint far x)
    where
      go : (b : Bool) → elim b [ true ↦ singleton (lowest far) | false ↦ 0 ] < 2 ^ n
      go true = subst (λ (t : ℕ). t < 2 ^ n) (sym (singleton_is (lowest far) (omega arith))) (pow-lt h)
      go false = pow_pos n

  neighborhood-lt : (es : List Edge) → All (Below n) es → (s x : ℕ) → neighborhood es s x < 2 ^ n
  unfolding neighborhood
  neighborhood-lt [] w s x = pow_pos n
  neighborhood-lt (e ∷ es) w s x =
      or_lt n (bit_or (beyond s x e.left e.right) (beyond s x e.right e.left)) (neighborhood es s x)
      (or_lt n (beyond s x e.left e.right) (beyond s x e.right e.left) (beyond-lt s x e.left e.right w.0.right) (beyond-lt s x e.right e.left w.0.left))
      (neighborhood-lt es w.1 s x)

-- ---- loops with the same step, at the members of the list

each_same : {A S : Type 0} (Q : A → Type 0) (f g : A → S → S) → ((a : A) → Q a → (s : S) → f a s ≡ g a s) → (l : List A) → All Q l → (s : S) → each f l s ≡ each g l s
each_same Q f g h [] q s = refl
each_same Q f g h (a ∷ l) q s = ap (each f l) (h a q.0 s) ∙ each_same Q f g h l q.1 (g a s)

no_subsets : non_empty_subsets 0 ≡ []
unfolding non_empty_subsets subsets_of
no_subsets = refl

pub or_pos : (a b : ℕ) → 0 < a → 0 < bit_or a b
or_pos a b h = omega (arith, or_add_and a b, and_le_r a b)

module _ (es : List Edge) (n : ℕ) (few : n ≤ 64) (below : All (Below n) es) (sided : All Sided es)
    (S : Type 0) (kept : S → ℕ → Bool) (visit : S → S) (attempt : ℕ → ℕ → S → S) where
  nbr_lt : (s x : ℕ) → neighborhood es s x < 2 ^ n
  nbr_lt = neighborhood-lt n few es below

  -- no neighbour where x is full
  full : (s x : ℕ) → x < 2 ^ n → n ≤ ones x → neighborhood es s x ≡ 0
  full s x h f =
      let q = neighborhood es s x in
      ones_zero q (omega (arith, ones_or x q (neighborhood_apart es sided s x), ones-le n (bit_or x q) (or_lt n x q h (nbr_lt s x))))

  -- a level adds a leaf to x, where there is a level
  wider : (s x d : ℕ) → 0 < neighborhood es s x → n ≤ ones x + suc d → n ≤ ones (bit_or x (neighborhood es s x)) + d
  wider s x d p h =
      let q = neighborhood es s x in
      omega (arith, ones_or x q (neighborhood_apart es sided s x), some_leaf q p (eq-zero-or-pos (ones q)))
    where
      some_leaf : (q : ℕ) → 0 < q → (ones q ≡ 0) ⊎ (0 < ones q) → 0 < ones q
      some_leaf q p (inl z) = absurd (omega (arith, ones_zero q z))
      some_leaf q p (inr z) = z

  -- a recursion of two passes over the non-empty subsets of the neighbours, of which the second goes a level deeper
  module _ (F : ℕ → ℕ → ℕ → S → S) (first : ℕ → S → S) (F-zero : (s x : ℕ) (st : S) → F zero s x st ≡ st)
      (F-suc : (d s x : ℕ) (st : S) → F (suc d) s x st
      ≡ each (λ t u. F d (bit_or s t) (bit_or x (neighborhood es s x)) (visit u)) (non_empty_subsets (neighborhood es s x))
      (each (λ t u. first (bit_or s t) (visit u)) (non_empty_subsets (neighborhood es s x)) st)) where
    level_depth : (d s x : ℕ) (st : S) → x < 2 ^ n → n ≤ ones x + d → F (suc d) s x st ≡ F d s x st
    level_depth zero s x st h f =
        let none : non_empty_subsets (neighborhood es s x) ≡ [] = ap non_empty_subsets (full s x h (omega arith)) ∙ no_subsets in
        F-suc zero s x st
        ∙ ap (λ (ts : List ℕ). each (λ t u. F 0 (bit_or s t) (bit_or x (neighborhood es s x)) (visit u)) ts (each (λ t u. first (bit_or s t) (visit u)) ts st)) none
        ∙ sym (F-zero s x st)
    level_depth (suc d) s x st h f =
        let q = neighborhood es s x in
        F-suc (suc d) s x st
        ∙ levels (λ t u. F (suc d) (bit_or s t) (bit_or x q) (visit u)) (λ t u. F d (bit_or s t) (bit_or x q) (visit u)) (eq-zero-or-pos q)
        (λ p t u. level_depth d (bit_or s t) (bit_or x q) (visit u) (or_lt n x q h (nbr_lt s x)) (wider s x d p f))
        ∙ sym (F-suc d s x st)
      where
        levels : (f g : ℕ → S → S) → (neighborhood es s x ≡ 0) ⊎ (0 < neighborhood es s x) → (0 < neighborhood es s x → (t : ℕ) (u : S) → f t u ≡ g t u)
            → each f (non_empty_subsets (neighborhood es s x)) (each (λ t u. first (bit_or s t) (visit u)) (non_empty_subsets (neighborhood es s x)) st)
            ≡ each g (non_empty_subsets (neighborhood es s x)) (each (λ t u. first (bit_or s t) (visit u)) (non_empty_subsets (neighborhood es s x)) st)
        levels f g (inl z) k = let none : non_empty_subsets (neighborhood es s x) ≡ [] = ap non_empty_subsets z ∙ no_subsets in rw none
        levels f g (inr p) k =
            each_same (λ t. In t (neighborhood es s x)) f g (λ t m u. k p t u) (non_empty_subsets (neighborhood es s x)) (subsets_in (neighborhood es s x) (neighborhood-set es s x)) _

  abbrev cmp : ℕ → ℕ → ℕ → ℕ → S → S
  cmp = enumerate_cmp_rec es S kept visit attempt

  pub cmp_depth : (d s1 s2 x : ℕ) (st : S) → x < 2 ^ n → n ≤ ones x + d → cmp (suc d) s1 s2 x st ≡ cmp d s1 s2 x st
  unfolding enumerate_cmp_rec
  cmp_depth d s1 s2 x st h f =
      level_depth (λ k s y. cmp k s1 s y) (try_connected es S kept visit attempt s1) (λ s y u. refl) (λ k s y u. refl) d s2 x st h f

  -- a set of some of the first n leaves
  abbrev Some : ℕ → Type 0
  Some s = (0 < s) × (s < 2 ^ n)

  or_some : (s q t : ℕ) → Some s → q < 2 ^ n → bit_and t q ≡ t → Some (bit_or s t)
  or_some s q t p h m = (or_pos s t p.0, or_lt n s t p.1 (lt_of_le_of_lt (subst (λ (x : ℕ). x ≤ q) m (and_le_r t q)) h))

  low_lt : (s : ℕ) → Some s → lowest s < n
  low_lt s p = go (dec_le n (lowest s))
    where
      l : Lowest 64 s (lowest s)
      l = lowest_of s p.0 (lt_of_lt_of_le p.1 (pow_mono few))

      go : Dec (n ≤ lowest s) → lowest s < n
      go (yes h) = absurd (let z : bit s (lowest s) ≡ 0 = bit_high n s (lowest s) p.1 h in omega (arith, l.has))
      go (no h) = lt_of_not-le h

  up_lt : (s : ℕ) → Some s → up_to_lowest s < 2 ^ n
  unfolding up_to_lowest
  up_lt s p =
      let l = low_lt s p in
      subst (λ (x : ℕ). x < 2 ^ n) (sym (all_below_is (lowest s + 1) (omega arith))) (lt_of_lt_of_le (ones_lt (lowest s + 1)) (pow_mono (omega arith)))

  abbrev emit : ℕ → ℕ → S → S
  emit = emit_csg es S kept visit attempt

  emit_depth : (d s1 : ℕ) (st : S) → Some s1 → n ≤ d → emit (suc d) s1 st ≡ emit d s1 st
  unfolding emit_csg
  emit_depth d s1 st p h =
      let x = bit_or s1 (up_to_lowest s1) in
      let q = neighborhood es s1 x in
      each_same (λ v. In v q) _ _ (λ v m u. cmp_depth d s1 v x _ (or_lt n s1 (up_to_lowest s1) p.1 (up_lt s1 p)) (omega arith)) (singletons q) (singletons_in q) st

  abbrev csg : ℕ → ℕ → ℕ → ℕ → S → S
  csg = enumerate_csg_rec es S kept visit attempt

  csg_depth : (e d s1 x : ℕ) (st : S) → x < 2 ^ n → n ≤ ones x + d → csg e (suc d) s1 x st ≡ csg e d s1 x st
  unfolding enumerate_csg_rec
  csg_depth e d s1 x st h f = level_depth (csg e) (emit_kept es S kept visit attempt e) (λ s y u. refl) (λ k s y u. refl) d s1 x st h f

  kept_depth : (e c : ℕ) (st : S) → Some c → n ≤ e → emit_kept es S kept visit attempt (suc e) c st ≡ emit_kept es S kept visit attempt e c st
  kept_depth e c st p h = ap (λ (x : S). elim (kept st c) [ true ↦ x | false ↦ st ]) (emit_depth e c st p h)

  csg_cmp_depth : (e d s1 x : ℕ) (st : S) → Some s1 → n ≤ e → csg (suc e) d s1 x st ≡ csg e d s1 x st
  unfolding enumerate_csg_rec
  csg_cmp_depth e zero s1 x st p h = refl
  csg_cmp_depth e (suc d) s1 x st p h =
      let q = neighborhood es s1 x in
      let m = subsets_within q (neighborhood-set es s1 x) in
      ap (each (λ t u. csg (suc e) d (bit_or s1 t) (bit_or x q) (visit u)) (non_empty_subsets q))
      (each_same (λ t. bit_and t q ≡ t) _ _ (λ t w u. kept_depth e (bit_or s1 t) (visit u) (or_some s1 q t p (nbr_lt s1 x) w) h) (non_empty_subsets q) m st)
      ∙ each_same (λ t. bit_and t q ≡ t) _ _ (λ t w u. csg_cmp_depth e d (bit_or s1 t) (bit_or x q) (visit u) (or_some s1 q t p (nbr_lt s1 x) w) h) (non_empty_subsets q) m _

  -- one level more, in either recursion, from leaf v down
  from_depth : (d v : ℕ) (st : S) → v ≤ n → n ≤ d → solve_from es S kept visit attempt (suc d) v st ≡ solve_from es S kept visit attempt d v st
  unfolding solve_from
  from_depth d zero st l h = refl
  from_depth d (suc v) st l h =
      let s = singleton v in
      let x = all_below (suc v) in
      let is : s ≡ 2 ^ v = singleton_is v (omega arith) in
      let some : Some s = (subst (λ (y : ℕ). 0 < y) (sym is) (pow_pos v), subst (λ (y : ℕ). y < 2 ^ n) (sym is) (pow-lt l)) in
      let x_lt : x < 2 ^ n = subst (λ (y : ℕ). y < 2 ^ n) (sym (all_below_is (suc v) (omega arith))) (lt_of_lt_of_le (ones_lt (suc v)) (pow_mono l)) in
      ap (solve_from es S kept visit attempt (suc d) v)
      (csg_cmp_depth d (suc d) s x _ some h ∙ csg_depth d d s x _ x_lt (omega arith) ∙ ap (csg d d s x) (emit_depth d s st some h))
      ∙ from_depth d v _ (omega arith) h

  -- the search of n leaves, with any more depth than n
  pub solve_depth : (k : ℕ) (st : S) → solve_from es S kept visit attempt (n + k) n st ≡ solve es S kept visit attempt n st
  solve_depth zero st = ap (λ (d : ℕ). solve_from es S kept visit attempt d n st) (add-zero n)
  solve_depth (suc k) st = ap (λ (d : ℕ). solve_from es S kept visit attempt d n st) (add-suc n k) ∙ from_depth (n + k) n st (le_refl n) (omega arith) ∙ solve_depth k st
