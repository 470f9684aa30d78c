-- The leaves of a set highest first: the highest, then those of the rest. Assumes nothing.
use Rattle.std.specs.Prelude.{◌≡◌, ℕ, zero, suc, ◌-◌, ◌^◌, ◌<◌, ◌≤◌, min, ◌⊎◌, List, [], ◌∷◌, ◌≢◌, refl}
use Rattle.std.proofs.Common.{sym, ap₂, ◌∙◌, subst, inl, inr, le_refl, le_trans, lt_irrefl, le_of_suc-le-suc, eq-or-lt_of_le, not-suc-le-zero, arith, pow_pos}
use Rattle.std.proofs.Math.Path.{ap}
use Rattle.std.proofs.Math.Nat.{le-suc, min-zero, min-eq_left, zero-min}
use Rattle.std.proofs.Math.Pow.{pow-lt}
use Rattle.nodeset.specs.Sets.{bit, difference, singleton, highest}
use Rattle.nodeset.specs.Subsets.{singletons_below, singletons}
use Rattle.nodeset.specs.SetLaws.{bit-lt, bit-and, bit_not, bit_one, bit_one_other, bit_one_cases, bit_empty, Highest, highest_of, singleton_is, remove_is, In}
use Rattle.nodeset.specs.SubsetLaws.{All}

same : (k v w : ℕ) → ((j : ℕ) → j < k → bit v j ≡ bit w j) → singletons_below k v ≡ singletons_below k w
unfolding singletons_below
same zero v w f = refl
same (suc k) v w f =
    ap₂ (λ (b : ℕ) (l : List ℕ). elim b [ zero ↦ l | suc _ ↦ 2 ^ k ∷ l ]) (f k (le_refl (suc k))) (same k v w (λ j h. f j (le_trans h (le-suc k))))

-- past the highest leaf there is none
skip : (k i v : ℕ) → i < k → ((j : ℕ) → i < j → bit v j ≡ 0) → singletons_below k v ≡ singletons_below (suc i) v
unfolding singletons_below
skip zero i v h f = absurd (not-suc-le-zero h)
skip (suc k) i v h f =
    elim (eq-or-lt_of_le (le_of_suc-le-suc h)) [
      | inl e ↦ ap (λ (x : ℕ). singletons_below (suc x) v) (sym e)
      | inr l ↦ ap (λ (b : ℕ). elim b [ zero ↦ singletons_below k v | suc _ ↦ 2 ^ k ∷ singletons_below k v ]) (f k l) ∙ skip k i v l f
    ]

-- the leaf i taken away
bit_removed : (v i j : ℕ) → i < 64 → j < 64 → (i ≢ j) → bit (difference v (2 ^ i)) j ≡ bit v j
bit_removed v i j h l f =
    bit-and v (2 ^ 64 - 1 - 2 ^ i) j ∙ ap (λ (x : ℕ). min (bit v j) x) (bit_not 64 (2 ^ i) j (pow-lt h) l ∙ ap (λ (x : ℕ). 1 - x) (bit_one_other i j f))
    ∙ min-eq_left (le_of_suc-le-suc (bit-lt v j))

bit_gone : (v i : ℕ) → i < 64 → bit (difference v (2 ^ i)) i ≡ 0
bit_gone v i h =
    bit-and v (2 ^ 64 - 1 - 2 ^ i) i
    ∙ ap (λ (x : ℕ). min (bit v i) x) (bit_not 64 (2 ^ i) i (pow-lt h) h ∙ ap (λ (x : ℕ). 1 - x) (bit_one i)) ∙ min-zero (bit v i)

below_step : (v i : ℕ) → Highest 64 v i → singletons_below 64 v ≡ 2 ^ i ∷ singletons_below 64 (difference v (2 ^ i))
unfolding singletons_below
below_step v i h =
    let w = difference v (2 ^ i) in
    let in-k = h.inside in
    skip 64 i v in-k h.most
    ∙ ap (λ (b : ℕ). elim b [ zero ↦ singletons_below i v | suc _ ↦ 2 ^ i ∷ singletons_below i v ]) h.has
    ∙ ap (λ (l : List ℕ). 2 ^ i ∷ l)
    (same i v w (λ j l. sym (bit_removed v i j in-k (omega arith) (λ e. lt_irrefl j (subst (λ (x : ℕ). j < x) e l))))
    ∙ sym (ap (λ (b : ℕ). elim b [ zero ↦ singletons_below i w | suc _ ↦ 2 ^ i ∷ singletons_below i w ]) (bit_gone v i in-k))
    ∙ sym (skip 64 i w in-k
    (λ j l. bit-and v (2 ^ 64 - 1 - 2 ^ i) j ∙ ap (λ (x : ℕ). min x (bit (2 ^ 64 - 1 - 2 ^ i) j)) (h.most j l) ∙ zero-min (bit (2 ^ 64 - 1 - 2 ^ i) j))))

module _ (v : ℕ) (p : 0 < v) (h : v < 2 ^ 64) where
  -- the highest leaf comes first, and those of the rest follow
  pub singletons_step : singletons v ≡ singleton (highest v) ∷ singletons (difference v (singleton (highest v)))
  unfolding singletons
  singletons_step =
      let t = highest_of v p h in
      below_step v (highest v) t
      ∙ ap (λ (x : ℕ). x ∷ singletons_below 64 (difference v x)) (sym (singleton_is (highest v) t.inside))

  -- what is left is a smaller number
  pub rest_less : difference v (singleton (highest v)) < v
  rest_less =
      let t = highest_of v p h in
      let e = remove_is 64 v (highest v) h t.inside t.has in
      let q = pow_pos (highest v) in
      let k : difference v (singleton (highest v)) ≡ difference v (2 ^ highest v) = ap (difference v) (singleton_is (highest v) t.inside) in
      omega arith

none_below : (k : ℕ) → singletons_below k 0 ≡ []
unfolding singletons_below
none_below zero = refl
none_below (suc k) = ap (λ (b : ℕ). elim b [ zero ↦ singletons_below k 0 | suc _ ↦ 2 ^ k ∷ singletons_below k 0 ]) (bit_empty k) ∙ none_below k

pub singletons_none : singletons 0 ≡ []
unfolding singletons
singletons_none = none_below 64

-- every one of them is a leaf of the set
below_in : (k v : ℕ) → All (λ (t : ℕ). In t v) (singletons_below k v)
unfolding singletons_below
below_in zero v = tt
below_in (suc k) v = go (bit v k) refl (below_in k v)
  where
    go : (b : ℕ) → bit v k ≡ b → All (λ (t : ℕ). In t v) (singletons_below k v)
        → All (λ (t : ℕ). In t v) (elim b [ zero ↦ singletons_below k v | suc _ ↦ 2 ^ k ∷ singletons_below k v ])
    go zero e a = a
    go (suc b) e a = ((λ j. one j (bit_one_cases k j)), a)
      where
        one : (j : ℕ) → (bit (2 ^ k) j ≡ 0) ⊎ (k ≡ j) → bit (2 ^ k) j ≤ bit v j
        one j (inl z) = omega arith
        one j (inr z) = subst (λ (x : ℕ). bit (2 ^ k) x ≤ bit v x) z (omega (arith, bit_one k))

pub singletons_in : (v : ℕ) → All (λ (t : ℕ). In t v) (singletons v)
unfolding singletons
singletons_in v = below_in 64 v
