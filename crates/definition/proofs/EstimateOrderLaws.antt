-- `cheaper` is a strict weak order, its negation is 'costs at least as much', and replacing where strictly cheaper keeps the earliest of
-- the least costly. Assumes nothing.
use Rattle.std.specs.Prelude.{◌≡◌, refl, ◌⊎◌, Bool, true, false, ℕ, zero, suc, ◌*◌, ◌<◌, Float}
use Rattle.std.proofs.Common.{sym, ap, ◌∙◌, subst, inl, inr, true≢false, le_refl, le_trans, le_of_lt, lt_of_not-le, not-le_of_lt, le_of_suc-le-suc, lt_trans, eq-or-lt_of_le, not-suc-le-zero, le_antisymm, lt-ltb, le-ltb, ltb-true, ltb-false}
use Rattle.std.proofs.Math.Option.{Option, none, some}
use Rattle.std.proofs.Math.Nat.{le-suc}
use Rattle.std.specs.Float.Ieee.{lt}
use Rattle.std.specs.Float.Ieee.Positive.{num, den, den_pos, through}
use Rattle.definition.proofs.FloatLaws.{lt_is}
use Rattle.definition.specs.Cost.{Estimate, cheaper}
use Rattle.definition.specs.EstimateOrder.{NonNegative, AtLeast, MoreThan, StrictWeakOrder, Earliest}

-- ---- the orders of numbers

pub at_least_trans : (x y z : Float) → AtLeast x y → AtLeast y z → AtLeast x z
at_least_trans x y z h k = through (num z) (num y) (num x) (den z) (den y) (den x) (den_pos y) k h

pub at_least_more_trans : (x y z : Float) → AtLeast x y → MoreThan y z → MoreThan x z
at_least_more_trans x y z h k = lt_of_not-le (λ g. not-le_of_lt k (at_least_trans z x y g h))

-- ---- the comparison of floats is that of numbers

module _ (x y : Float) (p : NonNegative x) (q : NonNegative y) where
  pub less→more : lt x y ≡ true → MoreThan y x
  less→more h = ltb-true (num x * den y) (num y * den x) (sym (lt_is x y p q) ∙ h)

  pub more→less : MoreThan y x → lt x y ≡ true
  more→less h = lt_is x y p q ∙ lt-ltb (num x * den y) (num y * den x) h

  pub not_less→at_least : lt x y ≡ false → AtLeast x y
  not_less→at_least h = ltb-false (num x * den y) (num y * den x) (sym (lt_is x y p q) ∙ h)

  pub at_least→not_less : AtLeast x y → lt x y ≡ false
  at_least→not_less h = lt_is x y p q ∙ le-ltb (num x * den y) (num y * den x) h

-- ---- `cheaper`, on estimates whose costs are finite and not negative

abbrev pub Costed : Estimate → Type 0
Costed e = NonNegative e.cost

module _ (new old : Estimate) (p : Costed new) (q : Costed old) where
  pub cheaper→costs_less : cheaper new old ≡ true → MoreThan old.cost new.cost
  cheaper→costs_less = less→more new.cost old.cost p q

  pub costs_less→cheaper : MoreThan old.cost new.cost → cheaper new old ≡ true
  costs_less→cheaper = more→less new.cost old.cost p q

  pub not_cheaper→at_least : cheaper new old ≡ false → AtLeast new.cost old.cost
  not_cheaper→at_least = not_less→at_least new.cost old.cost p q

  pub at_least→not_cheaper : AtLeast new.cost old.cost → cheaper new old ≡ false
  at_least→not_cheaper = at_least→not_less new.cost old.cost p q

not-cheaper_trans : (x y z : Estimate) → Costed x → Costed y → Costed z → cheaper x y ≡ false → cheaper y z ≡ false → cheaper x z ≡ false
not-cheaper_trans x y z p q r h k =
    at_least→not_cheaper x z p r
    (at_least_trans x.cost y.cost z.cost (not_cheaper→at_least x y p q h) (not_cheaper→at_least y z q r k))

pub cheaper_strict_weak : StrictWeakOrder Costed cheaper
cheaper_strict_weak =
    record {
      irreflexive = λ x p. at_least→not_cheaper x x p p (le_refl _);
      transitive = λ x y z p q r h k.
          costs_less→cheaper x z p r
          (at_least_more_trans z.cost y.cost x.cost (le_of_lt (cheaper→costs_less y z q r k)) (cheaper→costs_less x y p q h));
      incomparable = λ x y z p q r h h' k k'. (not-cheaper_trans x y z p q r h k, not-cheaper_trans z y x r q p k' h');
    }

-- ---- one candidate more, for any sequence of candidates and any selection

module _ (f : ℕ → Estimate) (selected : ℕ → Bool) where
  last : (n i : ℕ) → i < suc n → (i ≡ n) ⊎ (i < n)
  last n i h = eq-or-lt_of_le (le_of_suc-le-suc h)

  -- a fact of each selected one of the first n, and of the one more
  one_more : (n : ℕ) (P : ℕ → Type 0) → ((i : ℕ) → i < n → selected i ≡ true → P i) → (selected n ≡ true → P n)
      → (i : ℕ) → i < suc n → selected i ≡ true → P i
  one_more n P below here i h s = elim (last n i h) [
    | inl e ↦ subst P (sym e) (here (ap selected (sym e) ∙ s))
    | inr l ↦ below i l s
  ]

  pub earliest_skip : (n at : ℕ) → selected n ≡ false → Earliest f selected n at → Earliest f selected (suc n) at
  earliest_skip n at s b =
      record {
        within = le_trans b.within (le-suc n);
        chosen = b.chosen;
        least = one_more n (λ i. AtLeast (f i).cost (f at).cost) b.least (λ t. absurd (true≢false (sym t ∙ s)));
        earliest = b.earliest;
      }

  pub earliest_keep : (n at : ℕ) → AtLeast (f n).cost (f at).cost → Earliest f selected n at → Earliest f selected (suc n) at
  earliest_keep n at h b =
      record {
        within = le_trans b.within (le-suc n);
        chosen = b.chosen;
        least = one_more n (λ i. AtLeast (f i).cost (f at).cost) b.least (λ t. h);
        earliest = b.earliest;
      }

  -- the last is the earliest of the least costly where every one before it costs more
  pub earliest_last : (n : ℕ) → selected n ≡ true → ((i : ℕ) → i < n → selected i ≡ true → MoreThan (f i).cost (f n).cost) → Earliest f selected (suc n) n
  earliest_last n s more =
      record {
        within = le_refl (suc n);
        chosen = s;
        least = one_more n (λ i. AtLeast (f i).cost (f n).cost) (λ i h t. le_of_lt (more i h t)) (λ t. le_refl _);
        earliest = more;
      }

  pub earliest_replace : (n at : ℕ) → selected n ≡ true → MoreThan (f at).cost (f n).cost → Earliest f selected n at → Earliest f selected (suc n) n
  earliest_replace n at s h b = earliest_last n s (λ i l t. at_least_more_trans (f i).cost (f at).cost (f n).cost (b.least i l t) h)

  not_before : (n a b : ℕ) → Earliest f selected n a → Earliest f selected n b → a < b → ⊥
  not_before n a b p q h = not-le_of_lt (q.earliest a h p.chosen) (p.least b q.within q.chosen)

  -- there is one only
  pub earliest_unique : (n a b : ℕ) → Earliest f selected n a → Earliest f selected n b → a ≡ b
  earliest_unique n a b p q = le_antisymm (le_of_suc-le-suc (lt_of_not-le (not_before n b a q p))) (le_of_suc-le-suc (lt_of_not-le (not_before n a b p q)))

-- it depends on the first n alone
pub earliest_same : (f g : ℕ → Estimate) (s t : ℕ → Bool) (n at : ℕ) → ((i : ℕ) → i < n → f i ≡ g i) → ((i : ℕ) → i < n → s i ≡ t i)
    → Earliest f s n at → Earliest g t n at
earliest_same f g s t n at e d b =
    record {
      within = b.within;
      chosen = sym (d at b.within) ∙ b.chosen;
      least = λ i h c. rw (← e i h, ← e at b.within) (b.least i h (d i h ∙ c));
      earliest = λ i h c.
          let k : i < n = lt_trans h b.within in
          rw (← e i k, ← e at b.within) (b.earliest i h (d i k ∙ c));
    }

-- ---- the fold

-- "A trial replaces the memo's plan only if strictly cheaper." The first is kept as it comes; candidate n, over what was kept before it
abbrev kept_after : (ℕ → Estimate) → Option ℕ → ℕ → ℕ
kept_after candidate none n = n
kept_after candidate (some m) n = elim (cheaper (candidate n) (candidate m)) [ true ↦ n | false ↦ m ]

-- the candidate kept after the first n
unfoldable pub kept : (ℕ → Estimate) → (ℕ → Bool) → ℕ → Option ℕ
kept candidate selected zero = none
kept candidate selected (suc n) =
    elim (selected n) [ true ↦ some (kept_after candidate (kept candidate selected n) n) | false ↦ kept candidate selected n ]

-- what is kept is the earliest of the least costly; where nothing is, none is selected
abbrev pub KeepsEarliest : (ℕ → Estimate) → (ℕ → Bool) → ℕ → Option ℕ → Type 0
KeepsEarliest f selected n none = (i : ℕ) → i < n → selected i ≡ false
KeepsEarliest f selected n (some at) = Earliest f selected n at

pub kept_earliest : (f : ℕ → Estimate) (selected : ℕ → Bool) (n : ℕ) → ((i : ℕ) → i < n → Costed (f i)) → KeepsEarliest f selected n (kept f selected n)
unfolding kept
kept_earliest f selected zero good = λ i h. absurd (not-suc-le-zero h)
kept_earliest f selected (suc n) good = go (selected n) refl (kept f selected n) (kept_earliest f selected n (λ i h. good i (le_trans h (le-suc n))))
  where
    pick : (m : ℕ) (c : Bool) → selected n ≡ true → cheaper (f n) (f m) ≡ c → Earliest f selected n m → Earliest f selected (suc n) (elim c [ true ↦ n | false ↦ m ])
    pick m true s e b = earliest_replace f selected n m s (cheaper→costs_less (f n) (f m) (good n (le_refl (suc n))) (good m (le_trans b.within (le-suc n))) e) b
    pick m false s e b = earliest_keep f selected n m (not_cheaper→at_least (f n) (f m) (good n (le_refl (suc n))) (good m (le_trans b.within (le-suc n))) e) b

    go : (b : Bool) → selected n ≡ b → (o : Option ℕ) → KeepsEarliest f selected n o → KeepsEarliest f selected (suc n) (elim b [ true ↦ some (kept_after f o n) | false ↦ o ])
    go false s none k = λ i h. elim (eq-or-lt_of_le (le_of_suc-le-suc h)) [ inl e ↦ ap selected e ∙ s | inr l ↦ k i l ]
    go false s (some m) k = earliest_skip f selected n m s k
    go true s none k = earliest_last f selected n s (λ i l t. absurd (true≢false (sym t ∙ k i l)))
    go true s (some m) k = pick m (cheaper (f n) (f m)) s refl k
