-- The search's loops, over any state that, once it has stopped, nothing changes: over the sets that an iterator has left, and over the leaves of
-- the question. Each loop is left early when stopped. The invariant says what is left to do from here. Assumes nothing.
use Rattle.std.specs.Prelude.{◌≡◌, refl, ℕ, zero, suc, ◌-◌, ◌≤◌, Bool, true, false, List, [], ◌∷◌}
use Rattle.std.proofs.Common.{sym, ap, ◌∙◌, arith}
use Rattle.nodeset.specs.Sets.{singleton, all_below}
use Rattle.definition.specs.Walk.{each}
use Rattle.stepping.specs.Next.{count_after}

module _ {S : Type 0} (stop : S → Bool) where
  abbrev pub Frozen : (S → S) → Type 0
  Frozen f = (st : S) → stop st ≡ true → f st ≡ st

  pub each_frozen : (f : ℕ → S → S) → ((t : ℕ) → Frozen (f t)) → (ts : List ℕ) → Frozen (each f ts)
  each_frozen f z [] st h = refl
  each_frozen f z (t ∷ ts) st h = ap (each f ts) (z t st h) ∙ each_frozen f z ts st h

-- ---- a loop over a list of sets

-- f, which changes nothing once it is stopped, over the sets ts that are left, gives the whole from the state st
pub record Loop {S : Type 0} (stop : S → Bool) (f : ℕ → S → S) (whole : S) (ts : List ℕ) (st : S) : Type 0 where
  pub frozen : (t : ℕ) → Frozen stop (f t)
  pub does : each f ts st ≡ whole

module _ {S : Type 0} {stop : S → Bool} {f : ℕ → S → S} where
  -- all: what the iterator begins with
  pub loop_start : ((t : ℕ) → Frozen stop (f t)) → {ts all : List ℕ} {st whole : S} → ts ≡ all → each f all st ≡ whole → Loop stop f whole ts st
  loop_start z {ts} {all} {st} e w = record { frozen = z; does = ap (λ l. each f l st) e ∙ w }

  module _ {whole : S} {ts : List ℕ} {st : S} (l : Loop stop f whole ts st) where
    -- t is taken off the list, and u is the state after it
    pub loop_next : {t : ℕ} {more : List ℕ} {u : S} → ts ≡ t ∷ more → u ≡ f t st → Loop stop f whole more u
    loop_next {t} {more} e d = record { frozen = l.frozen; does = ap (each f more) d ∙ ap (λ r. each f r st) (sym e) ∙ l.does }

    pub loop_end : ts ≡ [] → st ≡ whole
    loop_end e = ap (λ r. each f r st) (sym e) ∙ l.does

    pub loop_stopped : true ≡ stop st → st ≡ whole
    loop_stopped e = sym (each_frozen stop f l.frozen ts st (sym e)) ∙ l.does

-- ---- the leaves of the question: `from k` does the first k

pub count_go : (j : ℕ) (stop : Bool) → stop ≡ false → j ≡ count_after j stop
unfolding count_after
count_go j stop h = rw h

pub count_stop : (j : ℕ) (stop : Bool) → stop ≡ true → 0 ≡ count_after j stop
unfolding count_after
count_stop j stop h = rw h

pub count_le : (j : ℕ) (stop : Bool) → count_after j stop ≤ j
unfolding count_after
count_le j true = omega arith
count_le j false = omega arith

module _ {S : Type 0} (stop : S → Bool) (leaf : ℕ → ℕ → S → S) (from : ℕ → S → S) (frozen : (k : ℕ) → Frozen stop (from k))
    (from_zero : (st : S) → from 0 st ≡ st)
    (from_suc : (v : ℕ) (st : S) → from (suc v) st ≡ from v (leaf (singleton v) (all_below (suc v)) st)) where
  pub count_next : {whole st : S} (u : S) (k a x k' : ℕ) → from k st ≡ whole → (k ≡ 0 → ⊥) → a ≡ singleton (k - 1) → x ≡ all_below k → u ≡ leaf a x st
      → k' ≡ count_after (k - 1) (stop u) → from k' u ≡ whole
  count_next {whole} {st} u zero a x k' w p ea ex eu ek = absurd (p refl)
  count_next {whole} {st} u (suc k) a x k' w p ea ex eu ek = ap (λ (z : ℕ). from z u) ek ∙ go (stop u) refl
    where
      less : suc k - 1 ≡ k
      less = omega arith

      rest : from (suc k - 1) u ≡ whole
      rest =
          ap (λ (z : ℕ). from z u) less
          ∙ ap (from k) (eu ∙ ap (λ (z : ℕ). leaf z x st) (ea ∙ ap singleton less) ∙ ap (λ (z : ℕ). leaf (singleton k) z st) ex)
          ∙ sym (from_suc k st)
          ∙ w

      go : (b : Bool) → stop u ≡ b → from (count_after (suc k - 1) (stop u)) u ≡ whole
      go false q = ap (λ (z : ℕ). from z u) (sym (count_go (suc k - 1) (stop u) q)) ∙ rest
      go true q =
          ap (λ (z : ℕ). from z u) (sym (count_stop (suc k - 1) (stop u) q))
          ∙ from_zero u
          ∙ sym (frozen (suc k - 1) u q)
          ∙ rest

  pub count_end : {whole st : S} {k : ℕ} → from k st ≡ whole → k ≡ 0 → st ≡ whole
  count_end {whole} {st} {k} w e = sym (from_zero st) ∙ ap (λ (z : ℕ). from z st) (sym e) ∙ w
