-- Laws of the second pass on any lists: one step, and those that are left. Assumes nothing.
use Rattle.std.specs.Prelude.{◌≡◌, Bool, true, false, ℕ, suc, ◌+◌, ◌-◌, ◌<◌, ◌≤◌, eqb, get_or, None, Some}
use Rattle.std.proofs.Math.Option as math
use Rattle.std.proofs.Math.Option.{none, some}
use Rattle.std.proofs.Common.{sym, ap, ◌∙◌, add-one, arith}
use Rattle.definition.specs.Cost.{Estimate}
use Rattle.definition.specs.Connection.{Connection, connection}
use Rattle.candidate.specs.declared.Candidate.{Candidate}
use Rattle.candidate.specs.declared.Place.{Place}
use Rattle.candidate.specs.Store.{Lists, Given, edges, place, written}
use Rattle.costing.specs.Steps.{Costs, costs, place_for, candidate_over, candidate_in, after, step_in, steps_in}

place_entries : (h : Lists) (m n u : ℕ) (e : Estimate) → (place_for h m n u e).entries ≤ m + 1
unfolding place_for
place_entries h m n u e = go (eqb u m) _
  where
    for : Bool → ℕ → Place
    for b k = elim b [ true ↦ place u n (m + 1) | false ↦ place u k m ]

    go : (b : Bool) (k : ℕ) → (for b k).entries ≤ m + 1
    go true k = omega arith
    go false k = omega arith

module _ (g : Given) where
  pub step_none : (h : Lists) (m n : ℕ) → None ≡ candidate_in g h m n → costs h m ≡ step_in g n (costs h m)
  unfolding step_in
  step_none h m n e = ap (after (costs h m) n) e

  pub step_some : (h h' : Lists) (m n : ℕ) (c : Candidate) → Some c ≡ candidate_in g h m n → h' ≡ written h n c
      → costs h' c.place.entries ≡ step_in g n (costs h m)
  unfolding step_in
  step_some h h' m n c e w = ap (λ (x : Lists). costs x c.place.entries) w ∙ ap (after (costs h m) n) e

  -- a step gives the memo at most one entry more
  pub step_entries : (h : Lists) (m n : ℕ) → (step_in g n (costs h m)).entries ≤ m + 1
  unfolding step_in candidate_over
  step_entries h m n = go (get_or h.plead n 0) _ _ _ (connection (edges g) g.kinds g.selectivity _ _ _)
    where
      go : (u s l r : ℕ) (o : math.Option Connection) → (after (costs h m) n (candidate_over h m n u s l r o)).entries ≤ m + 1
      go u s l r none = omega arith
      go u s l r (some c) = place_entries h m n u _

  -- one step, and those that are left
  pub steps_next : (n plans : ℕ) (c d : Costs) → n < plans → d ≡ step_in g n c → steps_in g (plans - (n + 1)) (n + 1) d ≡ steps_in g (plans - n) n c
  unfolding steps_in
  steps_next n plans c d l e = let q : plans - n ≡ suc (plans - (n + 1)) = omega arith in sym (rw (q, steps_in, ← e, add-one))

  pub steps_end : (n plans : ℕ) (c : Costs) → plans ≤ n → c ≡ steps_in g (plans - n) n c
  unfolding steps_in
  steps_end n plans c l = let q : plans - n ≡ 0 = omega arith in rw q
