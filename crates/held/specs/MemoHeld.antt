-- The memo in two lists and the memo as a list of entries: lookup and replacement. Assumes nothing.
use Rattle.std.specs.Prelude.{◌≡◌, refl, List, [], ◌∷◌, ◌++◌, map, Bool, true, false, ℕ, suc, ◌+◌, ◌<◌, length, get_or, set, take, eqb}
use Rattle.std.proofs.Common.{sym, ap, ◌∙◌, arith, take_at, eqb-true}
use Rattle.std.specs.Prelude as prelude
use Rattle.std.specs.Prelude.{None, Some}
use Rattle.std.proofs.Math.Option.{Option, none, some}
use Rattle.std.proofs.lemmas.List.{length-map}
use Rattle.std.proofs.Math.ListN.{get_or-append}
use Rattle.definition.specs.Search.{Entry, find, replace}
use Rattle.nodeset.specs.declared.PlanId.{PlanId}
use Rattle.store.specs.Memo.{spot, kept_of, plan_id}

abbrev pub sets : List Entry → List ℕ
sets m = map (λ (e : Entry). e.set) m

abbrev pub plans : List Entry → List ℕ
plans m = map (λ (e : Entry). e.plan) m

-- s is at place j
pub record Seated (m : List Entry) (s j : ℕ) : Type 0 where
  pub inside : j < length m
  pub found : find m s ≡ some (get_or (plans m) j 0)
  pub has : get_or (sets m) j 0 ≡ s
  pub same_sets : (n : ℕ) → sets (replace m s n) ≡ sets m
  pub new_plans : (n : ℕ) → plans (replace m s n) ≡ set (plans m) j n

pub unseated : (i : ℕ) (m : List Entry) (s : ℕ) → spot i (sets m) s ≡ None → find m s ≡ none
unfolding spot find
unseated i [] s e = refl
unseated i (x ∷ m) s e = go (eqb x.set s) e (unseated (suc i) m s)
  where
    go : (b : Bool) → ◌≡◌ {A = prelude.Option ℕ} (elim b [ true ↦ Some i | false ↦ spot (suc i) (sets m) s ]) None
        → (spot (suc i) (sets m) s ≡ None → find m s ≡ none)
        → ◌≡◌ {A = Option ℕ} (elim b [ true ↦ some x.plan | false ↦ find m s ]) none
    go true e f = let z : ◌≡◌ {A = ℕ} 0 1 = cc in absurd (omega arith)
    go false e f = f e

pub seated : (i : ℕ) (m : List Entry) (s k : ℕ) → spot i (sets m) s ≡ Some k → (j : ℕ) × (k ≡ i + j) × Seated m s j
unfolding spot find replace
seated i [] s k e = let z : ◌≡◌ {A = ℕ} 0 1 = cc in absurd (omega arith)
seated i (x ∷ m) s k e = go (eqb x.set s) refl e (seated (suc i) m s k)
  where
    go : (b : Bool) → eqb x.set s ≡ b → ◌≡◌ {A = prelude.Option ℕ} (elim b [ true ↦ Some i | false ↦ spot (suc i) (sets m) s ]) (Some k)
        → (spot (suc i) (sets m) s ≡ Some k → (j : ℕ) × (k ≡ suc i + j) × Seated m s j) → (j : ℕ) × (k ≡ i + j) × Seated (x ∷ m) s j
    go true q e f =
        let z : i ≡ k = cc in
        let is : x.set ≡ s = eqb-true _ _ q in (
          0,
          omega arith,
          record {
            inside = omega arith;
            found = rw (q, find);
            has = is;
            same_sets = λ n. rw (q, replace) (ap (λ (y : ℕ). y ∷ sets m) (sym is));
            new_plans = λ n. rw (q, replace);
          },
        )
    go false q e f =
        let r = f e in (
          suc r.0,
          omega (arith, r.1),
          record {
            inside = omega (arith, r.2.inside);
            found = rw (q, find) r.2.found;
            has = r.2.has;
            same_sets = λ n. rw (q, replace) (ap (λ (t : List ℕ). x.set ∷ t) (r.2.same_sets n));
            new_plans = λ n. rw (q, replace) (ap (λ (t : List ℕ). x.plan ∷ t) (r.2.new_plans n));
          },
        )

abbrev pub to_kept : Option ℕ → prelude.Option PlanId
to_kept none = None
to_kept (some n) = Some (plan_id n)

pub spot_held : (m : List Entry) (r : List ℕ) (s : ℕ) → spot 0 (take (length m) (sets m ++ r)) s ≡ spot 0 (sets m) s
spot_held m r s = ap (λ (l : List ℕ). spot 0 l s) (take_at (sets m) r (length m) (length-map m (λ (e : Entry). e.set)))

-- the plan kept for s, in the lists and in the entries
pub plan_for_lem : (m : List Entry) (r t : List ℕ) (s : ℕ) → kept_of (plans m ++ t) (spot 0 (take (length m) (sets m ++ r)) s) ≡ to_kept (find m s)
plan_for_lem m r t s = ap (kept_of (plans m ++ t)) (spot_held m r s) ∙ go (spot 0 (sets m) s) refl
  where
    go : (f : prelude.Option ℕ) → spot 0 (sets m) s ≡ f → kept_of (plans m ++ t) f ≡ to_kept (find m s)
    go None q = sym (ap to_kept (unseated 0 m s q))
    go (Some k) q =
        let w = seated 0 m s k q in
        let z : k ≡ w.0 = omega (arith, w.1) in
        let lt : w.0 < length (plans m) = omega (arith, w.2.inside, length-map m (λ (e : Entry). e.plan)) in
        ap (λ (n : ℕ). Some (plan_id n)) (ap (λ (x : ℕ). get_or (plans m ++ t) x 0) z ∙ get_or-append (plans m) t 0 w.0 lt) ∙ sym (ap to_kept w.2.found)
