-- The leaves one by one, and the search from them: the lists hold the definition's search. Assumes nothing.
use Rattle.std.specs.Prelude.{◌≡◌, refl, ℕ, zero, suc, ◌+◌, ◌<◌, ◌≤◌, length, get_or, map, Result}
use Rattle.std.proofs.Math.Path.{sym, ap}
use Rattle.std.proofs.Common.{ap₂, ◌∙◌, add-one, arith, drop_of_length-le}
use mathlib.Core.List.{List, [], ◌∷◌}
use Rattle.std.proofs.Math.ListN.{drop}
use Rattle.nodeset.specs.Sets.{all_below}
use Rattle.cost.specs.declared.Leaf as declared
use Rattle.cost.specs.View.{leaf_of}
use Rattle.definition.specs.Cost.{Estimate, leaf_estimate}
use Rattle.definition.proofs.ListLaws.{length-tabulate}
use Rattle.definition.specs.Search.{Leaf, Input, start, search, find}
use Rattle.definition.proofs.StopLaws.{search_stop}
use Rattle.store.specs.declared.DPhyp.{DPhyp}
use Rattle.store.specs.Counts.{stop_with, stop_number}
use Rattle.candidate.specs.Store.{Given, Lists, Store, store, plan_for, leaf_written}
use Rattle.held.specs.Held.{input_for, holding}
use Rattle.held.specs.LeavesHeld.{leaves_written, leaves_held}
use Rattle.held.specs.StopHeld.{stop_known}
use Rattle.held.specs.MemoHeld.{plan_for_lem}
use Rattle.passes.specs.Passes.{Begun, both_passes}
use Rattle.passes.proofs.PassesHeld.{begins, passes_held}
use Rattle.definition.specs.LeafView.{leaf_at, leaves_from}
use Rattle.search.specs.View.{Ready, Ends, ending_number, chosen_of, ending_of}
use Rattle.search.specs.EndingLaws.{ending_is}
use Rattle.search.specs.declared.Unplanned.{Unplanned}
use Rattle.nodeset.specs.declared.PlanId.{PlanId}

pub leaves-length : (n : ℕ) (rows columns : List ℕ) → length (leaves_from n rows columns) ≡ n
unfolding leaves_from
leaves-length n rows columns = length-tabulate n (leaf_at rows columns)

module _ (ls : List Leaf) where
  -- the leaves from k on, written into h, give the whole
  abbrev pub Remaining : Lists → ℕ → Lists → Type 0
  Remaining whole k h = leaves_written k (drop k ls) h ≡ whole

  -- x: leaf k
  pub remaining_next : {whole : Lists} (h u : Lists) (k : ℕ) (x : Leaf) (e : Estimate) → Remaining whole k h → drop k ls ≡ x ∷ drop (suc k) ls
      → e ≡ leaf_estimate x.rows x.columns → u ≡ leaf_written h k e → Remaining whole (k + 1) u
  unfolding leaves_written
  remaining_next {whole} h u k x e r l d w =
      ap (λ (j : ℕ). leaves_written j (drop j ls) u) (add-one k)
      ∙ ap (leaves_written (suc k) (drop (suc k) ls)) (w ∙ ap (leaf_written h k) d)
      ∙ sym (ap (λ (s : List Leaf). leaves_written k s h) l) ∙ r

  pub remaining_end : {whole : Lists} (h : Lists) (k : ℕ) → Remaining whole k h → length ls ≤ k → h ≡ whole
  unfolding leaves_written
  remaining_end h k r b = sym (ap (λ (s : List Leaf). leaves_written k s h) (drop_of_length-le ls b)) ∙ r

-- leaf k of those that are lent
pub lent_leaf : (ls : List declared.Leaf) (k : ℕ) (d : declared.Leaf) → k < length ls
    → drop k (map leaf_of ls) ≡ leaf_of (get_or ls k d) ∷ drop (suc k) (map leaf_of ls)
lent_leaf [] k d h = absurd (omega arith)
lent_leaf (x ∷ ls) zero d h = refl
lent_leaf (x ∷ ls) (suc k) d h = lent_leaf ls k d (omega arith)

-- h: the lists as lent
module _ (g : Given) (h : Lists) (n : ℕ) (ready : Ready g h n) (ls : List Leaf) (many : length ls ≡ n) (limit : ℕ) where
  abbrev I : Input
  I = input_for g ls limit

  plans_fit : length ls ≤ g.plan_room
  plans_fit = omega (arith, ready.plans)

  memo_fits : length ls ≤ g.memo_room
  memo_fits = omega (arith, ready.memo)

  leaves_are : {u : Lists} → u ≡ leaves_written 0 ls h → u ≡ (holding h (start I)).held
  leaves_are {u} e = e ∙ ap (λ (s : Store). s.held) (leaves_held g h ready.room ls limit plans_fit memo_fits)

  -- with the leaves written, the lists are what both passes ask
  pub search_begins : {u : Lists} → u ≡ leaves_written 0 ls h → Begun g u n
  search_begins {u} e =
      rw (leaves_are e, ← many) (begins g ls limit h ready.room ready.sided plans_fit memo_fits (omega (arith, ready.leaves)))

  pub search_is : {u : Lists} {st : Store} → u ≡ leaves_written 0 ls h → st ≡ both_passes g limit n u → st ≡ holding h (search I)
  search_is {u} {st} eu es =
      es ∙ ap₂ (both_passes g limit) (sym many) (leaves_are eu) ∙ passes_held g ls limit h ready.room ready.sided plans_fit memo_fits

  -- the number of what stopped the search is the definition's
  pub stop_is : {u : Lists} {p : DPhyp} → store u p ≡ holding h (search I) → stop_number p.stop ≡ (search I).stop
  stop_is {u} {p} w = ap (λ (s : Store). stop_number s.at.stop) w ∙ stop_known (search I).stop (search_stop I ready.sided)

  -- the ending that the lists and counts left by the search give
  pub ends_is : {u : Lists} {p : DPhyp} {e : Result PlanId Unplanned} → store u p ≡ holding h (search I)
      → e ≡ ending_of p.stop (plan_for u p (all_below n)) → Ends I e
  ends_is {u} {p} {e} w d =
      let st = search I in
      let m = st.memo in
      let o = find m (all_below (length ls)) in
      let f : e ≡ ending_of (stop_with st.stop) _ =
      d ∙ ap (λ (s : Store). ending_of s.at.stop (plan_for s.held s.at (all_below n))) w
      ∙ ap (λ (k : ℕ). ending_of (stop_with st.stop) (plan_for (holding h st).held (holding h st).at (all_below k))) (sym many)
      ∙ ap (ending_of (stop_with st.stop)) (plan_for_lem m (drop (length m) h.mset) (drop (length m) h.mplan) (all_below (length ls))) in
      let q = ending_is st.stop o (search_stop I ready.sided) in
      (ap ending_number f ∙ q.0, ap chosen_of f ∙ q.1)
