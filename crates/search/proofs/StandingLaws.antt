-- Laws that stood before the structs, kept as they were; no proof needs them now. Assumes nothing.
use Rattle.std.specs.Prelude.{◌≡◌, ℕ, suc, ◌+◌, ◌<◌, ◌≤◌, get_or}
use Rattle.std.proofs.Math.Path.{sym, ap}
use Rattle.std.proofs.Common.{◌∙◌, le_antisymm, add-one}
use mathlib.Core.List.{List}
use Rattle.std.proofs.Math.ListN.{drop}
use Rattle.definition.specs.Cost.{Estimate, leaf_estimate}
use Rattle.definition.proofs.ListLaws.{tabulate-at, tabulate_end}
use Rattle.definition.specs.Search.{Leaf}
use Rattle.definition.specs.LeafView.{leaf_at, leaves_from}
use Rattle.candidate.specs.Store.{Lists, leaf_written}
use Rattle.held.specs.LeavesHeld.{leaves_written}

module _ (n : ℕ) (rows columns : List ℕ) where
  -- the leaves from k on, written into h, give the whole
  abbrev pub Remaining : Lists → ℕ → Lists → Type 0
  Remaining whole k h = leaves_written k (drop k (leaves_from n rows columns)) h ≡ whole

  pub remaining_next : {whole : Lists} (h u : Lists) (k : ℕ) (e : Estimate) → Remaining whole k h → k < n
      → e ≡ leaf_estimate (get_or rows k 0) (get_or columns k 0) → u ≡ leaf_written h k e → Remaining whole (k + 1) u
  unfolding leaves_from leaves_written
  remaining_next {whole} h u k e r l d w =
      ap (λ (j : ℕ). leaves_written j (drop j (leaves_from n rows columns)) u) (add-one k)
      ∙ ap (leaves_written (suc k) (drop (suc k) (leaves_from n rows columns))) (w ∙ ap (leaf_written h k) d)
      ∙ sym (ap (λ (ls : List Leaf). leaves_written k ls h) (tabulate-at n (leaf_at rows columns) k l)) ∙ r

  pub remaining_end : {whole : Lists} (h : Lists) (k : ℕ) → Remaining whole k h → k ≤ n → n ≤ k → h ≡ whole
  unfolding leaves_from leaves_written
  remaining_end h k r a b =
      sym (ap (λ (ls : List Leaf). leaves_written k ls h)
      (ap (λ (j : ℕ). drop j (leaves_from n rows columns)) (le_antisymm a b) ∙ tabulate_end n (leaf_at rows columns))) ∙ r
