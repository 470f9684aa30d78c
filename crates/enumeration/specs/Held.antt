-- The lent lists hold what the definition's enumeration has listed. Definitions only.
use Rattle.std.specs.Prelude.{◌≡◌, ◌≤◌, ◌+◌, ◌++◌, List, ℕ, length, take, drop}
use Rattle.definition.specs.Lists.{column}
use Rattle.definition.specs.Search.{Input}
use Rattle.definition.specs.TwoPasses.{Positions, Enumeration}
use Rattle.store.specs.Counts.{counts, stop_with}
use Rattle.enumeration.specs.declared.Bounds.{Bounds}
use Rattle.enumeration.specs.Store.{Lists, Store, lists, store}

-- a list of the plan store: the first n places are the leaves' own, and f of each candidate follows
abbrev pub behind : ℕ → (Positions → ℕ) → List Positions → List ℕ → List ℕ
behind n f ts h = take n h ++ column f ts (drop n h)

-- the lists lent as h, with n leaves, holding t
abbrev pub holding : Lists → ℕ → Enumeration → Store
holding h n t =
    let ts = t.candidates in
    store
    (lists (behind n (λ (x : Positions). x.left) ts h.pleft) (behind n (λ (x : Positions). x.right) ts h.pright)
    (behind n (λ (x : Positions). x.union) ts h.plead) (t.sets ++ drop (length t.sets) h.mset))
    (counts (n + length ts) (length t.sets) t.visits (stop_with t.stop))

-- no list is shorter than its store's length
pub record Roomy (b : Bounds) (h : Lists) : Type 0 where
  pub pleft : b.plan_room ≤ length h.pleft
  pub pright : b.plan_room ≤ length h.pright
  pub plead : b.plan_room ≤ length h.plead
  pub mset : b.memo_room ≤ length h.mset

-- the definition's input has as many leaves, the same rooms and the same limit
pub record Bounded (b : Bounds) (i : Input) : Type 0 where
  pub leaves : length i.leaves ≡ b.leaves
  pub plan_room : i.plan_room ≡ b.plan_room
  pub memo_room : i.memo_room ≡ b.memo_room
  pub limit : i.limit ≡ b.limit
