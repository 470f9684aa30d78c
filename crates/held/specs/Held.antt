-- The lent lists hold the search's state. Definitions only.
use Rattle.std.specs.Prelude.{List, ℕ, ◌≤◌, length}
use Rattle.definition.specs.Lists.{column}
use Rattle.definition.specs.Search.{Plan, Entry, Leaf, Input, State}
use Rattle.store.specs.Counts.{counts, stop_with}
use Rattle.candidate.specs.Store.{Lists, Store, Given, lists, store, edges}

-- what the definition's search is given, with these leaves and this limit
abbrev pub input_for : Given → List Leaf → ℕ → Input
input_for g ls limit =
    record { leaves = ls; edges = edges g; kinds = g.kinds; selectivities = g.selectivity; plan_room = g.plan_room; memo_room = g.memo_room; limit = limit }

-- the lists lent as h, holding st
abbrev pub holding : Lists → State → Store
holding h st =
    let ps = st.plans in
    let m = st.memo in
    store
    (lists (column (λ (p : Plan). p.set) ps h.pset) (column (λ (p : Plan). p.left) ps h.pleft) (column (λ (p : Plan). p.right) ps h.pright)
    (column (λ (p : Plan). p.lead) ps h.plead) (column (λ (p : Plan). p.kind) ps h.pkind) (column (λ (p : Plan). p.estimate.rows) ps h.prows)
    (column (λ (p : Plan). p.estimate.cost) ps h.pcost) (column (λ (e : Entry). e.set) m h.mset) (column (λ (e : Entry). e.plan) m h.mplan))
    (counts (length ps) (length m) st.visits (stop_with st.stop))

-- no list is shorter than its store's length
pub record Roomy (g : Given) (h : Lists) : Type 0 where
  pub pset : g.plan_room ≤ length h.pset
  pub pleft : g.plan_room ≤ length h.pleft
  pub pright : g.plan_room ≤ length h.pright
  pub plead : g.plan_room ≤ length h.plead
  pub pkind : g.plan_room ≤ length h.pkind
  pub prows : g.plan_room ≤ length h.prows
  pub pcost : g.plan_room ≤ length h.pcost
  pub mset : g.memo_room ≤ length h.mset
  pub mplan : g.memo_room ≤ length h.mplan
