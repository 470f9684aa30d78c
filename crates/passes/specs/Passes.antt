-- Both passes on any lists: what the enumeration leaves in four of them is costed. Definitions only.
use Rattle.std.specs.Prelude.{◌≡◌, [], ℕ, ◌-◌, ◌<◌, ◌≤◌, length, get_or, None}
use Rattle.nodeset.specs.Sets.{singleton}
use Rattle.definition.specs.EdgeView.{edges_of}
use Rattle.store.specs.Counts.{counts}
use Rattle.candidate.specs.Store.{Lists, Store, Given, lists, store}
use Rattle.enumeration.specs.declared.Bounds.{Bounds}
use Rattle.enumeration.specs.Store as enumeration
use Rattle.enumeration.specs.Walks.{solve}
use Rattle.costing.specs.Steps.{costs, steps_in}

-- what the passes ask: n leaves, whose sets are the memo's first, and a list of the memo's sets no shorter than the memo's store
pub record Begun (g : Given) (h : Lists) (n : ℕ) : Type 0 where
  pub leaves : n ≤ 64
  pub memo : n ≤ g.memo_room
  pub room : g.memo_room ≤ length h.mset
  pub sets : (k : ℕ) → k < n → get_or h.mset k 0 ≡ singleton k

-- the four lists that the enumeration is lent, and all nine with these four in place of theirs
abbrev pub open_of : Lists → enumeration.Lists
open_of h = enumeration.lists h.pleft h.pright h.plead h.mset

abbrev pub with_open : Lists → enumeration.Lists → Lists
with_open h o = lists h.pset o.pleft o.pright o.plead h.pkind h.prows h.pcost o.mset h.mplan

-- what bounds the enumeration
abbrev pub bounds_of : Given → ℕ → ℕ → Bounds
bounds_of g limit n = record { leaves = n; plan_room = g.plan_room; memo_room = g.memo_room; limit = limit }

-- after the first pass over n leaves. Nothing of an edge but its sides is read
abbrev pub enumerated : Given → ℕ → ℕ → Lists → Store
enumerated g limit n h =
    let e = solve (edges_of g.n g.left g.right [] [] []) (bounds_of g limit n) (enumeration.store (open_of h) (counts n n 0 None)) in
    store (with_open h e.held) e.at

-- after both
abbrev pub both_passes : Given → ℕ → ℕ → Lists → Store
both_passes g limit n h =
    let e = enumerated g limit n h in
    store (steps_in g (e.at.plans - n) n (costs e.held n)).held e.at
