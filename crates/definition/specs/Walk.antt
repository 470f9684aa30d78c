-- Document 01, 'Plans and memo': "Order: `solve`, `emit_csg`, `enumerate_csg_rec`, `enumerate_cmp_rec`, `emit_csg_cmp`." The walk of the search
-- over pairs of sets, over any state with three operations: is a plan kept for a set; visit one subset (document 01: look); try a pair
-- (`emit_csg_cmp`). A stopped state is changed by neither of the last two, so the walk has no test for a stop.
use Rattle.std.specs.Prelude.{ℕ, zero, suc, Bool, true, false, ◌&&◌, List, [], ◌∷◌}
use Rattle.std.specs.Int.Bits.{bit_or}
use Rattle.nodeset.specs.Sets.{singleton, all_below, up_to_lowest}
use Rattle.nodeset.specs.Subsets.{non_empty_subsets, singletons}
use Rattle.definition.specs.Hypergraph.{Edge, neighborhood, has_edge}

-- do something for each member of a list, in order
abbrev pub each : {A S : Type 0} → (A → S → S) → List A → S → S
each f [] st = st
each f (t ∷ ts) st = each f ts (f t st)

module _ (es : List Edge) (S : Type 0) (kept : S → ℕ → Bool) (visit : S → S) (attempt : ℕ → ℕ → S → S) where
  abbrev pub try_connected : ℕ → ℕ → S → S
  try_connected s1 c st = elim (kept st c && has_edge es s1 c) [ true ↦ attempt s1 c st | false ↦ st ]

  -- "One look is one subset visited, in either pass of either recursive function": counted before the memo is asked. d: how much deeper it may
  -- go. Each level adds a leaf to x, so the number of leaves is enough: `solve_depth`
  unfoldable pub enumerate_cmp_rec : ℕ → ℕ → ℕ → ℕ → S → S
  enumerate_cmp_rec zero s1 s2 x st = st
  enumerate_cmp_rec (suc d) s1 s2 x st =
      let n = neighborhood es s2 x in
      let ts = non_empty_subsets n in
      each (λ t u. enumerate_cmp_rec d s1 (bit_or s2 t) (bit_or x n) (visit u)) ts
      (each (λ t u. try_connected s1 (bit_or s2 t) (visit u)) ts st)

  abbrev pub try_edge : ℕ → ℕ → S → S
  try_edge s1 s2 st = elim (has_edge es s1 s2) [ true ↦ attempt s1 s2 st | false ↦ st ]

  -- "Neighbours come highest first". x: s1, and all leaves up to its lowest (`b_min`)
  unfoldable pub emit_csg : ℕ → ℕ → S → S
  emit_csg d s1 st =
      let x = bit_or s1 (up_to_lowest s1) in
      each (λ v u. enumerate_cmp_rec d s1 v x (try_edge s1 v u)) (singletons (neighborhood es s1 x)) st

  abbrev pub emit_kept : ℕ → ℕ → S → S
  emit_kept d c st = elim (kept st c) [ true ↦ emit_csg d c st | false ↦ st ]

  -- e: how deep `enumerate_cmp_rec` may go; d: how much deeper this one may go
  unfoldable pub enumerate_csg_rec : ℕ → ℕ → ℕ → ℕ → S → S
  enumerate_csg_rec e zero s1 x st = st
  enumerate_csg_rec e (suc d) s1 x st =
      let n = neighborhood es s1 x in
      let ts = non_empty_subsets n in
      each (λ t u. enumerate_csg_rec e d (bit_or s1 t) (bit_or x n) (visit u)) ts (each (λ t u. emit_kept e (bit_or s1 t) (visit u)) ts st)

  -- n leaves, from the highest down; x: all leaves up to this one
  unfoldable pub solve_from : ℕ → ℕ → S → S
  solve_from n zero st = st
  solve_from n (suc v) st = solve_from n v (enumerate_csg_rec n n (singleton v) (all_below (suc v)) (emit_csg n (singleton v) st))

  abbrev pub solve : ℕ → S → S
  solve n st = solve_from n n st
