-- The definition's walk at the state Store, over edges and within bounds. Between two of its functions, what the code does there.
use Rattle.std.specs.Prelude.{List, ℕ}
use Rattle.std.specs.Int.Bits.{bit_or}
use Rattle.nodeset.specs.Subsets.{non_empty_subsets}
use Rattle.definition.specs.Hypergraph.{Edge}
use Rattle.definition.specs.Walk as walk
use Rattle.definition.specs.Walk.{each}
use Rattle.enumeration.specs.declared.Bounds.{Bounds}
use Rattle.enumeration.specs.Store.{Store, kept, visit, attempt}

module _ (es : List Edge) (b : Bounds) where
  -- the pair of s1 and c, if the memo has c and an edge connects the two
  unfoldable pub try_connected : ℕ → ℕ → Store → Store
  try_connected s1 c st = walk.try_connected es Store kept (visit b.limit) (attempt b) s1 c st

  -- d: how much deeper it may go
  unfoldable pub enumerate_cmp_rec : ℕ → ℕ → ℕ → ℕ → Store → Store
  enumerate_cmp_rec d s1 s2 x st = walk.enumerate_cmp_rec es Store kept (visit b.limit) (attempt b) d s1 s2 x st

  -- one subset t of the neighbours in its first pass, that pass, and one in its second pass, where y is excluded
  abbrev pub visit_try : ℕ → ℕ → ℕ → Store → Store
  visit_try s1 s2 t st = try_connected s1 (bit_or s2 t) (visit b.limit st)

  abbrev pub visit_tries : ℕ → ℕ → ℕ → Store → Store
  visit_tries s1 s2 m st = each (visit_try s1 s2) (non_empty_subsets m) st

  abbrev pub visit_cmp : ℕ → ℕ → ℕ → ℕ → ℕ → Store → Store
  visit_cmp d s1 s2 y t st = enumerate_cmp_rec d s1 (bit_or s2 t) y (visit b.limit st)

  -- one neighbour v of s1, which is not visited: the definition's try_edge, in which the memo's lookup comes last
  abbrev pub try_neighbor : ℕ → ℕ → ℕ → Store → Store
  try_neighbor s1 x v st = enumerate_cmp_rec b.leaves s1 v x (try_connected s1 v st)

  -- s1 with all that grows from its neighbours
  unfoldable pub emit_csg : ℕ → Store → Store
  emit_csg s1 st = walk.emit_csg es Store kept (visit b.limit) (attempt b) b.leaves s1 st

  -- the same of c, if the memo has it
  unfoldable pub emit_kept : ℕ → Store → Store
  emit_kept c st = walk.emit_kept es Store kept (visit b.limit) (attempt b) b.leaves c st

  -- what s1 grows to
  unfoldable pub enumerate_csg_rec : ℕ → ℕ → ℕ → Store → Store
  enumerate_csg_rec d s1 x st = walk.enumerate_csg_rec es Store kept (visit b.limit) (attempt b) b.leaves d s1 x st

  -- as of `enumerate_cmp_rec`
  abbrev pub visit_emit : ℕ → ℕ → Store → Store
  visit_emit s1 t st = emit_kept (bit_or s1 t) (visit b.limit st)

  abbrev pub visit_emits : ℕ → ℕ → Store → Store
  visit_emits s1 m st = each (visit_emit s1) (non_empty_subsets m) st

  abbrev pub visit_csg : ℕ → ℕ → ℕ → ℕ → Store → Store
  visit_csg d s1 y t st = enumerate_csg_rec d (bit_or s1 t) y (visit b.limit st)

  -- the leaves below v are left to do
  unfoldable pub solve_from : ℕ → Store → Store
  solve_from v st = walk.solve_from es Store kept (visit b.limit) (attempt b) b.leaves v st

  -- one leaf, as the set s1; x: all leaves up to it
  abbrev pub solve_leaf : ℕ → ℕ → Store → Store
  solve_leaf s1 x st = enumerate_csg_rec b.leaves s1 x (emit_csg s1 st)

  -- the whole walk
  abbrev pub solve : Store → Store
  solve st = solve_from b.leaves st
