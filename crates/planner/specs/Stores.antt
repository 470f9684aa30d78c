-- What the arrays of a call's lists hold, and that all their places hold the same. Definitions only.
use Rattle.std.specs.Prelude.{ℕ, replicate, Float}
use Rattle.builder.specs.Builds.{EdgeLists, edge_lists}
use Rattle.candidate.specs.Store.{Lists, lists}
use Rattle.planner.specs.declared.stores.EdgeArrays.{EdgeArrays}
use Rattle.planner.specs.declared.stores.ListArrays.{ListArrays}

abbrev pub edges_in : {n : ℕ} → EdgeArrays n → EdgeLists
edges_in a = edge_lists a.left a.right a.predicate a.source a.kind

abbrev pub lists_in : {p m : ℕ} → ListArrays p m → Lists
lists_in a = lists a.pset a.pleft a.pright a.plead a.pkind a.prows a.pcost a.mset a.mplan

-- n edges
abbrev pub edges_filled : ℕ → ℕ → ℕ → EdgeLists
edges_filled n long word = edge_lists (replicate n long) (replicate n long) (replicate n word) (replicate n word) (replicate n word)

-- p plans and m memo entries
abbrev pub lists_filled : ℕ → ℕ → ℕ → ℕ → Float → Lists
lists_filled p m long word number =
    lists (replicate p long) (replicate p word) (replicate p word) (replicate p word) (replicate p word)
    (replicate p number) (replicate p number) (replicate m long) (replicate m word)
