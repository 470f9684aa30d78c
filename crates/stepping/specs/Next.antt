-- What the loops of the search go over: the sets that an iterator still has to give. And the leaves of the question that are left to do.
use Rattle.std.specs.Prelude.{true, false, ℕ, Bool, List, ltb}
use Rattle.std.specs.List.{filter}
use Rattle.nodeset.specs.Subsets.{non_empty_subsets, singletons}
use Rattle.stepping.specs.declared.Subsets.{Subsets}
use Rattle.stepping.specs.declared.Leaves.{Leaves}

-- those of a list that are above t
abbrev pub above : ℕ → List ℕ → List ℕ
above t ts = filter (ltb t) ts

-- of the subsets of a set, in rising order, those above the one given last
abbrev pub subsets_left : Subsets → List ℕ
subsets_left s = above s.last (non_empty_subsets s.set)

-- the leaves still to come, the highest first
abbrev pub leaves_left : Leaves → List ℕ
leaves_left s = singletons s.left

-- how many leaves are left to do; none where the search has stopped
unfoldable pub count_after : ℕ → Bool → ℕ
count_after j stopped = elim stopped [ true ↦ 0 | false ↦ j ]
