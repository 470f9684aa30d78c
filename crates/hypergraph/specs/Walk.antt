-- What holds along the walk of the items. Definitions only.
use Rattle.std.specs.Prelude.{◌≡◌, true, false, List, ℕ, ◌+◌, ◌≤◌, ◌<◌, length, drop, eqb}
use Rattle.definition.specs.Question.{OpenItem, cross_product, leaf, item, open_question, leaf_count, ends_with_one}
use Rattle.definition.specs.Sheet.{question_of}
use Rattle.definition.specs.Accepted.{Sound}
use Rattle.definition.specs.Edges.{edge_count}
use Rattle.sheet.specs.Views.{item_of}
use Rattle.sheet.specs.declared.Item.{Item}
use Rattle.builder.specs.Builds.{EdgeLists, Longer, LeavesFit}
use Rattle.builder.specs.declared.HypergraphBuilder.{HypergraphBuilder}

-- how many edges an item makes
unfoldable pub item_edges : OpenItem → ℕ
item_edges i = elim (eqb i.kind leaf) [ true ↦ 0 | false ↦ elim (eqb i.kind cross_product) [ true ↦ 1 | false ↦ i.range.count ] ]

-- before item k of a sheet whose walk is right: there is room for what comes
pub record Along (sheet : List ℕ) (k : ℕ) (b : HypergraphBuilder) (e : EdgeLists) : Type 0 where
  pub fits : LeavesFit sheet b
  pub walk : k < length (open_question (question_of sheet)).items
      → ends_with_one (drop k (open_question (question_of sheet)).items) (length b.pile.items) ≡ true
  pub leaves : length b.leaves.items + leaf_count (drop k (open_question (question_of sheet)).items) ≤ 64
  pub joins : length b.joins.items + length b.pile.items ≡ length b.leaves.items
  pub edges : Longer (b.edges + edge_count (drop k (open_question (question_of sheet)).items)) e

-- x is item k of a sound sheet, and what holds before it
pub record Next (sheet : List ℕ) (k : ℕ) (x : Item) (b : HypergraphBuilder) (e : EdgeLists) : Type 0 where
  pub sound : Sound (question_of sheet)
  pub along : Along sheet k b e
  pub within : k < length (question_of sheet).items
  pub read : item_of x ≡ item (question_of sheet) k
