-- An item by its kind: how many edges it makes, and what a join is. Assumes nothing.
use Rattle.std.specs.Prelude.{◌≡◌, List, ℕ}
use Rattle.std.proofs.Common.{◌∙◌, arith, eq-eqb, ne_eqb}
use Rattle.definition.specs.Question.{OpenItem, OpenQuestion, cross_product, leaf}
use Rattle.definition.specs.Edges.{Build, join_item, cross_item, join}
use Rattle.hypergraph.specs.Walk.{item_edges}

-- ---- the number of edges

pub one_edge_lem : (i : OpenItem) → i.kind ≡ cross_product → 1 ≡ item_edges i
unfolding item_edges
one_edge_lem i e = let l : i.kind ≡ leaf → ⊥ = λ f. omega arith in rw (ne_eqb i.kind leaf l, eq-eqb i.kind cross_product e, item_edges)

pub each-predicate : (i : OpenItem) → (i.kind ≡ leaf → ⊥) → (i.kind ≡ cross_product → ⊥) → i.range.count ≡ item_edges i
unfolding item_edges
each-predicate i e f = rw (ne_eqb i.kind leaf e, ne_eqb i.kind cross_product f, item_edges)

-- ---- a cross product or a join

module _ (q : OpenQuestion) (k : ℕ) (i : OpenItem) (b c : Build) (l r : ℕ) (rest : List ℕ) where
  pub by_cross : i.kind ≡ cross_product → c ≡ cross_item k l r rest b → c ≡ join q k i l r rest b
  by_cross f h = h ∙ rw (eq-eqb i.kind cross_product f, join)

  pub by_join : (i.kind ≡ cross_product → ⊥) → c ≡ join_item q k i l r rest b → c ≡ join q k i l r rest b
  by_join f h = h ∙ rw (ne_eqb i.kind cross_product f, join)
