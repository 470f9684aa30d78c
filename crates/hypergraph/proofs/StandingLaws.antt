-- Laws that stood before the structs or the iterators, kept as they were; no proof needs them now. Assumes nothing.
use Rattle.std.specs.Prelude.{◌≡◌, refl, ℕ, zero, suc, ◌-◌, ◌≤◌, ◌<◌, drop}
use Rattle.std.proofs.Math.Path.{sym, ap}
use Rattle.std.proofs.Common.{◌∙◌, arith, eq-eqb, ne_eqb, drop_of_length-le}
use mathlib.Core.List.{List, ◌∷◌}
use Rattle.std.proofs.Math.ListN.{length, get_or}
use Rattle.definition.specs.Question.{Question, OpenItem, OpenQuestion, leaf, open_question}
use Rattle.definition.proofs.QuestionLaws.{length_open_items}
use Rattle.definition.specs.Edges.{Build, join, on_pile, build_item, edge_count}
use Rattle.definition.specs.Sheet.{question_of}
use Rattle.definition.proofs.SheetLaws.{length_items}
use Rattle.sheet.specs.declared.Sections.{Sections}
use Rattle.sheet.specs.Views.{Placed}
use Rattle.hypergraph.specs.Walk.{item_edges}
use Rattle.hypergraph.specs.WalkLaws.{rest, rest_end}
use Rattle.builder.proofs.StandingLaws.{pile_of, pile_two}

pub pile_length : (h : ℕ) (p : List ℕ) → length (pile_of h p) ≡ h
unfolding pile_of
pile_length zero p = refl
pile_length (suc h) p = ap suc (pile_length h p)

module _ (q : OpenQuestion) (k : ℕ) (i : OpenItem) (b c : Build) where
  pub join_built : (n : ℕ) (p : List ℕ) → 2 ≤ n → b.pile ≡ pile_of n p → (i.kind ≡ leaf → ⊥)
      → c ≡ join q k i (get_or p (n - 2) 0) (get_or p (n - 1) 0) (drop 2 b.pile) b → c ≡ build_item join q k i b
  unfolding build_item
  join_built n p two pile e h =
      let w : b.pile ≡ get_or p (n - 1) 0 ∷ (get_or p (n - 2) 0 ∷ pile_of (n - 2) p) = pile ∙ pile_two n p two in
      h ∙ sym (rw (ne_eqb i.kind leaf e, build_item)
      (ap (λ (x : List ℕ). on_pile join q k i x b) w
      ∙ ap (λ (x : List ℕ). join q k i (get_or p (n - 2) 0) (get_or p (n - 1) 0) (drop 2 x) b) (sym w)))

-- ---- the edges by an item's number

pub no_edges : (i : OpenItem) → i.kind ≡ leaf → 0 ≡ item_edges i
unfolding item_edges
no_edges i e = rw (eq-eqb i.kind leaf e, item_edges)

module _ (q : Question) (k : ℕ) where
  pub edges_done : length q.items ≤ k → edge_count (drop k (open_question q).items) ≡ 0
  unfolding edge_count
  edges_done h =
      let g : length (open_question q).items ≤ k = omega (arith, length_open_items q) in
      ap edge_count (drop_of_length-le (open_question q).items g)

-- a number below the items' count is an item's
pub item_within : (sheet : List ℕ) (s : Sections) (k : ℕ) → Placed sheet s → k < s.items.count → k < length (question_of sheet).items
item_within sheet s k p h = omega (arith, p.items_many, length_items sheet)

-- what stands where no item is left
pub walked_all : (sheet : List ℕ) (s : Sections) (k : ℕ) (b c : Build) → Placed sheet s → s.items.count ≤ k → rest sheet k b ≡ c → b ≡ c
walked_all sheet s k b c p h e = sym (rest_end sheet k b (omega (arith, p.items_many, length_items sheet))) ∙ e
