-- What an accepted sheet hands to the search: as many leaves as the walk has, limits kept, and good edges, as many as its items say.
-- Assumes nothing.
use Rattle.std.specs.Prelude.{◌≡◌, refl, Bool, true, false, List, [], ◌∷◌, map, ℕ, suc, ◌^◌, ◌≤◌, ◌<◌, length, eqb}
use Rattle.std.proofs.Common.{sym, ap, subst, le_trans, le_of_eq, arith, eqb-true}
use Rattle.nodeset.specs.SubsetLaws.{All}
use Rattle.definition.specs.Question.{Item, Predicate, Question, leaf, item, open_item, open_question, leaf_count}
use Rattle.definition.proofs.QuestionLaws.{length_open_predicates}
use Rattle.definition.specs.Sheet.{Bytes, rows_at, question_of}
use Rattle.definition.proofs.SheetLaws.{length_items, item_is, word_bound}
use Rattle.definition.specs.Accepted.{Sound, AcceptedSheet}
use Rattle.definition.specs.GoodEdge.{GoodEdge}
use Rattle.definition.specs.Edges.{build_hypergraph, edge_count}
use Rattle.definition.specs.EstimateBounds.{Selectivities}
use Rattle.definition.specs.Search.{Leaf}
use Rattle.definition.specs.Call.{Rooms, leaves_of, input_of}
use Rattle.definition.specs.PlanRule.{WithinLimits}
use Rattle.definition.proofs.AllLaws.{all_of, all_mapped}
use Rattle.definition.proofs.EdgeLaws.{good_edges, edges_sided}
use Rattle.definition.proofs.EdgeCount.{JoinFits, edges-counted}

-- the leaves handed over are the walk's
pub leaves-counted : (is : List Item) → length (leaves_of is) ≡ leaf_count (map open_item is)
unfolding leaves_of leaf_count
leaves-counted [] = refl
leaves-counted (i ∷ is) = go (eqb i.kind leaf) (leaves-counted is)
  where
    number : List Leaf → ℕ
    number ls = length ls

    go : (x : Bool) → length (leaves_of is) ≡ leaf_count (map open_item is)
        → number (elim x [ true ↦ record { rows = i.rows; columns = i.range.count } ∷ leaves_of is | false ↦ leaves_of is ])
        ≡ (elim x [ true ↦ suc (leaf_count (map open_item is)) | false ↦ leaf_count (map open_item is) ])
    go true e = ap suc e
    go false e = e

-- what holds of each item that is a leaf holds of each leaf
leaves_all : (P : Leaf → Type 0) (is : List Item) → All (λ (i : Item). i.kind ≡ leaf → P (record { rows = i.rows; columns = i.range.count })) is → All P (leaves_of is)
unfolding leaves_of
leaves_all P [] a = tt
leaves_all P (i ∷ is) a = go (eqb i.kind leaf) refl (leaves_all P is a.1)
  where
    go : (x : Bool) → eqb i.kind leaf ≡ x → All P (leaves_of is)
        → All P (elim x [ true ↦ record { rows = i.rows; columns = i.range.count } ∷ leaves_of is | false ↦ leaves_of is ])
    go true e r = (a.0 (eqb-true i.kind leaf e), r)
    go false e r = r

selectivities_all : (ps : List Predicate) → All (λ (p : Predicate). p.selectivity ≤ 65536) ps → Selectivities (map (λ (p : Predicate). p.selectivity) ps)
selectivities_all [] a = tt
selectivities_all (p ∷ ps) a = (a.0, selectivities_all ps a.1)

module _ (q : Question) (sound : Sound q) where
  pub joins_fit : All (JoinFits (open_question q)) (open_question q).items
  joins_fit =
      all_mapped (JoinFits (open_question q)) open_item q.items
      (all_of (λ i. JoinFits (open_question q) (open_item i)) _ q.items (λ i h k. le_trans (sound.join_ranges i h k) (le_of_eq (sym (length_open_predicates q)))))

  pub sound_edges-counted : length (build_hypergraph (open_question q)) ≡ edge_count (open_question q).items
  sound_edges-counted = edges-counted (open_question q) sound.walk joins_fit

  module _ (rooms : Rooms) (limit : ℕ) where
    -- every edge joins leaves that are handed over
    pub input-edges : All (GoodEdge (length (input_of q rooms limit).leaves)) (input_of q rooms limit).edges
    input-edges =
        subst (λ (n : ℕ). All (GoodEdge n) (build_hypergraph (open_question q))) (sym (leaves-counted q.items)) (good_edges (open_question q) sound.few_leaves)

    pub sound_limits : length q.columns ≤ 4096 → ((i : ℕ) → i < length q.items → (item q i).rows ≤ 2 ^ 48) → WithinLimits (input_of q rooms limit)
    sound_limits few rows =
        record {
          count = omega (arith, leaves-counted q.items, sound.few_leaves);
          leaves = leaves_all (λ (l : Leaf). (l.rows ≤ 2 ^ 48) × (l.columns ≤ 4096)) q.items (all_of (λ (i : Item). i.kind ≡ leaf → (i.rows ≤ 2 ^ 48) × (i.range.count ≤ 4096)) _ q.items (λ i h k. (rows i h, omega (arith, sound.leaf_ranges i h k))));
          selectivities = selectivities_all q.predicates (all_of (λ (p : Predicate). p.selectivity ≤ 65536) _ q.predicates sound.selectivities);
          edges = edges_sided (open_question q) sound.few_leaves;
        }

-- a sheet whose bytes are bytes: a leaf's rows are a 32-bit word
pub accepted_limits : (bs : List ℕ) → AcceptedSheet bs → Bytes bs → (rooms : Rooms) (limit : ℕ) → WithinLimits (input_of (question_of bs) rooms limit)
accepted_limits bs a bytes rooms limit =
    sound_limits (question_of bs) a.sound rooms limit a.few_columns
    (λ i h. omega (arith, ap (λ (x : Item). x.rows) (item_is bs i (omega (arith, length_items bs))), word_bound bs bytes (rows_at bs i)))
