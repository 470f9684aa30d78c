-- What a sheet that gets none of the answers 1 to 9 guarantees; 10 and 11 are a call's. Over the decoded question it is said apart from the
-- bytes: `Sound`.
use Rattle.std.specs.Prelude.{ℕ, ◌+◌, ◌*◌, ◌≤◌, ◌<◌, true, ◌≡◌, List, length}
use Rattle.definition.specs.Question.{Question, cross_product, leaf, item, predicate, open_question, leaf_count, is_walk}
use Rattle.definition.specs.Sheet.{item_count, item_offset, predicate_count, predicate_offset, column_count, column_offset, question_of}

-- the header: counts within their limits, each section behind the one before, and the sheet ends with the last
pub record Framed (bs : List ℕ) : Type 0 where
  pub few_items : item_count bs ≤ 127
  pub few_predicates : predicate_count bs ≤ 256
  pub few_columns : column_count bs ≤ 4096
  pub items_at : item_offset bs ≡ 24
  pub predicates_at : predicate_offset bs ≡ 24 + 16 * item_count bs
  pub columns_at_lem : column_offset bs ≡ 24 + 16 * item_count bs + 12 * predicate_count bs
  pub whole : length bs ≡ 24 + 16 * item_count bs + 12 * predicate_count bs + 4 * column_count bs

-- the question: kinds, words that are 0, ranges, selectivities, and the walk
pub record Sound (q : Question) : Type 0 where
  pub kinds : (i : ℕ) → i < length q.items → (item q i).kind ≤ leaf
  pub no_rows : (i : ℕ) → i < length q.items → ((item q i).kind ≡ leaf → ⊥) → (item q i).rows ≡ 0
  pub no_range : (i : ℕ) → i < length q.items → (item q i).kind ≡ cross_product → ((item q i).range.first ≡ 0) × ((item q i).range.count ≡ 0)
  pub leaf_ranges : (i : ℕ) → i < length q.items → (item q i).kind ≡ leaf → (item q i).range.first + (item q i).range.count ≤ length q.columns
  pub join_ranges : (i : ℕ) → i < length q.items → ((item q i).kind ≡ leaf → ⊥) → (item q i).range.first + (item q i).range.count ≤ length q.predicates
  pub selectivities : (p : ℕ) → p < length q.predicates → (predicate q p).selectivity ≤ 65536
  pub predicate_ranges : (p : ℕ) → p < length q.predicates → (predicate q p).range.first + (predicate q p).range.count ≤ length q.columns
  pub few_leaves : leaf_count (open_question q).items ≤ 64
  pub walk : is_walk (open_question q).items ≡ true

-- the sheet: its header, and the question that it holds
pub record AcceptedSheet (bs : List ℕ) : Type 0 where
  pub framed : Framed bs
  pub few_items : length (question_of bs).items ≤ 127
  pub few_predicates : length (question_of bs).predicates ≤ 256
  pub few_columns : length (question_of bs).columns ≤ 4096
  pub sound : Sound (question_of bs)
