-- Laws of the sheet check and of the question's fields, and that a sheet with answer 0 has what Accepted.antt says. Assumes nothing.
use Rattle.std.specs.Prelude.{◌≡◌, ◌⊎◌, Bool, true, false, ◌&&◌, ◌||◌, not, length, get_or, drop, eqb, ltb}
use Rattle.std.proofs.Math.Path.{refl}
use Rattle.std.proofs.Common.{sym, ap, ◌∙◌, inl, inr, true≢false, le_of_suc-le-suc, not-suc-le-zero, eq-zero-or-pos, add-one, arith, drop_of_length-le, ltb-false, leb-true, eqb-true, ne_eqb, eq-eqb, le-ltb, lt-ltb}
use Rattle.std.proofs.lemmas.Bool.{false≢true, not-false}
use mathlib.Core.List.{List, [], ◌∷◌, ◌++◌}
use Prim.Native.Nat.{ℕ, zero, suc, ◌+◌, ◌*◌, ◌≤◌, ◌<◌}
use Rattle.std.proofs.Math.Seq.{drop-cons}
use Rattle.definition.specs.Answers.{truncated, over_limit, misplaced, unknown_kind, reserved_not_zero, range_past_table, selectivity_above_one, too_many_leaves, broken_walk}
use Rattle.definition.specs.Lists.{concat_map}
use Rattle.definition.specs.Question.{fits, Item, Predicate, Question, cross_product, leaf, open_question, leaf_count, is_walk, item, predicate}
use Rattle.definition.specs.Sheet.{Bytes, word, item_count, item_offset, predicate_count, predicate_offset, column_count, column_offset, item_at, predicate_at, column_at, question_of, Check, check, first_failing, header_checks, reserved_is_set, table_length, item_checks, predicate_checks, walk_checks, question_answer, sheet_answer}
use Rattle.definition.specs.Accepted.{Framed, Sound, AcceptedSheet}
use Rattle.definition.proofs.ListLaws.{length-tabulate, get_d_tabulate}

-- ---- the fields of a question that comes in bytes

pub length_items : (bs : List ℕ) → length (question_of bs).items ≡ item_count bs
unfolding question_of
length_items bs = length-tabulate (item_count bs) (item_at bs)

pub length_predicates : (bs : List ℕ) → length (question_of bs).predicates ≡ predicate_count bs
unfolding question_of
length_predicates bs = length-tabulate (predicate_count bs) (predicate_at bs)

pub length_columns : (bs : List ℕ) → length (question_of bs).columns ≡ column_count bs
unfolding question_of
length_columns bs = length-tabulate (column_count bs) (column_at bs)

pub item_is : (bs : List ℕ) (i : ℕ) → i < item_count bs → item (question_of bs) i ≡ item_at bs i
unfolding question_of
item_is bs i h = get_d_tabulate (item_count bs) (item_at bs) i _ h

pub predicate_is : (bs : List ℕ) (i : ℕ) → i < predicate_count bs → predicate (question_of bs) i ≡ predicate_at bs i
unfolding question_of
predicate_is bs i h = get_d_tabulate (predicate_count bs) (predicate_at bs) i _ h

pub column_is : (bs : List ℕ) (i : ℕ) → i < column_count bs → get_or (question_of bs).columns i 0 ≡ column_at bs i
unfolding question_of
column_is bs i h = get_d_tabulate (column_count bs) (column_at bs) i 0 h

-- a word of bytes has 32 bits
pub word_bound : (bs : List ℕ) → Bytes bs → (at : ℕ) → word bs at < 4294967296
unfolding word
word_bound bs h at = omega (arith, h at, h (at + 1), h (at + 2), h (at + 3))

-- ---- the first failing check

pub true_or_false : (b : Bool) → (b ≡ true) ⊎ (b ≡ false)
true_or_false true = inl refl
true_or_false false = inr refl

pub fails_here : {a : Bool} (x : ℕ) (cs : List Check) → a ≡ true → first_failing (check a x ∷ cs) ≡ x
unfolding first_failing
fails_here x cs e = rw e refl

pub fails_later : {a : Bool} (x : ℕ) (cs : List Check) → a ≡ false → first_failing (check a x ∷ cs) ≡ first_failing cs
unfolding first_failing
fails_later x cs e = rw e refl

pub fails_never : {a : Bool} (x : ℕ) → a ≡ false → first_failing (check a x ∷ []) ≡ 0
unfolding first_failing
fails_never x e = rw e refl

-- no answer is 0
abbrev pub Numbered : List Check → Type 0
Numbered [] = Unit
Numbered (c ∷ cs) = (0 < c.answer) × Numbered cs

pub passes : (a : Bool) (x : ℕ) (cs : List Check) → 0 < x → first_failing (check a x ∷ cs) ≡ 0 → (a ≡ false) × (first_failing cs ≡ 0)
unfolding first_failing
passes true x cs p e = absurd (omega arith)
passes false x cs p e = (refl, e)

-- checks behind others
pub fails_first : (cs ds : List Check) → 0 < first_failing cs → first_failing (cs ++ ds) ≡ first_failing cs
unfolding first_failing
fails_first [] ds p = absurd (omega arith)
fails_first (c ∷ cs) ds p =
    elim (true_or_false c.fails) [
      | inl t ↦ fails_here c.answer (cs ++ ds) t ∙ sym (fails_here c.answer cs t)
      | inr f ↦
          fails_later c.answer (cs ++ ds) f ∙ fails_first cs ds (omega (arith, fails_later c.answer cs f)) ∙ sym (fails_later c.answer cs f)
    ]

pub fails_after : (cs ds : List Check) → Numbered cs → first_failing cs ≡ 0 → first_failing (cs ++ ds) ≡ first_failing ds
unfolding first_failing
fails_after [] ds n e = refl
fails_after (c ∷ cs) ds n e =
    let both = passes c.fails c.answer cs n.0 e in
    fails_later c.answer (cs ++ ds) both.0 ∙ fails_after cs ds n.1 both.1

none_first : (cs ds : List Check) → first_failing (cs ++ ds) ≡ 0 → first_failing cs ≡ 0
none_first cs ds e = elim (eq-zero-or-pos (first_failing cs)) [ inl z ↦ z | inr p ↦ absurd (omega (arith, fails_first cs ds p)) ]

none_after : (cs ds : List Check) → Numbered cs → first_failing (cs ++ ds) ≡ 0 → first_failing ds ≡ 0
none_after cs ds n e = sym (fails_after cs ds n (none_first cs ds e)) ∙ e

-- checks of each member of a list
module _ {A : Type 0} (f : A → List Check) (numbered : (x : A) → Numbered (f x)) where
  numbered_append : (cs ds : List Check) → Numbered cs → Numbered ds → Numbered (cs ++ ds)
  numbered_append [] ds n m = m
  numbered_append (c ∷ cs) ds n m = (n.0, numbered_append cs ds n.1 m)

  pub numbered_all : (xs : List A) → Numbered (concat_map f xs)
  unfolding concat_map
  numbered_all [] = tt
  numbered_all (x ∷ xs) = numbered_append (f x) (concat_map f xs) (numbered x) (numbered_all xs)

  -- from member i on: it fails, or the rest decides
  module _ (xs : List A) (i : ℕ) (d : A) (h : i < length xs) where
    pub fails_at : 0 < first_failing (f (get_or xs i d)) → first_failing (concat_map f (drop i xs)) ≡ first_failing (f (get_or xs i d))
    unfolding concat_map
    fails_at p = rw (drop-cons xs i d h) (fails_first (f (get_or xs i d)) (concat_map f (drop (suc i) xs)) p)

    pub fails_past : first_failing (f (get_or xs i d)) ≡ 0 → first_failing (concat_map f (drop i xs)) ≡ first_failing (concat_map f (drop (i + 1) xs))
    unfolding concat_map
    fails_past e = rw (add-one, drop-cons xs i d h) (fails_after (f (get_or xs i d)) (concat_map f (drop (suc i) xs)) (numbered (get_or xs i d)) e)

  pub none_left : (xs : List A) (i : ℕ) → length xs ≤ i → first_failing (concat_map f (drop i xs)) ≡ 0
  unfolding concat_map first_failing
  none_left xs i h = rw (drop_of_length-le xs h)

  -- where none fails, none fails of any member
  pub none_fails : (xs : List A) → first_failing (concat_map f xs) ≡ 0 → (i : ℕ) (d : A) → i < length xs → first_failing (f (get_or xs i d)) ≡ 0
  unfolding concat_map
  none_fails [] e i d h = absurd (not-suc-le-zero h)
  none_fails (x ∷ xs) e zero d h = none_first (f x) (concat_map f xs) e
  none_fails (x ∷ xs) e (suc i) d h = none_fails xs (none_after (f x) (concat_map f xs) (numbered x) e) i d (le_of_suc-le-suc h)

-- ---- the answer, part by part

numbered_item : (q : Question) (i : Item) → Numbered (item_checks q i)
numbered_item q i = (omega arith, (omega arith, (omega arith, tt)))

numbered_predicate : (q : Question) (p : Predicate) → Numbered (predicate_checks q p)
numbered_predicate q p = (omega arith, (omega arith, tt))

module _ (q : Question) where
  abbrev pub items_answer : ℕ
  items_answer = first_failing (concat_map (item_checks q) q.items)

  abbrev pub predicates_answer : ℕ
  predicates_answer = first_failing (concat_map (predicate_checks q) q.predicates)

  abbrev pub walk_answer : ℕ
  walk_answer = first_failing (walk_checks q)

  pub answer_items : 0 < items_answer → question_answer q ≡ items_answer
  unfolding question_answer
  answer_items p = fails_first _ _ p

  pub answer_predicates : items_answer ≡ 0 → 0 < predicates_answer → question_answer q ≡ predicates_answer
  unfolding question_answer
  answer_predicates e p = fails_after _ _ (numbered_all (item_checks q) (numbered_item q) q.items) e ∙ fails_first _ _ p

  pub answer_walk : items_answer ≡ 0 → predicates_answer ≡ 0 → question_answer q ≡ walk_answer
  unfolding question_answer
  answer_walk e p =
      fails_after _ _ (numbered_all (item_checks q) (numbered_item q) q.items) e
      ∙ fails_after _ _ (numbered_all (predicate_checks q) (numbered_predicate q) q.predicates) p

  -- one member after the other
  module _ (i : ℕ) where
    pub item_fails : i < length q.items → 0 < first_failing (item_checks q (item q i)) → first_failing (concat_map (item_checks q) (drop i q.items)) ≡ first_failing (item_checks q (item q i))
    item_fails h p = fails_at (item_checks q) (numbered_item q) q.items i _ h p

    pub item_passes : i < length q.items → first_failing (item_checks q (item q i)) ≡ 0 → first_failing (concat_map (item_checks q) (drop i q.items)) ≡ first_failing (concat_map (item_checks q) (drop (i + 1) q.items))
    item_passes h e = fails_past (item_checks q) (numbered_item q) q.items i _ h e

    pub predicate_fails : i < length q.predicates → 0 < first_failing (predicate_checks q (predicate q i)) → first_failing (concat_map (predicate_checks q) (drop i q.predicates)) ≡ first_failing (predicate_checks q (predicate q i))
    predicate_fails h p = fails_at (predicate_checks q) (numbered_predicate q) q.predicates i _ h p

    pub predicate_passes : i < length q.predicates → first_failing (predicate_checks q (predicate q i)) ≡ 0 → first_failing (concat_map (predicate_checks q) (drop i q.predicates)) ≡ first_failing (concat_map (predicate_checks q) (drop (i + 1) q.predicates))
    predicate_passes h e = fails_past (predicate_checks q) (numbered_predicate q) q.predicates i _ h e

  pub items_end : (i : ℕ) → length q.items ≤ i → first_failing (concat_map (item_checks q) (drop i q.items)) ≡ 0
  items_end i h = none_left (item_checks q) (numbered_item q) q.items i h

  pub predicates_end : (i : ℕ) → length q.predicates ≤ i → first_failing (concat_map (predicate_checks q) (drop i q.predicates)) ≡ 0
  predicates_end i h = none_left (predicate_checks q) (numbered_predicate q) q.predicates i h

module _ (bs : List ℕ) where
  abbrev pub header_answer : ℕ
  header_answer = first_failing (header_checks bs)

  pub answer_header : 0 < header_answer → sheet_answer bs ≡ header_answer
  unfolding sheet_answer
  answer_header p = by header_answer p
    where
      by : (n : ℕ) → 0 < n → elim n [ zero ↦ question_answer (question_of bs) | suc k ↦ suc k ] ≡ n
      by zero p = absurd (omega arith)
      by (suc n) p = refl

  pub answer_question : header_answer ≡ 0 → sheet_answer bs ≡ question_answer (question_of bs)
  unfolding sheet_answer
  answer_question e = rw (e, sheet_answer) refl

-- ---- the checks of an item, of a predicate and of the walk, one after the other

module _ (q : Question) (x : Item) where
  pub item_unknown : leaf < x.kind → first_failing (item_checks q x) ≡ unknown_kind
  item_unknown h = fails_here unknown_kind _ (lt-ltb leaf x.kind h)

  module _ (k : x.kind ≤ leaf) where
    pub item_reserved : reserved_is_set x ≡ true → first_failing (item_checks q x) ≡ reserved_not_zero
    item_reserved r = fails_later unknown_kind _ (le-ltb leaf x.kind k) ∙ fails_here reserved_not_zero _ r

    module _ (r : reserved_is_set x ≡ false) where
      pub item_past : fits x.range (table_length q x) ≡ false → first_failing (item_checks q x) ≡ range_past_table
      item_past f = fails_later unknown_kind _ (le-ltb leaf x.kind k) ∙ fails_later reserved_not_zero _ r ∙ fails_here range_past_table [] (ap not f)

      pub item-fits : fits x.range (table_length q x) ≡ true → first_failing (item_checks q x) ≡ 0
      item-fits f = fails_later unknown_kind _ (le-ltb leaf x.kind k) ∙ fails_later reserved_not_zero _ r ∙ fails_never range_past_table (ap not f)

module _ (q : Question) (x : Predicate) where
  pub predicate_above : 65536 < x.selectivity → first_failing (predicate_checks q x) ≡ selectivity_above_one
  predicate_above h = fails_here selectivity_above_one _ (lt-ltb 65536 x.selectivity h)

  module _ (s : x.selectivity ≤ 65536) where
    pub predicate_past : fits x.range (length q.columns) ≡ false → first_failing (predicate_checks q x) ≡ range_past_table
    predicate_past f = fails_later selectivity_above_one _ (le-ltb 65536 x.selectivity s) ∙ fails_here range_past_table [] (ap not f)

    pub predicate-fits : fits x.range (length q.columns) ≡ true → first_failing (predicate_checks q x) ≡ 0
    predicate-fits f = fails_later selectivity_above_one _ (le-ltb 65536 x.selectivity s) ∙ fails_never range_past_table (ap not f)

module _ (q : Question) where
  pub walk_crowded : 64 < leaf_count (open_question q).items → walk_answer q ≡ too_many_leaves
  walk_crowded h = fails_here too_many_leaves _ (lt-ltb 64 (leaf_count (open_question q).items) h)

  module _ (l : leaf_count (open_question q).items ≤ 64) where
    pub walk_broken : is_walk (open_question q).items ≡ false → walk_answer q ≡ broken_walk
    walk_broken f = fails_later too_many_leaves _ (le-ltb 64 (leaf_count (open_question q).items) l) ∙ fails_here broken_walk [] (ap not f)

    pub walk_whole : is_walk (open_question q).items ≡ true → walk_answer q ≡ 0
    walk_whole f = fails_later too_many_leaves _ (le-ltb 64 (leaf_count (open_question q).items) l) ∙ fails_never broken_walk (ap not f)

-- ---- what an accepted sheet guarantees

pub framed : (bs : List ℕ) → header_answer bs ≡ 0 → Framed bs
framed bs e =
    let long = passes _ truncated _ (omega arith) e in
    let items = passes _ over_limit _ (omega arith) long.1 in
    let predicates = passes _ over_limit _ (omega arith) items.1 in
    let columns = passes _ over_limit _ (omega arith) predicates.1 in
    let items_at = passes _ misplaced _ (omega arith) columns.1 in
    let predicates_at = passes _ misplaced _ (omega arith) items_at.1 in
    let columns_at_lem = passes _ misplaced _ (omega arith) predicates_at.1 in
    let whole = passes _ misplaced _ (omega arith) columns_at_lem.1 in
    let first : item_offset bs ≡ 24 = eqb-true _ _ (not-false _ items_at.0) in
    let second : predicate_offset bs ≡ item_offset bs + 16 * item_count bs = eqb-true _ _ (not-false _ predicates_at.0) in
    let third : column_offset bs ≡ predicate_offset bs + 12 * predicate_count bs = eqb-true _ _ (not-false _ columns_at_lem.0) in
    let end : length bs ≡ column_offset bs + 4 * column_count bs = eqb-true _ _ (not-false _ whole.0) in
    record {
      few_items = ltb-false _ _ items.0;
      few_predicates = ltb-false _ _ predicates.0;
      few_columns = ltb-false _ _ columns.0;
      items_at = first;
      predicates_at = omega arith;
      columns_at_lem = omega arith;
      whole = omega arith;
    }

-- both parts of a test that fails
neither : (a b : Bool) → (a || b) ≡ false → (a ≡ false) × (b ≡ false)
neither true b e = absurd (true≢false e)
neither false b e = (refl, e)

not_second : (a b : Bool) → (a && b) ≡ false → a ≡ true → b ≡ false
not_second true b e t = e
not_second false b e t = absurd (false≢true t)

is_zero : (n : ℕ) → not (eqb n 0) ≡ false → n ≡ 0
is_zero n e = eqb-true n 0 (not-false (eqb n 0) e)

-- an item whose checks all pass
module _ (q : Question) (i : Item) (e : first_failing (item_checks q i) ≡ 0) where
  known : (ltb leaf i.kind ≡ false) × (first_failing (check (reserved_is_set i) reserved_not_zero ∷ check (not (fits i.range (table_length q i))) range_past_table ∷ []) ≡ 0)
  known = passes _ unknown_kind _ (omega arith) e

  clear : (reserved_is_set i ≡ false) × (first_failing (check (not (fits i.range (table_length q i))) range_past_table ∷ []) ≡ 0)
  clear = passes _ reserved_not_zero _ (omega arith) known.1

  within-table : i.range.first + i.range.count ≤ table_length q i
  within-table = leb-true _ _ (not-false _ (passes _ range_past_table [] (omega arith) clear.1).0)

  -- neither the word of a join nor those of a cross product
  unset : (not (eqb i.kind leaf) && not (eqb i.rows 0) ≡ false) × (eqb i.kind cross_product && (not (eqb i.range.first 0) || not (eqb i.range.count 0)) ≡ false)
  unset = neither (not (eqb i.kind leaf) && not (eqb i.rows 0)) _ clear.0

  clear_rows : (i.kind ≡ leaf → ⊥) → i.rows ≡ 0
  clear_rows n = is_zero i.rows (not_second (not (eqb i.kind leaf)) _ unset.0 (ap not (ne_eqb i.kind leaf n)))

  clear_range : i.kind ≡ cross_product → (i.range.first ≡ 0) × (i.range.count ≡ 0)
  clear_range c =
      let words = neither (not (eqb i.range.first 0)) _ (not_second (eqb i.kind cross_product) _ unset.1 (eq-eqb i.kind cross_product c)) in
      (is_zero i.range.first words.0, is_zero i.range.count words.1)

  within_columns : i.kind ≡ leaf → i.range.first + i.range.count ≤ length q.columns
  within_columns l = rw (eq-eqb i.kind leaf l, table_length) at within-table

  within_predicates : (i.kind ≡ leaf → ⊥) → i.range.first + i.range.count ≤ length q.predicates
  within_predicates n = rw (ne_eqb i.kind leaf n, table_length) at within-table

-- where the answer is 0, no check fails
module _ (q : Question) (e : question_answer q ≡ 0) where
  items_pass : (i : ℕ) → i < length q.items → first_failing (item_checks q (item q i)) ≡ 0
  unfolding question_answer
  items_pass i h =
      none_fails (item_checks q) (numbered_item q) q.items
      (none_first (concat_map (item_checks q) q.items) (concat_map (predicate_checks q) q.predicates ++ walk_checks q) e) i _ h

  rest_passes : first_failing (concat_map (predicate_checks q) q.predicates ++ walk_checks q) ≡ 0
  unfolding question_answer
  rest_passes =
      none_after (concat_map (item_checks q) q.items) (concat_map (predicate_checks q) q.predicates ++ walk_checks q)
      (numbered_all (item_checks q) (numbered_item q) q.items) e

  predicates_pass : (p : ℕ) → p < length q.predicates → first_failing (predicate_checks q (predicate q p)) ≡ 0
  predicates_pass p h =
      none_fails (predicate_checks q) (numbered_predicate q) q.predicates
      (none_first (concat_map (predicate_checks q) q.predicates) (walk_checks q) rest_passes) p _ h

  walk_passes : (ltb 64 (leaf_count (open_question q).items) ≡ false) × (first_failing (check (not (is_walk (open_question q).items)) broken_walk ∷ []) ≡ 0)
  walk_passes =
      passes _ too_many_leaves _ (omega arith)
      (none_after (concat_map (predicate_checks q) q.predicates) (walk_checks q) (numbered_all (predicate_checks q) (numbered_predicate q) q.predicates) rest_passes)

  predicate_pass : (p : ℕ) → p < length q.predicates
      → (ltb 65536 (predicate q p).selectivity ≡ false) × (first_failing (check (not (fits (predicate q p).range (length q.columns))) range_past_table ∷ []) ≡ 0)
  predicate_pass p h = passes _ selectivity_above_one _ (omega arith) (predicates_pass p h)

  pub sound : Sound q
  sound =
      record {
        kinds = λ i h. ltb-false leaf (item q i).kind (known q (item q i) (items_pass i h)).0;
        no_rows = λ i h. clear_rows q (item q i) (items_pass i h);
        no_range = λ i h. clear_range q (item q i) (items_pass i h);
        leaf_ranges = λ i h. within_columns q (item q i) (items_pass i h);
        join_ranges = λ i h. within_predicates q (item q i) (items_pass i h);
        selectivities = λ p h. ltb-false 65536 (predicate q p).selectivity (predicate_pass p h).0;
        predicate_ranges = λ p h. leb-true _ _ (not-false _ (passes _ range_past_table [] (omega arith) (predicate_pass p h).1).0);
        few_leaves = ltb-false _ _ walk_passes.0;
        walk = not-false _ (passes _ broken_walk [] (omega arith) walk_passes.1).0;
      }

pub accepted : (bs : List ℕ) → sheet_answer bs ≡ 0 → AcceptedSheet bs
accepted bs e =
    let header = header_passes in
    let frame = framed bs header in
    record {
      framed = frame;
      few_items = omega (arith, length_items bs, frame.few_items);
      few_predicates = omega (arith, length_predicates bs, frame.few_predicates);
      few_columns = omega (arith, length_columns bs, frame.few_columns);
      sound = sound (question_of bs) (sym (answer_question bs header) ∙ e);
    }
  where
    header_passes : header_answer bs ≡ 0
    header_passes = elim (eq-zero-or-pos (header_answer bs)) [ inl z ↦ z | inr p ↦ absurd (omega (arith, answer_header bs p)) ]
