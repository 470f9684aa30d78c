-- Two sheets with the same open bytes ask the same open question, and the sheet check says the same of both. Assumes nothing.
use Rattle.std.specs.Prelude.{◌≡◌, refl, Bool, true, false, ◌&&◌, ◌||◌, not, eqb, ltb}
use Rattle.std.proofs.Math.Path.{sym, ap, ap₂}
use Rattle.std.proofs.Common.{◌∙◌, subst, le_refl, arith, le-ltb}
use mathlib.Core.List.{List, [], ◌∷◌, ◌++◌}
use Prim.Native.Nat.{ℕ, zero, suc, ◌+◌, ◌*◌, ◌≤◌, ◌<◌}
use Rattle.std.proofs.Math.ListN.{length, get_or}
use Rattle.std.proofs.lemmas.Bool.{eqb-false}
use Rattle.definition.specs.Answers.{unknown_kind, reserved_not_zero, range_past_table, selectivity_above_one, too_many_leaves, broken_walk}
use Rattle.definition.specs.Lists.{tabulate, concat_map}
use Rattle.definition.specs.Question.{Range, fits, Item, Predicate, Question, OpenItem, OpenQuestion, cross_product, leaf, open_item, open_question, leaf_count, is_walk}
use Rattle.definition.specs.Sheet.{word, item_count, predicate_count, column_count, column_offset, item_start, rows_at, selectivity_at, range, item_at, predicate_at, column_at, question_of, Check, check, first_failing, reserved_is_set, item_checks, predicate_checks, question_answer, sheet_answer}
use Rattle.definition.specs.Accepted.{Framed, AcceptedSheet}
use Rattle.definition.proofs.ListLaws.{tabulate_same, map-tabulate, concat_same}
use Rattle.definition.proofs.SheetLaws.{length_predicates, length_columns, predicate_is, header_answer}
use Rattle.definition.specs.OpenRule.{InWord, Confidential, in_rows, in_selectivity, SameOpenBytes, SelectivitiesFit}

-- ---- word by word

module _ (bs cs : List ℕ) (f : Framed bs) (s : SameOpenBytes bs cs) where
  -- a word without a confidential byte is the same
  word_same : (w : ℕ) → ((k : ℕ) → InWord w k → Confidential bs k → ⊥) → word bs w ≡ word cs w
  unfolding word
  word_same w h =
      omega
      (arith, byte w (le_refl w) (omega arith), byte (w + 1) (omega arith) (omega arith), byte (w + 2) (omega arith) (omega arith), byte (w + 3) (omega arith) (omega arith))
    where
      byte : (k : ℕ) → w ≤ k → k < w + 4 → get_or bs k 0 ≡ get_or cs k 0
      byte k l u = s.same k (h k (record { from = l; below = u }))

  range-at_same : (w : ℕ) → ((k : ℕ) → w ≤ k → k < w + 8 → Confidential bs k → ⊥) → range bs w ≡ range cs w
  range-at_same w h =
      ap₂ (λ (x y : ℕ). record { first = x; count = y }) (word_same w (λ k v. h k v.from (omega (arith, v.below))))
      (word_same (w + 4) (λ k v. h k (omega (arith, v.from)) (omega (arith, v.below))))

  -- the header's words
  header_same : (w : ℕ) → w + 4 ≤ 24 → word bs w ≡ word cs w
  header_same w h = word_same w clear
    where
      clear : (k : ℕ) → InWord w k → Confidential bs k → ⊥
      clear k v (in_rows i l e u) = omega (arith, v.below, u.from, f.items_at)
      clear k v (in_selectivity p l u) = omega (arith, v.below, u.from, f.predicates_at)

  items_same : item_count bs ≡ item_count cs
  items_same = header_same 0 (omega arith)

  predicates_same : predicate_count bs ≡ predicate_count cs
  predicates_same = header_same 8 (omega arith)

  columns_same : column_count bs ≡ column_count cs
  columns_same = header_same 16 (omega arith)

  -- an item's, but for a leaf's rows
  module _ (i : ℕ) (h : i < item_count bs) where
    start_same : item_start bs i ≡ item_start cs i
    start_same = ap (λ (o : ℕ). o + 16 * i) (header_same 4 (omega arith))

    kind_same : (item_at bs i).kind ≡ (item_at cs i).kind
    kind_same = word_same (item_start bs i) clear ∙ ap (word cs) start_same
      where
        clear : (k : ℕ) → InWord (item_start bs i) k → Confidential bs k → ⊥
        clear k v (in_rows j l e u) = omega (arith, v.from, v.below, u.from, u.below)
        clear k v (in_selectivity p l u) = omega (arith, v.below, u.from, f.items_at, f.predicates_at)

    item-range_same : (item_at bs i).range ≡ (item_at cs i).range
    item-range_same = range-at_same (item_start bs i + 8) clear ∙ ap (λ (w : ℕ). range cs (w + 8)) start_same
      where
        clear : (k : ℕ) → item_start bs i + 8 ≤ k → k < item_start bs i + 8 + 8 → Confidential bs k → ⊥
        clear k from below (in_rows j l e u) = omega (arith, u.from, u.below)
        clear k from below (in_selectivity p l u) = omega (arith, u.from, f.items_at, f.predicates_at)

    rows_same : ((item_at bs i).kind ≡ leaf → ⊥) → (item_at bs i).rows ≡ (item_at cs i).rows
    rows_same n = word_same (rows_at bs i) clear ∙ ap (λ (w : ℕ). word cs (w + 4)) start_same
      where
        clear : (k : ℕ) → InWord (rows_at bs i) k → Confidential bs k → ⊥
        clear k v (in_rows j l e u) =
            let same : j ≡ i = omega (arith, v.from, v.below, u.from, u.below) in
            n (subst (λ (x : ℕ). (item_at bs x).kind ≡ leaf) same e)
        clear k v (in_selectivity p l u) = omega (arith, v.below, u.from, f.items_at, f.predicates_at)

    open_item_same : open_item (item_at bs i) ≡ open_item (item_at cs i)
    open_item_same = ap₂ (λ (k : ℕ) (r : Range). record { kind = k; range = r }) kind_same item-range_same

  -- a predicate's range
  predicate-range_same : (p : ℕ) → p < predicate_count bs → (predicate_at bs p).range ≡ (predicate_at cs p).range
  predicate-range_same p h = range-at_same (selectivity_at bs p + 4) clear ∙ ap (λ (w : ℕ). range cs (w + 12 * p + 4)) (header_same 12 (omega arith))
    where
      clear : (k : ℕ) → selectivity_at bs p + 4 ≤ k → k < selectivity_at bs p + 4 + 8 → Confidential bs k → ⊥
      clear k from below (in_rows j l e u) = omega (arith, u.below, f.items_at, f.predicates_at)
      clear k from below (in_selectivity j l u) = omega (arith, u.from, u.below)

  -- a column
  column_same : (c : ℕ) → c < column_count bs → column_at bs c ≡ column_at cs c
  column_same c h = word_same (column_offset bs + 4 * c) clear ∙ ap (λ (w : ℕ). word cs (w + 4 * c)) (header_same 20 (omega arith))
    where
      clear : (k : ℕ) → InWord (column_offset bs + 4 * c) k → Confidential bs k → ⊥
      clear k v (in_rows j m e u) = omega (arith, v.from, u.below, f.items_at, f.columns_at_lem)
      clear k v (in_selectivity j m u) = omega (arith, v.from, u.below, f.predicates_at, f.columns_at_lem)

  -- ---- the open question

  pub question_same : open_question (question_of bs) ≡ open_question (question_of cs)
  unfolding question_of
  question_same =
      ap₂ (λ (is : List OpenItem) (rs : List Range). record { items = is; predicates = rs; columns = (question_of bs).columns })
      (map-tabulate open_item (item_count bs) (item_at bs)
      ∙ tabulate_same (item_count bs) _ _ open_item_same
      ∙ ap (λ (n : ℕ). tabulate n (λ i. open_item (item_at cs i))) items_same
      ∙ sym (map-tabulate open_item (item_count cs) (item_at cs)))
      (map-tabulate (λ (p : Predicate). p.range) (predicate_count bs) (predicate_at bs)
      ∙ tabulate_same (predicate_count bs) _ _ predicate-range_same
      ∙ ap (λ (n : ℕ). tabulate n (λ i. (predicate_at cs i).range)) predicates_same
      ∙ sym (map-tabulate (λ (p : Predicate). p.range) (predicate_count cs) (predicate_at cs)))
      ∙ ap (λ (xs : List ℕ). record { items = (open_question (question_of cs)).items; predicates = (open_question (question_of cs)).predicates; columns = xs })
      (tabulate_same (column_count bs) _ _ column_same ∙ ap (λ (n : ℕ). tabulate n (column_at cs)) columns_same)

-- ---- the sheet check

-- an item's checks read its rows only where it is no leaf
reserved_same : (x y : Item) → open_item x ≡ open_item y → ((x.kind ≡ leaf → ⊥) → x.rows ≡ y.rows) → reserved_is_set x ≡ reserved_is_set y
reserved_same x y e r =
    ap₂ (λ (a b : Bool). a || b) rows
    (ap (λ (o : OpenItem). eqb o.kind cross_product && (not (eqb o.range.first 0) || not (eqb o.range.count 0))) e)
  where
    kinds : x.kind ≡ y.kind
    kinds = ap (λ (o : OpenItem). o.kind) e

    leaf-rows : (a b : Bool) (n m : ℕ) → a ≡ b → (a ≡ false → n ≡ m) → not a && not (eqb n 0) ≡ not b && not (eqb m 0)
    leaf-rows true b n m q f = rw (← q)
    leaf-rows false b n m q f = rw (← q, f refl)

    rows : not (eqb x.kind leaf) && not (eqb x.rows 0) ≡ not (eqb y.kind leaf) && not (eqb y.rows 0)
    rows = leaf-rows (eqb x.kind leaf) (eqb y.kind leaf) x.rows y.rows (ap (λ (k : ℕ). eqb k leaf) kinds) (λ n. r (eqb-false x.kind leaf n))

module _ (q r : Question) (predicates : length q.predicates ≡ length r.predicates) (columns : length q.columns ≡ length r.columns) where
  item_checks_same : (x y : Item) → open_item x ≡ open_item y → reserved_is_set x ≡ reserved_is_set y → item_checks q x ≡ item_checks r y
  item_checks_same x y e b =
      ap₂ (λ (o : OpenItem) (z : Bool). checks o z (length q.columns) (length q.predicates)) e b
      ∙ ap₂ (checks (open_item y) (reserved_is_set y)) columns predicates
    where
      checks : OpenItem → Bool → ℕ → ℕ → List Check
      checks o b c p =
          check (ltb leaf o.kind) unknown_kind
          ∷ check b reserved_not_zero
          ∷ check (not (fits o.range (elim (eqb o.kind leaf) [ true ↦ c | false ↦ p ]))) range_past_table
          ∷ []

  -- a predicate's checks, where both selectivities fit
  predicate_checks_same : (x y : Predicate) → x.range ≡ y.range → x.selectivity ≤ 65536 → y.selectivity ≤ 65536 → predicate_checks q x ≡ predicate_checks r y
  predicate_checks_same x y e l m =
      ap₂ (λ (b : Bool) (g : Range). checks b g (length q.columns)) (le-ltb 65536 x.selectivity l ∙ sym (le-ltb 65536 y.selectivity m)) e
      ∙ ap (checks (ltb 65536 y.selectivity) y.range) columns
    where
      checks : Bool → Range → ℕ → List Check
      checks b g c = check b selectivity_above_one ∷ check (not (fits g c)) range_past_table ∷ []

module _ (bs cs : List ℕ) (a : AcceptedSheet bs) (s : SameOpenBytes bs cs) (fit : SelectivitiesFit cs) where
  header_answer_same : header_answer bs ≡ header_answer cs
  header_answer_same =
      rw (s.size, word_at 0 (omega arith), word_at 4 (omega arith), word_at 8 (omega arith), word_at 12 (omega arith), word_at 16 (omega arith), word_at 20 (omega arith))
    where
      word_at : (w : ℕ) → w + 4 ≤ 24 → word bs w ≡ word cs w
      word_at = header_same bs cs a.framed s

  question_answer_same : question_answer (question_of bs) ≡ question_answer (question_of cs)
  unfolding question_answer question_of
  question_answer_same =
      ap₂ (λ (x y : List Check). first_failing (x ++ y)) items (ap₂ (λ (x y : List Check). x ++ y) predicates (ap checks (question_same bs cs a.framed s)))
    where
      lp : length (question_of bs).predicates ≡ length (question_of cs).predicates
      lp = length_predicates bs ∙ predicates_same bs cs a.framed s ∙ sym (length_predicates cs)

      lc : length (question_of bs).columns ≡ length (question_of cs).columns
      lc = length_columns bs ∙ columns_same bs cs a.framed s ∙ sym (length_columns cs)

      items : concat_map (item_checks (question_of bs)) (question_of bs).items ≡ concat_map (item_checks (question_of cs)) (question_of cs).items
      items =
          concat_same (item_checks (question_of bs)) (item_checks (question_of cs)) (item_count bs) (item_at bs) (item_at cs)
          (λ i h.
          let e = open_item_same bs cs a.framed s i h in
          item_checks_same (question_of bs) (question_of cs) lp lc (item_at bs i) (item_at cs i) e
          (reserved_same (item_at bs i) (item_at cs i) e (rows_same bs cs a.framed s i h)))
          ∙ ap (λ (n : ℕ). concat_map (item_checks (question_of cs)) (tabulate n (item_at cs))) (items_same bs cs a.framed s)

      fits_here : (p : ℕ) → p < predicate_count bs → (predicate_at bs p).selectivity ≤ 65536
      fits_here p h =
          subst (λ (x : Predicate). x.selectivity ≤ 65536) (predicate_is bs p h) (a.sound.selectivities p (omega (arith, length_predicates bs)))

      predicates : concat_map (predicate_checks (question_of bs)) (question_of bs).predicates ≡ concat_map (predicate_checks (question_of cs)) (question_of cs).predicates
      predicates =
          concat_same (predicate_checks (question_of bs)) (predicate_checks (question_of cs)) (predicate_count bs) (predicate_at bs) (predicate_at cs)
          (λ p h.
          predicate_checks_same (question_of bs) (question_of cs) lp lc (predicate_at bs p) (predicate_at cs p) (predicate-range_same bs cs a.framed s p h)
          (fits_here p h) (fit p (omega (arith, predicates_same bs cs a.framed s))))
          ∙ ap (λ (n : ℕ). concat_map (predicate_checks (question_of cs)) (tabulate n (predicate_at cs))) (predicates_same bs cs a.framed s)

      checks : OpenQuestion → List Check
      checks q = check (ltb 64 (leaf_count q.items)) too_many_leaves ∷ check (not (is_walk q.items)) broken_walk ∷ []

  -- answers 1 to 9
  pub sheet_answer_same : sheet_answer bs ≡ sheet_answer cs
  unfolding sheet_answer
  sheet_answer_same = ap₂ (λ (n m : ℕ). elim n [ zero ↦ m | suc k ↦ suc k ]) header_answer_same question_answer_same
