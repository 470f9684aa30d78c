-- From the check's answer to what the readers ask, and where they find the fields. Assumes nothing.
use Rattle.std.specs.Prelude.{ℕ, ◌+◌, ◌-◌, ◌*◌, ◌<◌, List, ◌≡◌, get_or}
use Rattle.std.proofs.Common.{sym, ap, ◌∙◌, arith}
use Rattle.definition.specs.Question.{Range, Item, Predicate, item, predicate}
use Rattle.definition.specs.Sheet.{word, range, item_offset, item_count, predicate_count, question_of, sheet_answer}
use Rattle.definition.specs.Accepted.{Framed}
use Rattle.definition.proofs.SheetLaws.{accepted, item_is, predicate_is, column_is}
use Rattle.sheet.specs.Views.{sections_of, Placed}
use Rattle.sheet.specs.declared.Sections.{Sections}

pub placed : (bs : List ℕ) (s : Sections) → Framed bs → s ≡ sections_of bs → Placed bs s
placed bs s f e =
    record {
      framed = f;
      items_at = ap (λ (x : Sections). x.items.offset) e;
      items_many = ap (λ (x : Sections). x.items.count) e;
      items_stride = ap (λ (x : Sections). x.stride) e;
      predicates_at = ap (λ (x : Sections). x.predicates.offset) e;
      predicates_many = ap (λ (x : Sections). x.predicates.count) e;
      columns_at_lem = ap (λ (x : Sections). x.columns.offset) e;
      columns_many = ap (λ (x : Sections). x.columns.count) e;
    }

-- what the check ensures of an accepted sheet
pub placed-accepted : (bs : List ℕ) (s : Sections) → sheet_answer bs ≡ 0 → s ≡ sections_of bs → Placed bs s
placed-accepted bs s a e = placed bs s (accepted bs a).framed e

-- where the readers find the fields
module _ (bs : List ℕ) (s : Sections) (p : Placed bs s) (i : ℕ) where
  module _ (h : i < s.items.count) (at : ℕ) (e : at ≡ 24 + 16 * i) where
    at_is : at ≡ item_offset bs + 16 * i
    at_is = omega (arith, p.framed.items_at)

    stands : i < item_count bs
    stands = omega (arith, p.items_many)

    pub kind_here : word bs at ≡ (item (question_of bs) i).kind
    kind_here = ap (word bs) at_is ∙ sym (ap (λ (x : Item). x.kind) (item_is bs i stands))

    pub rows_here : word bs (at + 4) ≡ (item (question_of bs) i).rows
    rows_here = ap (λ (k : ℕ). word bs (k + 4)) at_is ∙ sym (ap (λ (x : Item). x.rows) (item_is bs i stands))

    pub range_here : range bs (at + s.stride - 8) ≡ (item (question_of bs) i).range
    range_here =
        let last : at + s.stride - 8 ≡ item_offset bs + 16 * i + 8 = omega (arith, at_is, p.items_stride) in
        ap (range bs) last ∙ sym (ap (λ (x : Item). x.range) (item_is bs i stands))

    -- an item by its words
    pub item_here : {k r : ℕ} {g : Range} → k ≡ word bs at → r ≡ word bs (at + 4) → g ≡ range bs (at + s.stride - 8)
        → record { kind = k; rows = r; range = g } ≡ item (question_of bs) i
    item_here k r g = rw (k ∙ kind_here, r ∙ rows_here, g ∙ range_here)

  module _ (h : i < s.predicates.count) where
    predicate_stands : i < predicate_count bs
    predicate_stands = omega (arith, p.predicates_many)

    pub selectivity_here : word bs (s.predicates.offset + 12 * i) ≡ (predicate (question_of bs) i).selectivity
    selectivity_here =
        ap (λ (k : ℕ). word bs (k + 12 * i)) p.predicates_at ∙ sym (ap (λ (x : Predicate). x.selectivity) (predicate_is bs i predicate_stands))

    pub columns_here : range bs (s.predicates.offset + 12 * i + 4) ≡ (predicate (question_of bs) i).range
    columns_here =
        ap (λ (k : ℕ). range bs (k + 12 * i + 4)) p.predicates_at ∙ sym (ap (λ (x : Predicate). x.range) (predicate_is bs i predicate_stands))

    -- a predicate by its words
    pub predicate_here : {w : ℕ} {g : Range} → w ≡ word bs (s.predicates.offset + 12 * i) → g ≡ range bs (s.predicates.offset + 12 * i + 4)
        → record { selectivity = w; range = g } ≡ predicate (question_of bs) i
    predicate_here w g = rw (w ∙ selectivity_here, g ∙ columns_here)

  pub column_here : i < s.columns.count → word bs (s.columns.offset + 4 * i) ≡ get_or (question_of bs).columns i 0
  column_here h = ap (λ (k : ℕ). word bs (k + 4 * i)) p.columns_at_lem ∙ sym (column_is bs i (omega (arith, p.columns_many)))
