-- What the crate's types say, in the definition's numbers.
use Rattle.std.specs.Prelude.{ℕ, List, ◌≡◌}
use Rattle.definition.specs.Question as question
use Rattle.definition.specs.Sheet.{item_count, item_offset, predicate_count, predicate_offset, column_count, column_offset}
use Rattle.definition.specs.Accepted.{Framed}
use Rattle.sheet.specs.declared.Sections.{Sections}
use Rattle.sheet.specs.declared.Range.{Range}
use Rattle.sheet.specs.declared.Item.{Item}
use Rattle.sheet.specs.declared.Predicate.{Predicate}

abbrev pub range_of : Range → question.Range
range_of r = record { first = r.first; count = r.count }

abbrev pub item_of : Item → question.Item
item_of i = record { kind = i.kind; rows = i.rows; range = range_of i.range }

abbrev pub predicate_of : Predicate → question.Predicate
predicate_of p = record { selectivity = p.selectivity; range = range_of p.range }

-- where the sections of a sheet stand, by its header; an item takes 16 bytes
abbrev pub sections_of : List ℕ → Sections
sections_of bs =
    record {
      items = record { offset = item_offset bs; count = item_count bs };
      stride = 16;
      predicates = record { offset = predicate_offset bs; count = predicate_count bs };
      columns = record { offset = column_offset bs; count = column_count bs };
    }

-- the sections are those of a sheet whose header has passed: what the readers ask
pub record Placed (bs : List ℕ) (s : Sections) : Type 0 where
  pub framed : Framed bs
  pub items_at : s.items.offset ≡ item_offset bs
  pub items_many : s.items.count ≡ item_count bs
  pub items_stride : s.stride ≡ 16
  pub predicates_at : s.predicates.offset ≡ predicate_offset bs
  pub predicates_many : s.predicates.count ≡ predicate_count bs
  pub columns_at_lem : s.columns.offset ≡ column_offset bs
  pub columns_many : s.columns.count ≡ column_count bs
