-- Laws that stood before the structs, kept as they were; no proof needs them now. Assumes nothing.
use Rattle.std.specs.Prelude.{◌≡◌, ℕ, List, Bool}
use Rattle.std.proofs.Common.{sym, ap, ap₂, ◌∙◌}
use Rattle.definition.specs.Question.{Range, Item, fits}
use Rattle.definition.specs.Sheet.{question_of, reserved_is_set, table_length}
use Rattle.sheet.specs.Views.{Placed}
use Rattle.sheet.specs.declared.Sections.{Sections}
use Rattle.sheet_check.specs.Views.{table_count}
use Rattle.sheet_check.specs.AnswerLaws.{table_here}

-- an item by its fields
pub item_of : (x : Item) {k r : ℕ} {g : Range} → k ≡ x.kind → r ≡ x.rows → g ≡ x.range → record { kind = k; rows = r; range = g } ≡ x
item_of x k r g = rw (k, r, g)

-- what the tests show of an item, from its fields as read
pub reserved : (x : Item) {k r : ℕ} {g : Range} {b : Bool} → k ≡ x.kind → r ≡ x.rows → g ≡ x.range
    → b ≡ reserved_is_set (record { kind = k; rows = r; range = g }) → reserved_is_set x ≡ b
reserved x k r g e = sym (e ∙ ap reserved_is_set (item_of x k r g))

pub inside : (bs : List ℕ) (s : Sections) → Placed bs s → (x : Item) {k t : ℕ} {g : Range} {b : Bool} → k ≡ x.kind → g ≡ x.range
    → t ≡ table_count s k → b ≡ fits g t → fits x.range (table_length (question_of bs) x) ≡ b
inside bs s p x k g t e = sym (e ∙ ap₂ fits g (t ∙ ap (table_count s) k ∙ table_here bs s p x))
