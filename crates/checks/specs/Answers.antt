-- The checks' answer in document 01's numbers, and the stores' lengths in the definition's terms. Definitions only.
use Rattle.std.specs.Prelude.{◌≡◌, ℕ, Result, Ok, Err}
use Rattle.definition.specs.Answers.{too_many_edges, store_too_small}
use Rattle.definition.specs.Call as call
use Rattle.sheet_check.specs.Views.{number_of}
use Rattle.sheet_check.specs.declared.Fault.{Fault}
use Rattle.checks.specs.declared.Refusal.{Refusal}
use Rattle.checks.specs.declared.Refusal.TheVariants.{Sheet, TooManyEdges, StoreTooSmall}
use Rattle.checks.specs.declared.rooms.Rooms.{Rooms}

abbrev pub refusal_number : Refusal → ℕ
refusal_number (Sheet f) = number_of f
refusal_number TooManyEdges = too_many_edges
refusal_number StoreTooSmall = store_too_small

-- 0 where the sheet is accepted
abbrev pub checked_number : {A : Type 0} → Result A Refusal → ℕ
checked_number (Err f) = refusal_number f
checked_number (Ok _) = 0

-- a sheet's fault, as the refusal that it is
abbrev pub IsSheetFault : Fault → Refusal → Type 0
IsSheetFault f r = r ≡ Sheet f

abbrev pub rooms_of : Rooms → call.Rooms
rooms_of r = record { edges = r.edges; plans = r.plans; memo = r.memo }
