-- Document 01, 'The tried list': what is printed of a sheet, and the open-list rule for it. Definitions only.
use Rattle.std.specs.Prelude.{◌≡◌, true, List, ℕ, zero, suc, ◌-◌, replicate}
use Rattle.std.proofs.lemmas.List.Edits.{sets}
use Rattle.definition.specs.Sheet.{Bytes, sheet_answer}
use Rattle.definition.specs.Call.{Rooms, Outcome, accepted, leaves_in, call}
use Rattle.definition.specs.PlanRule.{pairs_in, CallPlanRule}
use Rattle.definition.specs.OpenRule.{SameOpenBytes, SelectivitiesFit}
use Rattle.definition.specs.TriedList.{list_limit, tried_list}
use Rattle.listing.specs.Text.{pairs_of, side_sets}
use Rattle.answer.specs.declared.Report.{Report}

-- "256 edges, 1,088 plans, 512 memo places"
abbrev pub list_rooms : Rooms
list_rooms = record { edges = 256; plans = 1088; memo = 512 }

-- document 01 has "no stated limit"; with request 2026-06 it is stated
abbrev pub list_call : List ℕ → Outcome
list_call bs = call bs list_rooms list_limit

-- "answer number, trials, looks; then per trial its number from 0, left and right set", the pairs read off the plans
unfoldable pub printed : List ℕ → List ℕ
printed bs = tried_list (list_call bs).answer (list_call bs).visits (pairs_in (leaves_in bs) (list_call bs).plans)

-- no text is longer: 33 bytes for the first line, and 45 for each of as many candidates as there may be plans
abbrev pub longest_text : ℕ
longest_text = 48993

-- the open-list rule for the text: "Whatever row counts and shares within their limits replace those of an accepted sheet", the same bytes are
-- printed
abbrev pub OpenText : List ℕ → Type 0
OpenText bs = accepted bs list_rooms ≡ true → (cs : List ℕ) → Bytes cs → SameOpenBytes bs cs → SelectivitiesFit cs → printed cs ≡ printed bs

-- the plan rule for the plans behind the printed trials: "Whichever answer ends the search, for each set of two or more leaves that has a plan"
abbrev pub KeptBehind : List ℕ → Type 0
KeptBehind bs = accepted bs list_rooms ≡ true → CallPlanRule bs list_rooms list_limit (list_call bs)

-- ---- the parts of the code

-- the number of leaves of a sheet that passes the check, and 0 for one that does not
unfoldable pub leaves_passed : List ℕ → ℕ
leaves_passed bs = elim (sheet_answer bs) [ zero ↦ leaves_in bs | suc n ↦ 0 ]

-- as many empty sets as there may be plans
abbrev pub no_sets : List ℕ
no_sets = replicate 1088 0

-- one side's sets of the candidates. n: the number of leaves
abbrev pub side_of : List ℕ → ℕ → ℕ → List ℕ → List ℕ
side_of pset n plans pside = sets no_sets 0 (side_sets pset pside n plans)

-- the text from the plans' lists
unfoldable pub text_from : Report → ℕ → List ℕ → List ℕ → List ℕ → List ℕ
text_from r n pset pleft pright =
    tried_list r.answer r.visits (pairs_of (side_of pset n r.plans pleft) (side_of pset n r.plans pright) (r.plans - n))
