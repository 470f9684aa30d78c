-- A shorter default limit: calls on one sheet under two limits, in one table with one computed test; that 'not with 14' is needed; and what a
-- call that answers 14 has written.
use Rattle.std.specs.Prelude.{◌≡◌, refl, Bool, true, false, List, [], ◌∷◌, map, take, ℕ, get_or, leb}
use Rattle.std.proofs.Common.{ap, arith}
use Rattle.definition.specs.Hypergraph.{Edge, no_edge}
use Rattle.definition.specs.Search.{Plan, Entry}
use Rattle.definition.specs.Call.{Rooms, Outcome, default_limit}
use Rattle.definition.specs.TriedList.{list_limit}
use Rattle.definition.specs.VisitLimits.{ended_within, former_default, SetsBegin, Beginning}
use Rattle.definition.proofs.DocumentSamples.{computed, rooms, ample, scan, join, entry, sheet_a, replaced, side_apart}

-- "from 1,000,000 to 100,000 looks"
pub default_is : default_limit ≡ 100000
default_is = refl

-- "so it now states 1,000,000", as the default was
pub stated : (list_limit ≡ 1000000) × (former_default ≡ 1000000)
stated = (refl, refl)

-- whether the call under the first limit ended within the second, and not with 14; then answer and visits under the first, and under the second
pub record Seen : Type 0 where
  pub ended : Bool
  pub answer : ℕ
  pub visits : ℕ
  pub second_answer : ℕ
  pub second_visits : ℕ

pub record Row : Type 0 where
  pub words : List ℕ
  pub rooms : Rooms
  pub first : ℕ
  pub second : ℕ
  pub expected : Seen

abbrev pub seen : ℕ → Outcome → Outcome → Seen
seen second o p = record { ended = ended_within second o; answer = o.answer; visits = o.visits; second_answer = p.answer; second_visits = p.visits }

-- sheet, stores, two limits; then what is expected
abbrev row : List ℕ → Rooms → ℕ → ℕ → Bool → ℕ → ℕ → ℕ → ℕ → Row
row ws rs first second ended answer visits second_answer second_visits =
    record {
      words = ws;
      rooms = rs;
      first = first;
      second = second;
      expected =
          record { ended = ended; answer = answer; visits = visits; second_answer = second_answer; second_visits = second_visits };
    }

-- sheet A needs 8 visits
abbrev pub table : List Row
table =
    row sheet_a ample 100000 1000000 true 0 8 0 8
    ∷ row sheet_a ample 1000000 100000 true 0 8 0 8
    ∷ row sheet_a ample 100000 8 true 0 8 0 8
    ∷ row sheet_a ample 8 7 false 0 8 14 7
    ∷ row sheet_a ample 7 8 false 14 7 0 8
    ∷ row sheet_a ample 7 7 false 14 7 14 7
    ∷ row sheet_a ample 0 100000 false 14 0 0 8
    ∷ row replaced ample 4 8 false 14 4 0 8
    ∷ row side_apart ample 6 1000000 true 15 6 15 6
    ∷ row sheet_a (rooms 256 4 512) 2 100000 true 12 2 12 2
    ∷ row sheet_a (rooms 256 4 512) 100000 1 false 12 2 14 1
    ∷ row sheet_a (rooms 256 1088 4) 100000 2 true 13 2 13 2
    ∷ row sheet_a (rooms 1 1088 512) 0 100000 true 11 0 11 0
    ∷ []

abbrev pub under_both : Row → Seen
under_both r = seen r.second (computed r.words r.rooms r.first) (computed r.words r.rooms r.second)

pub limits : map under_both table ≡ map (λ (r : Row). r.expected) table
unfolding computed
limits = refl

-- under 7 visits sheet A's call answers 14, and under 8, which 7 do not pass, it answers 0: no statement on visits alone holds
pub not_with_14 : ((second : ℕ) → leb (computed sheet_a ample 7).visits second ≡ true → computed sheet_a ample second ≡ computed sheet_a ample 7)
    → ⊥
unfolding computed
not_with_14 f =
    let same : ◌≡◌ {A = ℕ} 0 14 = ap (λ (o : Outcome). o.answer) (f 8 refl) in
    omega arith

-- of a call that ended within both limits everything is the same
pub whole_outcome : computed sheet_a ample default_limit ≡ computed sheet_a ample former_default
unfolding computed
whole_outcome = refl

-- ---- a call that answers 14, of four visits, and one of eight: the first plans are the same, and a memo entry names another plan

abbrev first_plans : List Plan
first_plans =
    scan 0 4 4 ∷ scan 1 8 16 ∷ scan 2 16 16 ∷ join 6 1 2 1 0 128 288 ∷ join 3 0 1 0 0 8 60 ∷ join 7 0 3 0 0 128 932 ∷ []

pub plans_begin : ((computed replaced ample 4).plans ≡ first_plans) × (take 6 (computed replaced ample 8).plans ≡ first_plans)
unfolding computed
plans_begin = (refl, refl)

-- the memo after four visits, and after eight
abbrev pub memo_of_four : List Entry
memo_of_four = entry 1 0 ∷ entry 2 1 ∷ entry 4 2 ∷ entry 6 3 ∷ entry 3 4 ∷ entry 7 5 ∷ []

abbrev pub memo_of_eight : List Entry
memo_of_eight = entry 1 0 ∷ entry 2 1 ∷ entry 4 2 ∷ entry 6 3 ∷ entry 3 4 ∷ entry 7 6 ∷ []

pub sets_begin : SetsBegin memo_of_four memo_of_eight
sets_begin = refl

pub memos : ((computed replaced ample 4).memo ≡ memo_of_four) × ((computed replaced ample 8).memo ≡ memo_of_eight)
unfolding computed
memos = (refl, refl)

-- an outcome of sheet A is not the beginning of one of a sheet with other edges
pub not_other_edges : Beginning (computed sheet_a ample 0) (computed side_apart ample 0) → ⊥
unfolding computed
not_other_edges b =
    let right : ◌≡◌ {A = ℕ} 2 6 = ap (λ (es : List Edge). (get_or es 0 no_edge).right) b.edges in
    omega arith
