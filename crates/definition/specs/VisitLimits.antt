-- Request 2026-06, a shorter default limit: what a call under one visit limit says of calls under others. Definitions only.
use Rattle.std.specs.Prelude.{◌≡◌, true, Bool, ◌&&◌, ◌||◌, not, List, map, take, ℕ, ◌≤◌, ◌<◌, length, eqb, leb}
use Rattle.definition.specs.Answers.{visits_spent}
use Rattle.definition.specs.Search.{Entry}
use Rattle.definition.specs.Call.{Rooms, Outcome, default_limit, call}

-- "A run that ended within 100,000 looks, and not with 14": here within limit visits
abbrev pub ended_within : ℕ → Outcome → Bool
ended_within limit o = leb o.visits limit && not (eqb o.answer visits_spent)

-- "answers the same under both, and that is proved for any two limits that such a run's looks don't pass": of the outcome o of a call on bs
-- with these stores under one limit, here for any limit that it ended within
abbrev pub SameUnderLimits : List ℕ → Rooms → Outcome → Type 0
SameUnderLimits bs rooms o = (limit : ℕ) → ended_within limit o ≡ true → call bs rooms limit ≡ o

-- "The default falls from 1,000,000 to 100,000 looks."
abbrev pub former_default : ℕ
former_default = 1000000

-- "A run that ended within 100,000 looks, and not with 14, answers the same under both": a run under either of the two
abbrev pub SameUnderBoth : List ℕ → Rooms → Type 0
SameUnderBoth bs rooms =
    (ended_within default_limit (call bs rooms default_limit) || ended_within default_limit (call bs rooms former_default)) ≡ true
    → call bs rooms former_default ≡ call bs rooms default_limit

-- ---- a call that answers 14

-- xs stands first in ys
abbrev pub Begins : {A : Type 0} → List A → List A → Type 0
Begins xs ys = take (length xs) ys ≡ xs

-- an entry's set stays; it may name another plan later, as the plan rule says
abbrev pub SetsBegin : List Entry → List Entry → Type 0
SetsBegin m n = Begins (map (λ (e : Entry). e.set) m) (map (λ (e : Entry). e.set) n)

-- what the outcome o wrote stands first in what p wrote
pub record Beginning (o p : Outcome) : Type 0 where
  pub edges : o.edges ≡ p.edges
  pub plans : Begins o.plans p.plans
  pub sets : SetsBegin o.memo p.memo
  pub tried : Begins o.tried p.tried

-- "the next look would pass the limit": as many visits as the limit allows were made, and under a greater limit the same run goes on
pub record Spent (bs : List ℕ) (rooms : Rooms) (limit : ℕ) (o : Outcome) : Type 0 where
  pub visits : o.visits ≡ limit
  pub beginning : (greater : ℕ) → limit ≤ greater → Beginning o (call bs rooms greater)
  pub goes_on : (greater : ℕ) → limit < greater → limit < (call bs rooms greater).visits
