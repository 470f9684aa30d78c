-- The rules of demand 3 for the whole call are not empty: document 01's sheet A, A with other rows and shares, and A with the largest. Four
-- candidates are made on each, or one at a limit of 0, and the open parts are the same; of the two plans for all leaves the first two sheets keep
-- one each. Bytes of the header and of a kind are open.
use Rattle.std.specs.Prelude.{◌≡◌, refl, Bool, true, false, ◌&&◌, List, [], ◌∷◌, ℕ, zero, suc, ◌+◌, ◌*◌, ◌≤◌, ◌<◌, set, ltb}
use Rattle.std.proofs.Common.{sym, ◌∙◌, subst, not-suc-le-zero, le_of_suc-le-suc, arith, length-set, get_or-set_other, lit<, lit≤, ltb-true}
use Rattle.std.proofs.lemmas.Bool.{false≢true}
use Rattle.definition.specs.Lists.{concat_map}
use Rattle.definition.specs.Sheet.{Bytes, question_of}
use Rattle.definition.specs.Call.{default_limit, accepted, input_of, call}
use Rattle.definition.specs.PlanRule.{WellKept}
use Rattle.definition.specs.OpenRule.{OpenPart, open_part, Confidential, in_rows, in_selectivity, SameOpenBytes, SelectivitiesFit}
use Rattle.definition.proofs.OpenRuleLaws.{open_list_rule}
use Rattle.definition.proofs.PlanRuleLaws.{plan_rule}
use Rattle.definition.proofs.PlanRuleSamples.{three}
use Rattle.definition.proofs.DocumentSamples.{computed, bytes, ample, edge, pair, sheet_a}

-- "Sheet A" with rows 16, 8, 4 and shares 16384, 32768
abbrev other_numbers : List ℕ
other_numbers = 5 ∷ 24 ∷ 2 ∷ 104 ∷ 4 ∷ 128 ∷ 9 ∷ 16 ∷ 0 ∷ 1 ∷ 9 ∷ 8 ∷ 1 ∷ 2 ∷ 0 ∷ 0 ∷ 0 ∷ 1 ∷ 9 ∷ 4 ∷ 3 ∷ 1 ∷ 0 ∷ 0 ∷ 1 ∷ 1 ∷ 16384 ∷ 0 ∷ 2 ∷ 32768 ∷ 2 ∷ 2 ∷ 1 ∷ 2 ∷ 3 ∷ 4 ∷ []

abbrev open_a : OpenPart
open_a =
    record {
      answer = 0;
      edges = edge 1 2 0 2 0 ∷ edge 2 4 1 4 0 ∷ [];
      pairs = pair 2 4 ∷ pair 1 2 ∷ pair 1 6 ∷ pair 3 4 ∷ [];
      sets = 1 ∷ 2 ∷ 4 ∷ 6 ∷ 3 ∷ 7 ∷ [];
      visits = 8;
      edge_count = 2;
      plan_count = 7;
      memo_count = 6;
    }

-- "Sheet A" with rows 4,294,967,295 for leaf 0 and share 65,536 for its first predicate: the largest
abbrev largest : List ℕ
largest = 5 ∷ 24 ∷ 2 ∷ 104 ∷ 4 ∷ 128 ∷ 9 ∷ 4294967295 ∷ 0 ∷ 1 ∷ 9 ∷ 8 ∷ 1 ∷ 2 ∷ 0 ∷ 0 ∷ 0 ∷ 1 ∷ 9 ∷ 16 ∷ 3 ∷ 1 ∷ 0 ∷ 0 ∷ 1 ∷ 1 ∷ 65536 ∷ 0 ∷ 2 ∷ 16384 ∷ 2 ∷ 2 ∷ 1 ∷ 2 ∷ 3 ∷ 4 ∷ []

pub open_a_lem : (open_part 3 (computed sheet_a ample default_limit) ≡ open_a)
    × (open_part 3 (computed other_numbers ample default_limit) ≡ open_a)
    × (open_part 3 (computed largest ample default_limit) ≡ open_a)
unfolding computed
open_a_lem = (refl, refl, refl)

-- a limit of 0 visits: 14 ends all three after the first candidate
abbrev open_spent : OpenPart
open_spent =
    record {
      answer = 14;
      edges = edge 1 2 0 2 0 ∷ edge 2 4 1 4 0 ∷ [];
      pairs = pair 2 4 ∷ [];
      sets = 1 ∷ 2 ∷ 4 ∷ 6 ∷ [];
      visits = 0;
      edge_count = 2;
      plan_count = 4;
      memo_count = 4;
    }

pub open_spent_lem : (open_part 3 (computed sheet_a ample 0) ≡ open_spent)
    × (open_part 3 (computed other_numbers ample 0) ≡ open_spent)
    × (open_part 3 (computed largest ample 0) ≡ open_spent)
unfolding computed
open_spent_lem = (refl, refl, refl)

abbrev all_bytes : List ℕ → Bool
all_bytes [] = true
all_bytes (b ∷ bs) = ltb b 256 && all_bytes bs

-- ---- what the rule asks holds of them

-- one confidential byte more is replaced
pub replaced : (bs cs : List ℕ) (k v : ℕ) → SameOpenBytes bs cs → Confidential bs k → SameOpenBytes bs (set cs k v)
replaced bs cs k v s c =
    record {
      size = s.size ∙ sym (length-set cs k v);
      same = λ j n. s.same j n ∙ sym (get_or-set_other cs k j v 0 (λ e. n (subst (Confidential bs) (sym e) c)));
    }

abbrev bytes_a : List ℕ
bytes_a = concat_map bytes sheet_a

abbrev other_bytes : List ℕ
other_bytes = concat_map bytes other_numbers

both : (a b : Bool) → (a && b) ≡ true → (a ≡ true) × (b ≡ true)
both true b e = (refl, e)
both false b e = absurd (false≢true e)

all_bytes_lem : (bs : List ℕ) → all_bytes bs ≡ true → Bytes bs
all_bytes_lem [] e i = lit< tt
all_bytes_lem (b ∷ bs) e zero = ltb-true b 256 (both (ltb b 256) (all_bytes bs) e).0
all_bytes_lem (b ∷ bs) e (suc i) = all_bytes_lem bs (both (ltb b 256) (all_bytes bs) e).1 i

same_A : SameOpenBytes bytes_a other_bytes
unfolding computed
same_A =
    replaced bytes_a _ 117 128
    (replaced bytes_a _ 105 64
    (replaced bytes_a _ 76 4
    (replaced bytes_a bytes_a 28 16 (record { size = refl; same = λ k n. refl })
    (in_rows 0 (lit< tt) refl (record { from = lit≤ tt; below = lit< tt })))
    (in_rows 3 (lit< tt) refl (record { from = lit≤ tt; below = lit< tt })))
    (in_selectivity 0 (lit< tt) (record { from = lit≤ tt; below = lit< tt })))
    (in_selectivity 1 (lit< tt) (record { from = lit≤ tt; below = lit< tt }))

-- byte 0 is one of the item count, byte 40 one of the second item's kind
pub header_open : Confidential bytes_a 0 → ⊥
unfolding computed
header_open (in_rows i h k w) = let e : 24 + 16 * i + 4 ≤ 0 = w.from in omega arith
header_open (in_selectivity p h w) = let e : 104 + 12 * p ≤ 0 = w.from in omega arith

pub kind_open : Confidential bytes_a 40 → ⊥
unfolding computed
kind_open (in_rows i h k w) =
    let e : 24 + 16 * i + 4 ≤ 40 = w.from in
    let f : 40 < 24 + 16 * i + 4 + 4 = w.below in
    omega arith
kind_open (in_selectivity p h w) = let e : 104 + 12 * p ≤ 40 = w.from in omega arith

fit_a : SelectivitiesFit other_bytes
unfolding computed
fit_a zero h = lit≤ tt
fit_a (suc zero) h = lit≤ tt
fit_a (suc (suc p)) h = absurd (not-suc-le-zero (le_of_suc-le-suc (le_of_suc-le-suc h)))

pub rule_a : (accepted other_bytes ample ≡ true) × (open_part 3 (call bytes_a ample default_limit) ≡ open_part 3 (call other_bytes ample default_limit))
unfolding computed
rule_a = open_list_rule bytes_a (all_bytes_lem bytes_a refl) ample default_limit refl other_bytes (all_bytes_lem other_bytes refl) same_A fit_a

abbrev largest_bytes : List ℕ
largest_bytes = concat_map bytes largest

-- all four bytes of leaf 0's rows, and two of the first selectivity
same_largest : SameOpenBytes bytes_a largest_bytes
unfolding computed
same_largest =
    replaced bytes_a _ 106 1
    (replaced bytes_a _ 105 0
    (rows 31 (lit≤ tt) (lit< tt) _ (rows 30 (lit≤ tt) (lit< tt) _ (rows 29 (lit≤ tt) (lit< tt) _ (rows 28 (lit≤ tt) (lit< tt) bytes_a (record { size = refl; same = λ k n. refl })))))
    (in_selectivity 0 (lit< tt) (record { from = lit≤ tt; below = lit< tt })))
    (in_selectivity 0 (lit< tt) (record { from = lit≤ tt; below = lit< tt }))
  where
    rows : (k : ℕ) → 28 ≤ k → k < 32 → (cs : List ℕ) → SameOpenBytes bytes_a cs → SameOpenBytes bytes_a (set cs k 255)
    rows k l h cs s = replaced bytes_a cs k 255 s (in_rows 0 (lit< tt) refl (record { from = l; below = h }))

fit_largest : SelectivitiesFit largest_bytes
unfolding computed
fit_largest zero h = lit≤ tt
fit_largest (suc zero) h = lit≤ tt
fit_largest (suc (suc p)) h = absurd (not-suc-le-zero (le_of_suc-le-suc (le_of_suc-le-suc h)))

-- at any limit
pub rule_largest : (limit : ℕ) → (accepted largest_bytes ample ≡ true) × (open_part 3 (call bytes_a ample limit) ≡ open_part 3 (call largest_bytes ample limit))
unfolding computed
rule_largest limit = open_list_rule bytes_a (all_bytes_lem bytes_a refl) ample limit refl largest_bytes (all_bytes_lem largest_bytes refl) same_largest fit_largest

-- ---- the plan rule

-- of the call on a sheet, with the stores of the tried list program: plan p is rightly kept for all three leaves
abbrev KeptForAll : List ℕ → ℕ → Type 0
KeptForAll bs p =
    let o = call bs ample default_limit in
    WellKept (input_of (question_of bs) ample default_limit) o.tried o.plans 7 p

pub kept_a : KeptForAll bytes_a 5 × KeptForAll other_bytes 6
unfolding computed
kept_a =
    ((plan_rule bytes_a (all_bytes_lem bytes_a refl) ample default_limit refl).kept 5 (lit< tt) three, (plan_rule other_bytes (all_bytes_lem other_bytes refl) ample default_limit refl).kept 5 (lit< tt) three)
