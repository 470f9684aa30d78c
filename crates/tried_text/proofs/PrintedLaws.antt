-- The text made from the lent lists is the tried list, and the open-list rule holds of it. Assumes nothing.
use Rattle.std.specs.Prelude.{◌≡◌, ℕ, zero, suc, ◌+◌, ◌-◌, ◌*◌, ◌^◌, ◌≤◌, ◌<◌, length, drop, eqb, Float}
use Rattle.std.proofs.Math.Path.{refl}
use Rattle.std.proofs.Common.{sym, ap, ap₂, ◌∙◌, zero-le, drop_of_length-le}
use mathlib.Core.List.{List, [], map}
use native.Mathlib.Omega.{arith}
use Rattle.std.proofs.lemmas.List.{length-replicate}
use Rattle.definition.specs.Lists.{tabulate, column}
use Rattle.definition.specs.Sheet.{Bytes, question_of, sheet_answer}
use Rattle.definition.specs.Search.{Plan, Pair, Input}
use Rattle.definition.specs.Kept.{Candidates}
use Rattle.definition.specs.Call.{Rooms, Outcome, store_length, refused_with, leaves_in, input_of, call}
use Rattle.definition.specs.PlanRule.{pair_in, pairs_in}
use Rattle.definition.proofs.PlanRuleLaws.{plan_rule, call-pairs}
use Rattle.definition.proofs.OpenRuleLaws.{open_list_rule}
use Rattle.definition.specs.OpenRule.{OpenPart}
use Rattle.definition.proofs.InputLaws.{leaves-counted}
use Rattle.definition.specs.TriedList.{list_limit, tried_list}
use Rattle.listing.specs.Text.{pairs_of}
use Rattle.listing.specs.TextLaws.{head_bound, lines_bound, text_length}
use Rattle.listing.specs.ReadBack.{pairs_read}
use Rattle.answer.specs.declared.Report.{Report}
use Rattle.answer.specs.Answers.{reported}
use Rattle.builder.specs.Builds.{EdgeLists}
use Rattle.candidate.specs.Store.{Lists}
use Rattle.run.specs.Lent.{Lent, rooms_in, holds}
use Rattle.planner.specs.Stores.{edges_filled, lists_filled}
use Rattle.tried_text.proofs.PlanRoom.{call_few}
use Rattle.checks.specs.RoomLaws.{not_refused}
use Rattle.tried_text.specs.Printed.{list_rooms, list_call, printed, longest_text, OpenText, leaves_passed, no_sets, side_of, text_from}

-- ---- the open-list rule

pub open_text : (bs : List ℕ) → Bytes bs → OpenText bs
unfolding printed
open_text bs bytes a cs others s fit =
    sym (ap (λ (o : OpenPart). tried_list o.answer o.visits o.pairs) (open_list_rule bs bytes list_rooms list_limit a cs others s fit).1)

-- ---- the number of leaves

pub leaves_passed_lem : (bs : List ℕ) → sheet_answer bs ≡ 0 → leaves_in bs ≡ leaves_passed bs
unfolding leaves_passed
leaves_passed_lem bs e = sym (rw (e, leaves_passed) refl)

pub leaves_refused : (bs : List ℕ) {n : ℕ} → n ≡ sheet_answer bs → 0 < n → 0 ≡ leaves_passed bs
unfolding leaves_passed
leaves_refused bs {n} e h = go (sheet_answer bs) e
  where
    go : (k : ℕ) → n ≡ k → ◌≡◌ {A = ℕ} 0 (elim k [ zero ↦ leaves_in bs | suc j ↦ 0 ])
    go zero z = absurd (omega arith)
    go (suc j) z = refl

-- ---- the pairs

-- both sides' sets, read from the plans' lists; sr, lr, rr: what these had before
abbrev pairs_from : ℕ → List Plan → List ℕ → List ℕ → List ℕ → List Pair
pairs_from n ps sr lr rr =
    let sets = column (λ (p : Plan). p.set) ps sr in
    pairs_of (side_of sets n (length ps) (column (λ (p : Plan). p.left) ps lr))
    (side_of sets n (length ps) (column (λ (p : Plan). p.right) ps rr)) (length ps - n)

-- of qualifying candidates
candidates_printed : (i : Input) (ts : List Pair) (ps : List Plan) → Candidates i ts ps → (n : ℕ) → n ≡ length i.leaves → length ps ≤ 1088
    → (sr lr rr : List ℕ) → pairs_from n ps sr lr rr ≡ ts
candidates_printed i ts ps c n e h sr lr rr =
    let many : length ps - n ≡ length ts = omega (arith, c.count) in
    let room : length ts ≤ length no_sets = omega (arith, c.count, length-replicate {A = ℕ} 1088 0) in
    let set = column (λ (p : Plan). p.set) ps sr in
    let left = column (λ (p : Plan). p.left) ps lr in
    let right = column (λ (p : Plan). p.right) ps rr in
    ap₂ (λ (m k : ℕ). pairs_of (side_of set m (length ps) left) (side_of set m (length ps) right) k) e many
    ∙ (pairs_read i ts ps c (drop (length ps) sr) (drop (length ps) lr) (drop (length ps) rr) no_sets no_sets room room)

-- whatever the answer
module _ (bs : List ℕ) (bytes : Bytes bs) (sr lr rr : List ℕ) where
  refused_plans : (k : ℕ) → refused_with bs list_rooms ≡ suc k → (list_call bs).plans ≡ []
  unfolding call
  refused_plans k e = rw (e, call) refl

  none_printed : (n m : ℕ) → pairs_from n [] sr lr rr ≡ pairs_in m []
  unfolding tabulate
  none_printed n m =
      let none : 0 - n ≡ 0 = omega arith in
      rw none (ap (map (pair_in [])) (sym (drop_of_length-le [] {i = m} zero-le)))

  pairs-printed : length (list_call bs).plans ≤ 1088
      → pairs_from (leaves_passed bs) (list_call bs).plans sr lr rr ≡ pairs_in (leaves_in bs) (list_call bs).plans
  pairs-printed h = go (refused_with bs list_rooms) refl
    where
      go : (n : ℕ) → refused_with bs list_rooms ≡ n → pairs_from (leaves_passed bs) (list_call bs).plans sr lr rr ≡ pairs_in (leaves_in bs) (list_call bs).plans
      go zero e =
          candidates_printed (input_of (question_of bs) list_rooms list_limit) _ (list_call bs).plans
          (plan_rule bs bytes list_rooms list_limit (ap (λ (n : ℕ). eqb n 0) e)).candidates (leaves_passed bs)
          (sym (leaves_passed_lem bs (not_refused bs list_rooms e).0) ∙ sym (leaves-counted (question_of bs).items)) h sr lr rr
          ∙ call-pairs bs bytes list_rooms list_limit
      go (suc k) e = rw (refused_plans k e) (none_printed (leaves_passed bs) (leaves_in bs))

-- ---- the text

-- from both sides' lists and the number of candidates
pub text_made : (r : Report) (n : ℕ) (pset pleft pright : List ℕ) {left right : List ℕ} {m : ℕ} → left ≡ side_of pset n r.plans pleft
    → right ≡ side_of pset n r.plans pright
    → m ≡ r.plans - n
    → tried_list r.answer r.visits (pairs_of left right m) ≡ text_from r n pset pleft pright
unfolding text_from
text_made r n pset pleft pright p q e = rw (p, q, e) refl

-- its length, for numbers of 32 bits
pub text_bound : (r : Report) (n : ℕ) (pset pleft pright : List ℕ) → r.answer < 2 ^ 32 → r.plans - n < 2 ^ 32 → r.visits < 2 ^ 32
    → length (text_from r n pset pleft pright) ≤ 33 + 45 * (r.plans - n)
unfolding text_from
text_bound r n pset pleft pright a few v =
    let k = r.plans - n in
    omega (
      arith,
      text_length (side_of pset n r.plans pleft) (side_of pset n r.plans pright) r.answer r.visits k,
      head_bound r.answer k r.visits a few v,
      lines_bound k (omega arith),
    )

-- the lists that the call is lent
abbrev pub fresh : Float → Lent
fresh z = record { edges = edges_filled 256 0 0; plans = lists_filled 1088 512 0 0 z }

pub fresh_lent : {e : EdgeLists} {l : Lists} {z : Float} → e ≡ edges_filled 256 0 0 → l ≡ lists_filled 1088 512 0 0 z
    → ◌≡◌ {A = Lent} (record { edges = e; plans = l }) (fresh z)
fresh_lent p q = ap₂ (λ (x : EdgeLists) (y : Lists). record { edges = x; plans = y }) p q

fresh-rooms : (z : Float) → rooms_in (fresh z) ≡ list_rooms
unfolding store_length
fresh-rooms z = refl

-- from the lists lent, h, what the call answers, r, and leaves in the lists, l
module _ (bs : List ℕ) (bytes : Bytes bs) {z : Float} (h l : Lent) (lent : h ≡ fresh z) {r : Report}
    (answer : r ≡ reported (call bs (rooms_in h) list_limit)) (lists : l ≡ holds (call bs (rooms_in h) list_limit) h) where
  same_call : call bs (rooms_in h) list_limit ≡ list_call bs
  same_call = ap (λ (rooms : Rooms). call bs rooms list_limit) (ap rooms_in lent ∙ fresh-rooms z)

  few_plans : length (list_call bs).plans ≤ 1088
  few_plans = call_few bs bytes list_rooms list_limit

  left : l ≡ holds (list_call bs) (fresh z)
  left = lists ∙ ap₂ (λ (o : Outcome) (x : Lent). holds o x) same_call lent

  pub text_is : {n : ℕ} → n ≡ leaves_passed bs → text_from r n l.plans.pset l.plans.pleft l.plans.pright ≡ printed bs
  unfolding text_from printed
  text_is f =
      rw (f, answer, left, same_call)
      (ap (tried_list (list_call bs).answer (list_call bs).visits) (pairs-printed bs bytes no_sets no_sets no_sets few_plans))

  pub text_fits : {n : ℕ} → n ≡ leaves_passed bs
      → length (text_from r n l.plans.pset l.plans.pleft l.plans.pright) ≤ 33 + 45 * (r.plans - n)
      → length (printed bs) ≤ longest_text
  text_fits f h =
      let plans = ap (λ (x : Report). x.plans) (answer ∙ ap reported same_call) in
      omega (arith, h, few_plans, plans, ap (λ (t : List ℕ). length t) (text_is f))
