-- What every visit and every attempt keeps: a property of states that holds before it, after each stop and after what else it does; and what
-- an attempt does not read. Assumes nothing.
use Rattle.std.specs.Prelude.{◌≡◌, refl, Bool, true, false, ◌||◌, ℕ, suc, ◌<◌, length, eqb, ltb}
use Rattle.std.proofs.Common.{ap, ◌∙◌, ltb-true}
use Rattle.std.proofs.Math.Option.{Option, none, some}
use Rattle.std.specs.Int.Bits.{bit_or}
use Rattle.definition.specs.Answers.{plans_full, memo_full, visits_spent}
use Rattle.definition.specs.Connection.{Connection}
use Rattle.definition.proofs.WalkLaws.{either}
use Rattle.definition.specs.Search.{Plan, Input, State, find, kept, stopped, visit, connection_for, candidate, added, stored, linked, joined, attempt}

-- what holds where the candidate of a and b is added: the plans kept for the two sets, what the connecting edges give, and a place for its plan
pub record AddedFor (i : Input) (st : State) (a b l r : ℕ) (c : Connection) : Type 0 where
  pub left : find st.memo a ≡ some l
  pub right : find st.memo b ≡ some r
  pub connection : connection_for i st.plans a b l r ≡ some c
  pub room : length st.plans < i.plan_room

module _ (i : Input) (P : State → Type 0) (st : State) (same : P st) where
  pub visit_keeps : P (record { tried = st.tried; plans = st.plans; memo = st.memo; visits = suc st.visits; stop = 0 }) → P (stopped st visits_spent)
      → P (visit i st)
  unfolding visit
  visit_keeps one_more spent = either P (eqb st.stop 0) (either P (ltb st.visits i.limit) one_more spent) same

  module _ (a b : ℕ) (no_plan_room : P (stopped st plans_full)) (no_memo_room : P (stopped st memo_full))
      (more : (l r : ℕ) (c : Connection) → AddedFor i st a b l r c → P (added st a b (candidate st a b l r c))) where
    stored_keeps : (p : Plan) → (length st.plans < i.plan_room → P (added st a b p)) → P (stored i st a b p)
    stored_keeps p x = go (ltb (length st.plans) i.plan_room) refl
      where
        stores : Bool → State
        stores t =
            elim t [
              | true ↦ elim (kept st (bit_or a b) || ltb (length st.memo) i.memo_room) [ true ↦ added st a b p | false ↦ stopped st memo_full ]
              | false ↦ stopped st plans_full
            ]

        go : (t : Bool) → ltb (length st.plans) i.plan_room ≡ t → P (stores t)
        go true e = either P (kept st (bit_or a b) || ltb (length st.memo) i.memo_room) (x (ltb-true _ _ e)) no_memo_room
        go false e = no_plan_room

    linked_keeps : (l r : ℕ) → find st.memo a ≡ some l → find st.memo b ≡ some r → (o : Option Connection) → connection_for i st.plans a b l r ≡ o
        → P (linked i st a b l r o)
    unfolding linked
    linked_keeps l r ea eb none e = same
    linked_keeps l r ea eb (some c) e =
        stored_keeps (candidate st a b l r c) (λ room. more l r c (record { left = ea; right = eb; connection = e; room = room }))

    joined_keeps : (x y : Option ℕ) → find st.memo a ≡ x → find st.memo b ≡ y → P (joined i st a b x y)
    unfolding joined
    joined_keeps none y ea eb = same
    joined_keeps (some l) none ea eb = same
    joined_keeps (some l) (some r) ea eb = linked_keeps l r ea eb (connection_for i st.plans a b l r) refl

    pub attempt_keeps : P (attempt i a b st)
    unfolding attempt
    attempt_keeps = either P (eqb st.stop 0) (joined_keeps (find st.memo a) (find st.memo b) refl refl) same

-- two inputs with the same rooms, over which the connecting edges give the same for every pair of plans
module _ (i j : Input) (plan_room : i.plan_room ≡ j.plan_room) (memo_room : i.memo_room ≡ j.memo_room)
    (connections : (st : State) (a b l r : ℕ) → connection_for i st.plans a b l r ≡ connection_for j st.plans a b l r) where
  linked_alike : (st : State) (a b l r : ℕ) (o : Option Connection) → linked i st a b l r o ≡ linked j st a b l r o
  unfolding linked
  linked_alike st a b l r none = refl
  linked_alike st a b l r (some c) = rw (plan_room, memo_room) refl

  joined_alike : (st : State) (a b : ℕ) (x y : Option ℕ) → joined i st a b x y ≡ joined j st a b x y
  unfolding joined
  joined_alike st a b none y = refl
  joined_alike st a b (some l) none = refl
  joined_alike st a b (some l) (some r) = linked_alike st a b l r (connection_for i st.plans a b l r) ∙ ap (linked j st a b l r) (connections st a b l r)

  pub attempt_alike : (a b : ℕ) (st : State) → attempt i a b st ≡ attempt j a b st
  unfolding attempt
  attempt_alike a b st = ap (λ (u : State). elim (eqb st.stop 0) [ true ↦ u | false ↦ st ]) (joined_alike st a b (find st.memo a) (find st.memo b))
