-- The search's three counts and its stop, and what a visit makes of them.
use Rattle.std.specs.Prelude.{ℕ, ◌+◌, true, false, ltb, eqb, Option, None, Some, is_some}
use Rattle.definition.specs.Answers.{plans_full, memo_full, visits_spent}
use Rattle.store.specs.declared.Stop.{Stop}
use Rattle.store.specs.declared.Stop.TheVariants.{PlansFull, MemoFull, VisitsSpent, Other}
use Rattle.store.specs.declared.DPhyp.{DPhyp}

-- the answer's number for a stop
abbrev pub number_of : Stop → ℕ
number_of PlansFull = plans_full
number_of MemoFull = memo_full
number_of VisitsSpent = visits_spent
number_of (Other n) = n

-- the definition's number for what stopped the search: 0 while it goes on
abbrev pub stop_number : Option Stop → ℕ
stop_number None = 0
stop_number (Some s) = number_of s

-- the stop with this number
abbrev pub stop_with : ℕ → Option Stop
stop_with n =
    elim (eqb n 0) [
      | true ↦ None
      | false ↦ Some (elim (eqb n plans_full) [ true ↦ PlansFull | false ↦ elim (eqb n memo_full) [ true ↦ MemoFull | false ↦ late n ] ])
    ]
  where
    late : ℕ → Stop
    late n = elim (eqb n visits_spent) [ true ↦ VisitsSpent | false ↦ Other n ]

abbrev pub counts : ℕ → ℕ → ℕ → Option Stop → DPhyp
counts plans memo visits stop = record { plans = plans; memo = memo; visits = visits; stop = stop }

unfoldable pub visit_of : ℕ → DPhyp → DPhyp
visit_of limit p =
    elim (is_some p.stop) [
      | true ↦ p
      | false ↦
          elim (ltb p.visits limit) [
            | true ↦ counts p.plans p.memo (p.visits + 1) p.stop
            | false ↦ counts p.plans p.memo p.visits (Some VisitsSpent)
          ]
    ]
