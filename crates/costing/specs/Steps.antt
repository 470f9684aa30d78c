-- The second pass of the search on any lists, one candidate after the other. Where the plan of a candidate is to stand pleft, pright and plead
-- have the positions in the memo of its left set, its right set and their union.
use Rattle.std.specs.Prelude.{true, false, ℕ, zero, suc, ◌+◌, get_or, eqb, Option, None, Some}
use Rattle.std.proofs.Math.Option as math
use Rattle.std.proofs.Math.Option.{none, some}
use Rattle.std.specs.Int.Bits.{bit_or}
use Rattle.definition.specs.Cost.{Estimate, product, candidate_from, cheaper}
use Rattle.definition.specs.Connection.{Connection, connection}
use Rattle.candidate.specs.declared.Candidate.{Candidate}
use Rattle.candidate.specs.declared.Place.{Place}
use Rattle.candidate.specs.Store.{Lists, Given, edges, at, place, made, written}

-- the lists, and how many entries the memo has
pub record Costs : Type 0 where
  pub held : Lists
  pub entries : ℕ

abbrev pub costs : Lists → ℕ → Costs
costs h m = record { held = h; entries = m }

-- the memo's entry at position u for plan n with the estimate e, where the memo has m entries: the new plan if the entry is new or the plan
-- strictly cheaper, else the old one
unfoldable pub place_for : Lists → ℕ → ℕ → ℕ → Estimate → Place
place_for h m n u e =
    elim (eqb u m) [
      | true ↦ place u n (m + 1)
      | false ↦ place u (elim (cheaper e (at h (get_or h.mplan u 0))) [ true ↦ n | false ↦ get_or h.mplan u 0 ]) m
    ]

-- plan n, of the set s at position u, over the plans l and r; the last argument: what the edges that connect its two sides give, none where no
-- edge does
unfoldable pub candidate_over : Lists → ℕ → ℕ → ℕ → ℕ → ℕ → ℕ → math.Option Connection → Option Candidate
candidate_over h m n u s l r none = None
candidate_over h m n u s l r (some c) =
    let e = candidate_from c.kind (at h l) (at h r) c.rows in
    Some (made s l r c.lead c.kind e (place_for h m n u e))

-- the candidate that is to be plan n, with the plans that the memo has for its two sets now
abbrev pub candidate_in : Given → Lists → ℕ → ℕ → Option Candidate
candidate_in g h m n =
    let i = get_or h.pleft n 0 in
    let j = get_or h.pright n 0 in
    let a = get_or h.mset i 0 in
    let b = get_or h.mset j 0 in
    let l = get_or h.mplan i 0 in
    let r = get_or h.mplan j 0 in
    candidate_over h m n (get_or h.plead n 0) (bit_or a b) l r (connection (edges g) g.kinds g.selectivity a b (product (at h l) (at h r)))

-- plan n written, if there is one
abbrev pub after : Costs → ℕ → Option Candidate → Costs
after c n None = c
after c n (Some x) = costs (written c.held n x) x.place.entries

-- the candidate that is to be plan n is costed
unfoldable pub step_in : Given → ℕ → Costs → Costs
step_in g n c = after c n (candidate_in g c.held c.entries n)

-- k candidates, the first of them plan n
unfoldable pub steps_in : Given → ℕ → ℕ → Costs → Costs
steps_in g zero n c = c
steps_in g (suc k) n c = steps_in g k (suc n) (step_in g n c)
