-- The state of the enumeration as it lies in the lent lists: three positions for each candidate, the memo's sets, and the counts; and what kept,
-- visit and attempt make of it. The memo's index is no part of it: it only says where a set is found.
use Rattle.std.specs.Prelude.{◌≡◌, ◌<◌, List, Bool, true, false, ℕ, ◌+◌, set, take, ltb, Option, None, Some, is_some}
use Rattle.std.specs.Int.Bits.{bit_or}
use Rattle.nodeset.specs.Sets.{singleton}
use Rattle.store.specs.declared.DPhyp.{DPhyp}
use Rattle.store.specs.declared.Stop.{Stop}
use Rattle.store.specs.declared.Stop.TheVariants.{PlansFull, MemoFull}
use Rattle.store.specs.Counts.{counts, visit_of}
use Rattle.store.specs.Memo.{spot, is_at}
use Rattle.enumeration.specs.declared.Bounds.{Bounds}

-- the four lists that the enumeration writes and finds again
pub record Lists : Type 0 where
  pub pleft : List ℕ
  pub pright : List ℕ
  pub plead : List ℕ
  pub mset : List ℕ

abbrev pub lists : List ℕ → List ℕ → List ℕ → List ℕ → Lists
lists a b c d = record { pleft = a; pright = b; plead = c; mset = d }

-- with the counts
pub record Store : Type 0 where
  pub held : Lists
  pub at : DPhyp

abbrev pub store : Lists → DPhyp → Store
store l p = record { held = l; at = p }

-- whether the search has stopped
abbrev pub stop_of : Store → Bool
stop_of st = is_some st.at.stop

-- ---- the memo

-- where the memo has s
abbrev pub spot_of : Store → ℕ → Option ℕ
spot_of st s = spot 0 (take st.at.memo st.held.mset) s

-- whether it has s
abbrev pub kept : Store → ℕ → Bool
kept st s = is_at (spot_of st s)

-- it has each leaf's set
pub record HasLeaves (b : Bounds) (st : Store) : Type 0 where
  pub leaf : (k : ℕ) → k < b.leaves → kept st (singleton k) ≡ true

-- ---- a visit

abbrev pub visit : ℕ → Store → Store
visit limit st = store st.held (visit_of limit st.at)

-- ---- a candidate

-- one candidate more, with the positions i, j and k
abbrev pub with_candidate : Store → ℕ → ℕ → ℕ → Store
with_candidate st i j k =
    let h = st.held in
    let p = st.at in
    let n = p.plans in
    store (lists (set h.pleft n i) (set h.pright n j) (set h.plead n k) h.mset) (counts (n + 1) p.memo p.visits p.stop)

-- one entry more, of the set s
abbrev pub with_entry : Store → ℕ → Store
with_entry st s =
    let h = st.held in
    let p = st.at in
    store (lists h.pleft h.pright h.plead (set h.mset p.memo s)) (counts p.plans (p.memo + 1) p.visits p.stop)

-- stopped with n
abbrev pub stopped : Store → Stop → Store
stopped st n = store st.held (counts st.at.plans st.at.memo st.at.visits (Some n))

-- the positions i and j stand for the two sets, whose union is s; the last argument: where the memo has s. "12 comes before 13, and neither
-- writes the trial"
unfoldable pub united : Bounds → Store → ℕ → ℕ → ℕ → Option ℕ → Store
united b st s i j (Some k) = with_candidate st i j k
united b st s i j None =
    elim (ltb st.at.memo b.memo_room) [ true ↦ with_entry (with_candidate st i j st.at.memo) s | false ↦ stopped st MemoFull ]

-- where the memo has the two sets, whose union is s: a pair is listed only if it has both
unfoldable pub paired : Bounds → Store → ℕ → Option ℕ → Option ℕ → Store
paired b st s None f = st
paired b st s (Some i) None = st
paired b st s (Some i) (Some j) =
    elim (ltb st.at.plans b.plan_room) [ true ↦ united b st s i j (spot_of st s) | false ↦ stopped st PlansFull ]

-- what becomes of the pair of s1 and s2
unfoldable pub attempt : Bounds → ℕ → ℕ → Store → Store
attempt b s1 s2 st =
    elim (is_some st.at.stop) [ true ↦ st | false ↦ paired b st (bit_or s1 s2) (spot_of st s1) (spot_of st s2) ]
