-- The state of the search as it lies in the lent lists: nine lists, three counts and a stop; and how a plan is written into them.
use Rattle.std.specs.Prelude.{List, [], ℕ, ◌+◌, set, take, Float, Option}
use Rattle.nodeset.specs.declared.PlanId.{PlanId}
use Rattle.nodeset.specs.Sets.{singleton}
use Rattle.definition.specs.Question.{leaf}
use Rattle.definition.specs.Hypergraph.{Edge, none32}
use Rattle.definition.specs.EdgeView.{edges_of}
use Rattle.definition.specs.Cost.{Estimate}
use Rattle.cost.specs.declared.Estimate as declared
use Rattle.store.specs.declared.DPhyp.{DPhyp}
use Rattle.store.specs.Memo.{spot, kept_of, plan_id}
use Rattle.store.specs.Estimates.{estimate_at}
use Rattle.candidate.specs.declared.Candidate.{Candidate}
use Rattle.candidate.specs.declared.Place.{Place}

pub record Lists : Type 0 where
  pub pset : List ℕ
  pub pleft : List ℕ
  pub pright : List ℕ
  pub plead : List ℕ
  pub pkind : List ℕ
  pub prows : List Float
  pub pcost : List Float
  pub mset : List ℕ
  pub mplan : List ℕ

abbrev pub lists : List ℕ → List ℕ → List ℕ → List ℕ → List ℕ → List Float → List Float → List ℕ → List ℕ → Lists
lists a b c d e f g h i = record { pset = a; pleft = b; pright = c; plead = d; pkind = e; prows = f; pcost = g; mset = h; mplan = i }

pub record Store : Type 0 where
  pub held : Lists
  pub at : DPhyp

abbrev pub store : Lists → DPhyp → Store
store l p = record { held = l; at = p }

-- what the search is given beside its state: the first n edges, the items' kinds, the predicates' selectivities, the lengths of the stores
pub record Given : Type 0 where
  pub n : ℕ
  pub left : List ℕ
  pub right : List ℕ
  pub predicate : List ℕ
  pub source : List ℕ
  pub kinds : List ℕ
  pub selectivity : List ℕ
  pub plan_room : ℕ
  pub memo_room : ℕ

abbrev pub given : ℕ → List ℕ → List ℕ → List ℕ → List ℕ → List ℕ → List ℕ → ℕ → ℕ → Given
given n l r p s ks ss pr mr =
    record { n = n; left = l; right = r; predicate = p; source = s; kinds = ks; selectivity = ss; plan_room = pr; memo_room = mr }

-- the edges; the search does not read their types
abbrev pub edges : Given → List Edge
edges g = edges_of g.n g.left g.right g.predicate g.source []

-- ---- what is read

abbrev pub spot_of : Lists → DPhyp → ℕ → Option ℕ
spot_of h p s = spot 0 (take p.memo h.mset) s

-- the plan that the memo keeps for s
abbrev pub plan_for : Lists → DPhyp → ℕ → Option PlanId
plan_for h p s = kept_of h.mplan (spot_of h p s)

-- rows and cost of plan n
abbrev pub at : Lists → ℕ → Estimate
at h n = estimate_at h.prows h.pcost n

-- ---- what is written

abbrev pub place : ℕ → ℕ → ℕ → Place
place position best entries = record { position = position; best = plan_id best; entries = entries }

abbrev pub as_struct : Estimate → declared.Estimate
as_struct e = record { rows = e.rows; cost = e.cost }

-- s: the set; l and r: the plans of its two sides
abbrev pub made : ℕ → ℕ → ℕ → ℕ → ℕ → Estimate → Place → Candidate
made s l r lead kind e p =
    record { set = s; left = plan_id l; right = plan_id r; lead = lead; kind = kind; estimate = as_struct e; place = p }

-- plan n, and the plan that the memo's entry names
abbrev pub written : Lists → ℕ → Candidate → Lists
written h n c =
    lists (set h.pset n c.set) (set h.pleft n c.left.0) (set h.pright n c.right.0) (set h.plead n c.lead) (set h.pkind n c.kind)
    (set h.prows n c.estimate.rows) (set h.pcost n c.estimate.cost) h.mset (set h.mplan c.place.position c.place.best.0)

-- entry k of the memo has the set s
abbrev pub entered : Lists → ℕ → ℕ → Lists
entered h k s = lists h.pset h.pleft h.pright h.plead h.pkind h.prows h.pcost (set h.mset k s) h.mplan

-- "A leaf names itself twice, lead edge 4,294,967,295, kind 9": plan and memo entry k
abbrev pub leaf_written : Lists → ℕ → Estimate → Lists
leaf_written h k e = written (entered h k (singleton k)) k (made (singleton k) k k none32 leaf e (place k k (k + 1)))
