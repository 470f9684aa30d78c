-- What is read back is the definition's outcome. Assumes nothing.
use Rattle.std.specs.Prelude.{◌≡◌, List, ℕ, length, get_or, drop, Float}
use Rattle.std.proofs.Common.{sym, ap, ap₂, ◌∙◌}
use Rattle.definition.specs.Lists.{tabulate}
use Rattle.definition.specs.Hypergraph.{Edge, no_edge}
use Rattle.definition.specs.EdgeView.{edge_at, edges_of}
use Rattle.definition.specs.Search.{Plan, Entry, Pair, absent}
use Rattle.definition.specs.PlanRule.{pairs_in}
use Rattle.definition.specs.Call.{Outcome}
use Rattle.store.specs.Estimates as estimates
use Rattle.candidate.specs.Store.{Lists}
use Rattle.answer.specs.Answers.{reported}
use Rattle.builder.specs.Builds.{EdgeLists, edges_held}
use Rattle.run.specs.FieldLaws.{front, read_all}
use Rattle.run.specs.Lent.{Lent, plans_held, holds}
use Rattle.planner.specs.ReadBack.{plan_in, entry_in, read_back}

-- an entry is its fields
edge_is : (e : Edge) {a b c d f : ℕ} → a ≡ e.left → b ≡ e.right → c ≡ e.predicate → d ≡ e.source → f ≡ e.type
    → ◌≡◌ {A = Edge} (record { left = a; right = b; predicate = c; source = d; type = f }) e
edge_is e p q r s t = fields p q r s t
  where
    fields : {a b c d f g h i j k : ℕ} → a ≡ g → b ≡ h → c ≡ i → d ≡ j → f ≡ k
        → ◌≡◌ {A = Edge} (record { left = a; right = b; predicate = c; source = d; type = f }) (record { left = g; right = h; predicate = i; source = j; type = k })
    fields p q r s t = cc

plan_is : (e : Plan) {a b c d f : ℕ} {x y : Float} → a ≡ e.set → b ≡ e.left → c ≡ e.right → d ≡ e.lead → f ≡ e.kind → x ≡ e.estimate.rows → y ≡ e.estimate.cost
    → ◌≡◌ {A = Plan} (record { set = a; left = b; right = c; lead = d; kind = f; estimate = record { rows = x; cost = y } }) e
plan_is e p q r s t u v = fields p q r s t u v
  where
    fields : {a b c d f g h i j k : ℕ} {x y z w : Float} → a ≡ g → b ≡ h → c ≡ i → d ≡ j → f ≡ k → x ≡ z → y ≡ w
        → ◌≡◌ {A = Plan} (record { set = a; left = b; right = c; lead = d; kind = f; estimate = record { rows = x; cost = y } })
        (record { set = g; left = h; right = i; lead = j; kind = k; estimate = record { rows = z; cost = w } })
    fields p q r s t u v = cc

module _ (es : List Edge) (h : EdgeLists) where
  abbrev held : EdgeLists
  held = edges_held es h

  edges_back : edges_of (length es) held.left held.right held.predicate held.source held.kind ≡ es
  unfolding edges_of
  edges_back =
      read_all es no_edge (edge_at held.left held.right held.predicate held.source held.kind)
      (λ i z. edge_is (get_or es i no_edge)
      (front (λ (e : Edge). e.left) es (drop (length es) h.left) no_edge 0 i z)
      (front (λ (e : Edge). e.right) es (drop (length es) h.right) no_edge 0 i z)
      (front (λ (e : Edge). e.predicate) es (drop (length es) h.predicate) no_edge 0 i z)
      (front (λ (e : Edge). e.source) es (drop (length es) h.source) no_edge 0 i z)
      (front (λ (e : Edge). e.type) es (drop (length es) h.kind) no_edge 0 i z))

module _ (ps : List Plan) (m : List Entry) (h : Lists) where
  abbrev lists : Lists
  lists = plans_held ps m h

  plans_back : tabulate (length ps) (plan_in lists) ≡ ps
  plans_back =
      read_all ps absent (plan_in lists)
      (λ i z. plan_is (get_or ps i absent)
      (front (λ (p : Plan). p.set) ps (drop (length ps) h.pset) absent 0 i z)
      (front (λ (p : Plan). p.left) ps (drop (length ps) h.pleft) absent 0 i z)
      (front (λ (p : Plan). p.right) ps (drop (length ps) h.pright) absent 0 i z)
      (front (λ (p : Plan). p.lead) ps (drop (length ps) h.plead) absent 0 i z)
      (front (λ (p : Plan). p.kind) ps (drop (length ps) h.pkind) absent 0 i z)
      (front (λ (p : Plan). p.estimate.rows) ps (drop (length ps) h.prows) absent estimates.zero i z)
      (front (λ (p : Plan). p.estimate.cost) ps (drop (length ps) h.pcost) absent estimates.zero i z))

  memo_back : tabulate (length m) (entry_in lists) ≡ m
  memo_back =
      let none : Entry = record { set = 0; plan = 0 } in
      read_all m none (entry_in lists)
      (λ i z. ap₂ (λ (s p : ℕ). record { set = s; plan = p })
      (front (λ (e : Entry). e.set) m (drop (length m) h.mset) none 0 i z)
      (front (λ (e : Entry). e.plan) m (drop (length m) h.mplan) none 0 i z))

pub read_back_lem : (n : ℕ) (o : Outcome) (h : Lent) → o.tried ≡ pairs_in n o.plans → read_back n (reported o) (holds o h) ≡ o
read_back_lem n o h e =
    let plans = plans_back o.plans o.memo h.plans in
    fields (edges_back o.edges h.edges) plans (memo_back o.plans o.memo h.plans) (ap (pairs_in n) plans ∙ sym e)
  where
    fields : {es fs : List Edge} {ps qs : List Plan} {l m : List Entry} {ts us : List Pair} → es ≡ fs → ps ≡ qs → l ≡ m → ts ≡ us
        → ◌≡◌ {A = Outcome} (record { answer = o.answer; edges = es; plans = ps; memo = l; visits = o.visits; chosen = o.chosen; tried = ts })
        (record { answer = o.answer; edges = fs; plans = qs; memo = m; visits = o.visits; chosen = o.chosen; tried = us })
    fields a b c d = cc
