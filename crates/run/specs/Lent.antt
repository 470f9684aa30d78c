-- The lent lists, their lengths as stores, and what a call leaves in them. Definitions only.
use Rattle.std.specs.Prelude.{◌≡◌, List, [], ◌∷◌, map, ℕ, length, take, Float}
use Rattle.definition.specs.Lists.{column}
use Rattle.definition.specs.Question as question
use Rattle.definition.specs.Question.{Item, Predicate}
use Rattle.definition.specs.Search.{Plan, Entry}
use Rattle.definition.specs.Call.{Rooms, rooms_of, Outcome, refused_with}
use Rattle.cost.specs.declared.edges.Edges.{Edges}
use Rattle.builder.specs.Builds.{EdgeLists, edge_lists, edge_lists_of, edges_held}
use Rattle.builder.specs.declared.EdgeLists as builder
use Rattle.store.specs.declared.lent.Lists as store
use Rattle.candidate.specs.Store.{Lists, Given, lists, given}
use Rattle.candidate.specs.Lent.{lists_of}

-- "A store is one lent list for each field": the edges', and those of the plans and the memo
pub record Lent : Type 0 where
  pub edges : EdgeLists
  pub plans : Lists

abbrev pub lent : List ℕ → List ℕ → List ℕ → List ℕ → List ℕ → List ℕ → List ℕ → List ℕ → List ℕ → List ℕ → List Float → List Float → List ℕ → List ℕ → Lent
lent a b c d e f g h i j k l m n =
    record { edges = edge_lists a b c d e; plans = lists f g h i j k l m n }

-- what is behind the references of both structs
abbrev pub lent_of : builder.EdgeLists → store.Lists → Lent
lent_of e l = record { edges = edge_lists_of e; plans = lists_of l }

abbrev pub rooms_in : Lent → Rooms
rooms_in h =
    let e = h.edges in
    let p = h.plans in
    rooms_of (length e.left ∷ length e.right ∷ length e.predicate ∷ length e.source ∷ length e.kind ∷ [])
    (length p.pset ∷ length p.pleft ∷ length p.pright ∷ length p.plead ∷ length p.pkind ∷ length p.prows ∷ length p.pcost ∷ [])
    (length p.mset ∷ length p.mplan ∷ [])

abbrev pub plans_held : List Plan → List Entry → Lists → Lists
plans_held ps m h =
    lists (column (λ (p : Plan). p.set) ps h.pset) (column (λ (p : Plan). p.left) ps h.pleft) (column (λ (p : Plan). p.right) ps h.pright)
    (column (λ (p : Plan). p.lead) ps h.plead) (column (λ (p : Plan). p.kind) ps h.pkind) (column (λ (p : Plan). p.estimate.rows) ps h.prows)
    (column (λ (p : Plan). p.estimate.cost) ps h.pcost) (column (λ (e : Entry). e.set) m h.mset) (column (λ (e : Entry). e.plan) m h.mplan)

-- "exactly the edges, plans and memo entries made so far, with the remaining places untouched"
abbrev pub holds : Outcome → Lent → Lent
holds o h = record { edges = edges_held o.edges h.edges; plans = plans_held o.plans o.memo h.plans }

-- what the search is given beside its lists: the first n edges, and the kinds and selectivities of the question
abbrev pub given_for : question.Question → ℕ → List ℕ → List ℕ → List ℕ → List ℕ → Rooms → Given
given_for q n l r p s rooms =
    given n l r p s (map (λ (i : Item). i.kind) q.items) (map (λ (p : Predicate). p.selectivity) q.predicates) rooms.plans rooms.memo

-- the same of edges that stand in slices
abbrev pub given_in : question.Question → Edges → Rooms → Given
given_in q e rooms = given_for q (length e.left.now) e.left.now e.right.now e.predicate.now e.source.now rooms

-- e: the first n places of the edges' lists
pub record IsCut (n : ℕ) (h : EdgeLists) (e : Edges) : Type 0 where
  pub left : e.left.now ≡ take n h.left
  pub right : e.right.now ≡ take n h.right
  pub predicate : e.predicate.now ≡ take n h.predicate
  pub source : e.source.now ≡ take n h.source

-- what the run of an accepted sheet is given
pub record Runs (bs : List ℕ) (rooms : Rooms) (h : Lent) : Type 0 where
  pub accepted : refused_with bs rooms ≡ 0
  pub rooms_are : rooms ≡ rooms_in h
