-- The run of an accepted sheet: what edge building and the search ask is there, and what they leave is what the definition's search leaves.
-- Assumes nothing.
use Rattle.std.specs.Prelude.{◌≡◌, List, [], ◌∷◌, map, ℕ, ◌≤◌, ◌<◌, length, get_or, take, drop}
use Rattle.std.proofs.Math.Path.{sym, ap, ap₂, subst}
use Rattle.std.proofs.Common.{◌∙◌, arith, length-append, length-take-le, get_or-take}
use Rattle.std.proofs.Math.ListN.{length-map, get_or-map}
use Rattle.nodeset.specs.SubsetLaws.{All}
use Rattle.definition.specs.Lists.{tabulate, column}
use Rattle.definition.proofs.AllLaws.{all_map, all_mapped}
use Rattle.definition.specs.Question.{Item, Predicate, open_question}
use Rattle.definition.specs.Sheet.{sheet_answer, question_of}
use Rattle.definition.proofs.SheetLaws.{accepted}
use Rattle.definition.specs.Accepted.{Sound}
use Rattle.definition.specs.Hypergraph.{Edge, Sided, no_edge}
use Rattle.definition.specs.EdgeView.{edge_at, edges_of}
use Rattle.definition.specs.Edges.{build_hypergraph, edge_count}
use Rattle.definition.proofs.EdgeLaws.{edges_sided}
use Rattle.definition.proofs.UntypedEdges.{untyped, untyped_input, search-untyped}
use Rattle.definition.specs.Question as question
use Rattle.definition.proofs.InputLaws.{leaves-counted, sound_edges-counted}
use Rattle.cost.specs.declared.Leaf as cost
use Rattle.cost.specs.View.{leaf_of}
use Rattle.definition.specs.Search.{Leaf, Input, State, search, complete, ending, chosen_plan}
use Rattle.definition.specs.Call.{Rooms, store_length, leaves_of, input_of, searched, leaves_in}
use Rattle.sheet.specs.Views.{Placed, sections_of}
use Rattle.sheet.specs.declared.Sections.{Sections}
use Rattle.sheet.specs.Placing.{placed-accepted}
use Rattle.candidate.specs.Store.{Lists, Store, Given, store, given, edges}
use Rattle.held.specs.Held.{input_for, holding, Roomy}
use Rattle.search.specs.View.{Ready, Ends, ending_number, chosen_of}
use Rattle.search.specs.declared.Searched.{Searched}
use Rattle.answer.specs.declared.Outcome.{Outcome}
use Rattle.answer.specs.Answers.{reported, ended_as}
use Rattle.builder.specs.Builds.{EdgeLists, edges_held, Longer}
use Rattle.cost.specs.declared.edges.Edges.{Edges}
use Rattle.run.specs.Lent.{Lent, rooms_in, holds, given_for, given_in, IsCut, Runs}
use Rattle.run.specs.FieldLaws.{front, read_all}
use Rattle.checks.specs.RoomLaws.{store_first, store-rest, Room, not_refused}

-- ---- a store is no longer than each of its lists

first_of : (a : ℕ) (ns : List ℕ) {x : ℕ} → x ≤ store_length (a ∷ ns) → x ≤ a
first_of a ns h = omega (arith, store_first a ns)

rest_of : (a : ℕ) (ns : List ℕ) {x : ℕ} → x ≤ store_length (a ∷ ns) → x ≤ store_length ns
rest_of a ns h = omega (arith, store-rest a ns)

within-edges : (h : Lent) (x : ℕ) → x ≤ (rooms_in h).edges → Longer x h.edges
within-edges h x z =
    let e = h.edges in
    let y = rest_of (length e.left) _ z in
    let w = rest_of (length e.right) _ y in
    let v = rest_of (length e.predicate) _ w in
    let u = rest_of (length e.source) _ v in
    record { left = first_of _ _ z; right = first_of _ _ y; predicate = first_of _ _ w; source = first_of _ _ v; kind = first_of _ _ u }

roomy : (g : Given) (h : Lent) → g.plan_room ≡ (rooms_in h).plans → g.memo_room ≡ (rooms_in h).memo → Roomy g h.plans
roomy g h e f =
    let p = h.plans in
    let a : g.plan_room ≤ (rooms_in h).plans = omega (arith, e) in
    let b = rest_of (length p.pset) _ a in
    let c = rest_of (length p.pleft) _ b in
    let d = rest_of (length p.pright) _ c in
    let i = rest_of (length p.plead) _ d in
    let j = rest_of (length p.pkind) _ i in
    let k = rest_of (length p.prows) _ j in
    let m : g.memo_room ≤ (rooms_in h).memo = omega (arith, f) in
    let n = rest_of (length p.mset) _ m in
    record {
      pset = first_of _ _ a;
      pleft = first_of _ _ b;
      pright = first_of _ _ c;
      plead = first_of _ _ d;
      pkind = first_of _ _ i;
      prows = first_of _ _ j;
      pcost = first_of _ _ k;
      mset = first_of _ _ m;
      mplan = first_of _ _ n;
    }

-- ---- edges read from the first places of the lists that hold them

-- a field's list is no shorter than its entries
pub long : {A : Type 0} (f : A → ℕ) (xs : List A) (l : List ℕ) → length xs ≤ length (column f xs l)
long f xs l = omega (arith, length-append (map f xs) (drop (length xs) l), length-map xs f)

module _ (es : List Edge) (h : EdgeLists) where
  abbrev lists : EdgeLists
  lists = edges_held es h

  abbrev cut : List ℕ → List ℕ
  cut l = take (length es) l

  -- a field's list, cut, has each edge's field at the edge's place
  cut_read : (f : Edge → ℕ) (l : List ℕ) (i : ℕ) → i < length es → get_or (cut (column f es l)) i 0 ≡ f (get_or es i no_edge)
  cut_read f l i z = get_or-take (length es) (column f es l) i 0 z ∙ front f es (drop (length es) l) no_edge 0 i z

  edge_read : (i : ℕ) → i < length es → edge_at (cut lists.left) (cut lists.right) (cut lists.predicate) (cut lists.source) [] i ≡ untyped (get_or es i no_edge)
  edge_read i z =
      cc (
        cut_read (λ (e : Edge). e.left) h.left i z,
        cut_read (λ (e : Edge). e.right) h.right i z,
        cut_read (λ (e : Edge). e.predicate) h.predicate i z,
        cut_read (λ (e : Edge). e.source) h.source i z,
      )

  edges_read : edges_of (length es) (cut lists.left) (cut lists.right) (cut lists.predicate) (cut lists.source) [] ≡ map untyped es
  unfolding edges_of
  edges_read =
      ap (λ (k : ℕ). tabulate k (edge_at (cut lists.left) (cut lists.right) (cut lists.predicate) (cut lists.source) [])) (sym (length-map es untyped))
      ∙ read_all (map untyped es) (untyped no_edge) (edge_at (cut lists.left) (cut lists.right) (cut lists.predicate) (cut lists.source) [])
      (λ i z. edge_read i (omega (arith, length-map es untyped)) ∙ sym (get_or-map untyped es i no_edge))

  -- as many as there are edges
  cut_length : length (cut lists.left) ≡ length es
  cut_length = length-take-le (length es) lists.left (long (λ (e : Edge). e.left) es h.left)

sided_untyped : (es : List Edge) → All Sided es → All Sided (map untyped es)
sided_untyped es a =
    all_mapped Sided untyped es (all_map (λ e s. record { left_some = s.left_some; left_set = s.left_set; right_some = s.right_some; right_set = s.right_set }) es a)

-- ---- what a run is given

module _ (bs : List ℕ) (rooms : Rooms) (h : Lent) (w : Runs bs rooms h) where
  sheet_passes : sheet_answer bs ≡ 0
  sheet_passes = (not_refused bs rooms w.accepted).0

  pub room : Room (question_of bs) rooms
  room = (not_refused bs rooms w.accepted).1

  pub run-placed : {s : Sections} → s ≡ sections_of bs → Placed bs s
  run-placed {s} e = placed-accepted bs s sheet_passes e

  pub run_sound : Sound (question_of bs)
  run_sound = (accepted bs sheet_passes).sound

  abbrev es : List Edge
  es = build_hypergraph (open_question (question_of bs))

  counted : length es ≡ edge_count (open_question (question_of bs)).items
  counted = sound_edges-counted (question_of bs) run_sound

  pub edges_fit : Longer (edge_count (open_question (question_of bs)).items) h.edges
  edges_fit = within-edges h _ (omega (arith, room.edges_fit, ap (λ (r : Rooms). r.edges) w.rooms_are))

  -- over the edges' lists x after the hand-over
  module _ (n : ℕ) (x : EdgeLists) (n-is : n ≡ length es) (x-is : x ≡ edges_held es h.edges) where
    fits : (f : EdgeLists → List ℕ) → length es ≤ length (f (edges_held es h.edges)) → n ≤ length (f x)
    fits f z = rw (n-is, x-is) z

    -- each list has a place for each edge
    pub run_longer : Longer n x
    run_longer =
        record {
          left = fits (λ y. y.left) (long (λ (e : Edge). e.left) es h.edges.left);
          right = fits (λ y. y.right) (long (λ (e : Edge). e.right) es h.edges.right);
          predicate = fits (λ y. y.predicate) (long (λ (e : Edge). e.predicate) es h.edges.predicate);
          source = fits (λ y. y.source) (long (λ (e : Edge). e.source) es h.edges.source);
          kind = fits (λ y. y.kind) (long (λ (e : Edge). e.type) es h.edges.kind);
        }

    pub run_few : n ≤ 256
    run_few = omega (arith, n-is, counted, room.few)

    -- the first n places of each, which the search is lent
    module _ (e : Edges) (e-is : IsCut n x e) where
      abbrev g : Given
      g = given_in (question_of bs) e rooms

      edges_are : edges g ≡ map untyped es
      edges_are =
          fields e-is.left e-is.right e-is.predicate e-is.source
          ∙ ap₂ (λ (k : ℕ) (y : EdgeLists). edges_of (length (take k y.left)) (take k y.left) (take k y.right) (take k y.predicate) (take k y.source) []) n-is x-is
          ∙ ap (λ (k : ℕ). edges_of k (take (length es) all.left) (take (length es) all.right) (take (length es) all.predicate) (take (length es) all.source) []) (cut_length es h.edges)
          ∙ edges_read es h.edges
        where
          all : EdgeLists
          all = edges_held es h.edges

          fields : {a b c d f k l m : List ℕ} → a ≡ f → b ≡ k → c ≡ l → d ≡ m → edges_of (length a) a b c d [] ≡ edges_of (length f) f k l m []
          fields p q r t = cc (p, q, r, t)

      pub run_ready : {m : ℕ} → m ≡ leaves_in bs → Ready g h.plans m
      run_ready z =
          record {
            sided = rw edges_are (sided_untyped es (edges_sided (open_question (question_of bs)) run_sound.few_leaves));
            leaves = omega (arith, z, run_sound.few_leaves);
            plans = omega (arith, z, room.plans_fit);
            memo = omega (arith, z, room.memo_fit);
            room = roomy g h (ap (λ (r : Rooms). r.plans) w.rooms_are) (ap (λ (r : Rooms). r.memo) w.rooms_are);
          }

      module _ (limit : ℕ) where
        abbrev I : Input
        I = input_of (question_of bs) rooms limit

        abbrev J : Input
        J = input_for g (leaves_of (question_of bs).items) limit

        input_is : J ≡ untyped_input I
        input_is = cc edges_are

        search_is : search (J) ≡ search I
        search_is = ap search input_is ∙ search-untyped I

        -- the lists that the search leaves, its counts and its ending
        module _ (p : Lists) (r : Searched) (done : store p r.counts ≡ holding h.plans (search (J))) (ends : Ends (J) r.ending) where
          all : store p r.counts ≡ holding h.plans (search I)
          all = done ∙ ap (holding h.plans) search_is

          pub run-lists : ◌≡◌ {A = Lent} (record { edges = x; plans = p }) (holds (searched I) h)
          unfolding searched
          run-lists = ap₂ (λ (e : EdgeLists) (l : Lists). record { edges = e; plans = l }) x-is (ap (λ (s : Store). s.held) all)

          pub run_answer : (o : Outcome) → o.ending ≡ r.ending → o.edges ≡ n → o.plans ≡ r.counts.plans → o.memo ≡ r.counts.memo → o.visits ≡ r.counts.visits
              → ended_as o ≡ reported (searched I)
          unfolding searched
          run_answer o a b c d e =
              let final : Ends I r.ending =
              subst (λ (st : State). (ending_number r.ending ≡ ending st.stop (complete I st)) × (chosen_of r.ending ≡ chosen_plan st.stop (complete I st)))
              (search-untyped I) (subst (λ (i : Input). Ends i r.ending) input_is ends) in
              cc (
                ap ending_number a ∙ final.0,
                ap chosen_of a ∙ final.1,
                b ∙ n-is,
                c ∙ ap (λ (s : Store). s.at.plans) all,
                d ∙ ap (λ (s : Store). s.at.memo) all,
                e ∙ ap (λ (s : Store). s.at.visits) all,
              )

-- ---- the tables as they are read

module _ (n : ℕ) (l r p s : List ℕ) (q : question.Question) (rooms : Rooms) {ks ss : List ℕ}
    (kinds : ks ≡ map (λ (i : Item). i.kind) q.items) (selectivities : ss ≡ map (λ (p : Predicate). p.selectivity) q.predicates) where
  pub search_asks : (h : Lists) (leaves : ℕ) → Ready (given_for q n l r p s rooms) h leaves → Ready (given n l r p s ks ss rooms.plans rooms.memo) h leaves
  search_asks h leaves w = rw (kinds, selectivities) w

  pub input_same : (limit : ℕ) {ls : List Leaf} → ls ≡ leaves_of q.items
      → input_for (given n l r p s ks ss rooms.plans rooms.memo) ls limit ≡ input_for (given_for q n l r p s rooms) (leaves_of q.items) limit
  input_same limit e = rw (kinds, selectivities, e)

-- as many leaves as the walk has
pub leaves_many : (bs : List ℕ) (ls : List cost.Leaf) {m : ℕ} → m ≡ leaves_in bs → map leaf_of ls ≡ leaves_of (question_of bs).items → length ls ≡ m
leaves_many bs ls e f = sym (length-map ls leaf_of) ∙ ap length f ∙ leaves-counted (question_of bs).items ∙ sym e
