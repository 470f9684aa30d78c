-- Begun from the leaves, the enumeration leaves in the lists what the definition's `enumerate` lists, and everything else as it was. Assumes nothing.
use Rattle.std.specs.Prelude.{◌≡◌, refl, Bool, true, false, ◌&&◌, ◌||◌, List, [], ◌∷◌, ◌++◌, map, ℕ, suc, ◌+◌, ◌-◌, ◌<◌, ◌≤◌, length, get_or, set}
use Rattle.std.specs.Prelude.{take, drop, eqb, ltb}
use Rattle.std.specs.Prelude.{Option, None, Some, is_some}
use Rattle.std.proofs.Common.{sym, ap, ap₂, ◌∙◌, add-zero, zero-add, add-one, arith, length-append, length-take-le, length-drop, take-append-drop}
use Rattle.std.proofs.Common.{take_at, get_or-append-add, eqb-true, ltb-true, ltb-false}
use Rattle.std.proofs.Math.ListN.{get_or-append}
use Rattle.std.proofs.lemmas.List.{length-map, set-append_right, get_or-map}
use Rattle.std.specs.Int.Bits.{bit_or}
use Rattle.nodeset.specs.SubsetLaws.{All}
use Rattle.definition.specs.Answers.{plans_full, memo_full, visits_spent}
use Rattle.definition.specs.Lists.{member, column}
use Rattle.definition.specs.Hypergraph.{Edge, Sided, has_edge, neighborhood}
use Rattle.definition.specs.EdgeView.{edges_of}
use Rattle.definition.specs.Search.{Input}
use Rattle.definition.specs.Walk as walk
use Rattle.definition.proofs.WalkLaws.{solve_rel}
use Rattle.definition.specs.TwoPasses.{Positions, Enumeration, candidate_at, entered, position_of, halted, count_visit, positions, with_entry}
use Rattle.definition.specs.TwoPasses.{listed, list_if_room, list_pair, leaves_entered, enumerate}
use Rattle.definition.proofs.TwoPassesEnumerationLaws.{leaf_sets-length, position_new}
use Rattle.definition.proofs.TwoPassesHeld.{in_front, put, put_column}
use Rattle.store.specs.declared.Stop.TheVariants.{PlansFull}
use Rattle.store.specs.Counts.{counts, visit_of, stop_with}
use Rattle.store.specs.Memo.{spot, is_at}
use Rattle.store.specs.Laws.{visit-stopped, visit_under, visit_over}
use Rattle.enumeration.specs.declared.Bounds.{Bounds}
use Rattle.enumeration.specs.Store.{Lists, Store, lists, store, spot_of, kept, visit, stopped, united, paired, attempt}
use Rattle.enumeration.specs.Walks.{solve_from, solve}
use Rattle.enumeration.specs.Held.{behind, holding, Roomy, Bounded}
use Rattle.enumeration.proofs.Laws.{attempt_frozen}
use Rattle.enumeration.proofs.SameWalk.{solve_same, neighbors_same, connects_same}

-- ---- where the memo has a set

abbrev found : Bool → ℕ → Option ℕ
found m i = elim m [ true ↦ Some i | false ↦ None ]

spot_is : (i : ℕ) (l : List ℕ) (s : ℕ) → spot i l s ≡ found (member s l) (i + position_of l s)
unfolding spot member position_of
spot_is i [] s = refl
spot_is i (x ∷ l) s = go (eqb x s) (spot_is (suc i) l s)
  where
    go : (b : Bool) → spot (suc i) l s ≡ found (member s l) (suc i + position_of l s)
        → ◌≡◌ {A = Option ℕ} (elim b [ true ↦ Some i | false ↦ spot (suc i) l s ])
        (found (b || member s l) (i + elim b [ true ↦ 0 | false ↦ suc (position_of l s) ]))
    go true e = ap (λ (n : ℕ). Some n) (sym (add-zero i))
    go false e = let q : suc i + position_of l s ≡ i + suc (position_of l s) = omega arith in e ∙ ap (found (member s l)) q

-- ---- one candidate more in a list of the plan store

put_behind : (n : ℕ) (f : Positions → ℕ) (ts : List Positions) (x : Positions) (h : List ℕ) → n + length ts < length h
    → set (behind n f ts h) (n + length ts) (f x) ≡ behind n f (ts ++ (x ∷ [])) h
put_behind n f ts x h l =
    let front : length (take n h) ≡ n = length-take-le n h (omega arith) in
    let at : n + length ts - n ≡ length ts = omega arith in
    set-append_right (take n h) (column f ts (drop n h)) n (n + length ts) (f x) front (omega arith)
    ∙ ap (λ (k : ℕ). take n h ++ set (column f ts (drop n h)) k (f x)) at
    ∙ ap (λ (r : List ℕ). take n h ++ r) (put_column f ts x (drop n h) 0 (omega (arith, length-drop n h)))

-- what the costing reads: candidate k's position
pub behind_at : (n : ℕ) (f : Positions → ℕ) (ts : List Positions) (h : List ℕ) (k : ℕ) → n ≤ length h → k < length ts
    → get_or (behind n f ts h) (n + k) 0 ≡ f (candidate_at ts k)
behind_at n f ts h k l q =
    let front : length (take n h) ≡ n = length-take-le n h l in
    ap (λ (m : ℕ). get_or (behind n f ts h) (m + k) 0) (sym front)
    ∙ get_or-append-add (take n h) (column f ts (drop n h)) k 0
    ∙ get_or-append (map f ts) (drop (length ts) (drop n h)) 0 k (omega (arith, length-map ts f))
    ∙ get_or-map f ts k (record { left = 0; right = 0; union = 0 }) 0 q

-- ---- the stop's number

stop_off : (n : ℕ) → eqb n 0 ≡ true → stop_with n ≡ None
stop_off n e = ap stop_with (eqb-true n 0 e)

stop_on : (n : ℕ) → eqb n 0 ≡ false → is_some (stop_with n) ≡ true
stop_on n e = rw (e, is_some)

elim_same : (y : Bool) {u v : Store} → u ≡ v → elim y [ true ↦ u | false ↦ v ] ≡ v
elim_same true e = e
elim_same false e = refl

-- ---- a visit and a candidate

module _ (es : List Edge) (b : Bounds) (i : Input) (h : Lists) (room : Roomy b h) (is : Bounded b i) where
  abbrev n : ℕ
  n = length i.leaves

  abbrev H : Enumeration → Store
  H t = holding h n t

  spot_held : (t : Enumeration) (s : ℕ) → spot_of (H t) s ≡ found (entered t s) (position_of t.sets s)
  spot_held t s =
      ap (λ (l : List ℕ). spot 0 l s) (take_at t.sets _ (length t.sets) refl)
      ∙ spot_is 0 t.sets s
      ∙ ap (found (entered t s)) (zero-add (position_of t.sets s))

  kept_held : (t : Enumeration) (s : ℕ) → kept (H t) s ≡ entered t s
  kept_held t s = ap is_at (spot_held t s) ∙ go (entered t s)
    where
      go : (y : Bool) → is_at (found y (position_of t.sets s)) ≡ y
      go true = refl
      go false = refl

  visit_held : (t : Enumeration) → visit b.limit (H t) ≡ H (count_visit i t)
  unfolding count_visit
  visit_held t = go (eqb t.stop 0) refl (ltb t.visits i.limit) refl
    where
      on : (u : Enumeration) → count_visit i t ≡ u → visit_of b.limit (H t).at ≡ (H u).at → (H t).held ≡ (H u).held
          → visit b.limit (H t) ≡ H (count_visit i t)
      on u e q r = rw e (ap₂ store r q)

      go : (x : Bool) → eqb t.stop 0 ≡ x → (y : Bool) → ltb t.visits i.limit ≡ y → visit b.limit (H t) ≡ H (count_visit i t)
      go false d y k = on t (rw (d, count_visit)) (sym (visit-stopped b.limit (H t).at (stop_on t.stop d))) refl
      go true d true k =
          on (record { candidates = t.candidates; sets = t.sets; visits = suc t.visits; stop = 0 }) (rw (d, count_visit, k))
          (sym (visit_under b.limit (H t).at (ap is_some (stop_off t.stop d)) (omega (arith, ltb-true _ _ k, is.limit)))
          ∙ rw (stop_off t.stop d, add-one)) refl
      go true d false k =
          on (halted t visits_spent) (rw (d, count_visit, k))
          (sym (visit_over b.limit (H t).at (ap is_some (stop_off t.stop d)) (omega (arith, ltb-false _ _ k, is.limit)))) refl

  -- what the code does with the pair where an edge connects it, and nothing else
  unfoldable pub gated : ℕ → ℕ → Store → Store
  gated a c st = elim (has_edge i.edges a c) [ true ↦ attempt b a c st | false ↦ st ]

  module _ (t : Enumeration) (a c : ℕ) where
    abbrev s : ℕ
    s = bit_or a c

    abbrev x : Positions
    x = positions t.sets a c

    abbrev N : ℕ
    N = n + length t.candidates

    abbrev M : ℕ
    M = length t.sets

    abbrev with_sets : List ℕ → Enumeration
    with_sets ss = record { candidates = t.candidates ++ (x ∷ []); sets = ss; visits = t.visits; stop = 0 }

    -- the candidate listed; the memo's sets are ss then
    listed_is : eqb t.stop 0 ≡ true → N < b.plan_room → (k : ℕ) → k ≡ x.union → (m ss : List ℕ) → m ≡ in_front ss h.mset → (w : ℕ) → w ≡ length ss
        → let l = (H t).held in
        store (lists (set l.pleft N x.left) (set l.pright N x.right) (set l.plead N k) m) (counts (N + 1) w t.visits (stop_with t.stop)) ≡ H (with_sets ss)
    listed_is d l k ek m ss em w ew =
        let e : N + 1 ≡ n + length (t.candidates ++ (x ∷ [])) = omega (arith, length-append t.candidates (x ∷ [])) in
        rw (
          ek,
          em,
          ew,
          stop_off t.stop d,
          put_behind n (λ (y : Positions). y.left) t.candidates x h.pleft (omega (arith, room.pleft)),
          put_behind n (λ (y : Positions). y.right) t.candidates x h.pright (omega (arith, room.pright)),
          put_behind n (λ (y : Positions). y.union) t.candidates x h.plead (omega (arith, room.plead)),
          e,
        )

    -- the union has an entry, or gets one, or the memo is full
    united_held : eqb t.stop 0 ≡ true → N < b.plan_room → united b (H t) s x.left x.right (spot_of (H t) s)
        ≡ H (elim (entered t s || ltb M i.memo_room) [ true ↦ listed t a c | false ↦ halted t memo_full ])
    unfolding united
    united_held d l = ap (united b (H t) s x.left x.right) (spot_held t s) ∙ go (entered t s) refl
      where
        fresh : entered t s ≡ false → (q : Bool) → q ≡ ltb M b.memo_room
            → united b (H t) s x.left x.right None ≡ H (elim q [ true ↦ with_sets (t.sets ++ (s ∷ [])) | false ↦ halted t memo_full ])
        fresh e true q =
            let w : M < b.memo_room = ltb-true _ _ (sym q) in
            rw (← q, united)
            (listed_is d l M (sym (position_new t.sets s e)) _ (t.sets ++ (s ∷ [])) (put t.sets s h.mset 0 (omega (arith, room.mset))) (M + 1)
            (sym (length-append t.sets (s ∷ []))))
        fresh e false q = rw (← q, united)

        go : (u : Bool) → entered t s ≡ u → united b (H t) s x.left x.right (found u (position_of t.sets s))
            ≡ H (elim (u || ltb M i.memo_room) [ true ↦ with_sets (with_entry t.sets s u) | false ↦ halted t memo_full ])
        go true e = listed_is d l (position_of t.sets s) refl _ t.sets refl M refl
        go false e = fresh e (ltb M i.memo_room) (ap (ltb M) is.memo_room)

    abbrev done : Store
    done = elim (ltb N b.plan_room) [ true ↦ united b (H t) s x.left x.right (spot_of (H t) s) | false ↦ stopped (H t) PlansFull ]

    room_held : eqb t.stop 0 ≡ true → done ≡ H (list_if_room i t a c)
    room_held d = go (ltb N i.plan_room) (ap (ltb N) is.plan_room)
      where
        go : (r : Bool) → r ≡ ltb N b.plan_room
            → done ≡ H (elim r [
              | true ↦ elim (entered t s || ltb M i.memo_room) [ true ↦ listed t a c | false ↦ halted t memo_full ]
              | false ↦ halted t plans_full
            ])
        go true e = rw (← e, done) (united_held d (ltb-true _ _ (sym e)))
        go false e = rw (← e, done)

    paired_held : (y z : Bool) → paired b (H t) s (found y x.left) (found z x.right)
        ≡ elim y [ true ↦ elim z [ true ↦ done | false ↦ H t ] | false ↦ H t ]
    unfolding paired
    paired_held true true = refl
    paired_held true false = refl
    paired_held false z = refl

    runs : eqb t.stop 0 ≡ true
        → attempt b a c (H t) ≡ elim (entered t a) [ true ↦ elim (entered t c) [ true ↦ done | false ↦ H t ] | false ↦ H t ]
    unfolding attempt
    runs d =
        let off : is_some (stop_with t.stop) ≡ false = ap is_some (stop_off t.stop d) in
        rw (off, attempt)
        (ap₂ (λ (f k : Option ℕ). paired b (H t) s f k) (spot_held t a) (spot_held t c) ∙ paired_held (entered t a) (entered t c))

    pair_held : gated a c (H t) ≡ H (list_pair i a c t)
    unfolding gated list_pair
    pair_held = go (eqb t.stop 0) refl
      where
        on : (u : Enumeration) → list_pair i a c t ≡ u → gated a c (H t) ≡ H u → gated a c (H t) ≡ H (list_pair i a c t)
        on u e q = q ∙ ap H (sym e)

        tests : eqb t.stop 0 ≡ true → (e p q : Bool)
            → ◌≡◌ {A = Store} (elim e [ true ↦ elim p [ true ↦ elim q [ true ↦ done | false ↦ H t ] | false ↦ H t ] | false ↦ H t ])
            (H (elim (p && q && e) [ true ↦ list_if_room i t a c | false ↦ t ]))
        tests d true true true = room_held d
        tests d true true false = refl
        tests d true false q = refl
        tests d false true true = refl
        tests d false true false = refl
        tests d false false q = refl

        go : (y : Bool) → eqb t.stop 0 ≡ y → gated a c (H t) ≡ H (list_pair i a c t)
        go false d = on t (rw (d, list_pair)) (elim_same (has_edge i.edges a c) (attempt_frozen b a c (H t) (stop_on t.stop d)))
        go true d =
            on (elim (entered t a && entered t c && has_edge i.edges a c) [ true ↦ list_if_room i t a c | false ↦ t ]) (rw (d, list_pair))
            (ap {B = Store} (λ (w : Store). elim (has_edge i.edges a c) [ true ↦ w | false ↦ H t ]) (runs d)
            ∙ tests d (has_edge i.edges a c) (entered t a) (entered t c))

  gated_same : (a c : ℕ) (st : Store) → has_edge i.edges a c ≡ true → attempt b a c st ≡ gated a c st
  unfolding gated
  gated_same a c st e = ap {B = Store} (λ (w : Bool). elim w [ true ↦ attempt b a c st | false ↦ st ]) (sym e)

  -- from the lists that hold the leaves to those that hold what the definition lists
  walk_held : ((s x : ℕ) → neighborhood es s x ≡ neighborhood i.edges s x) → ((a c : ℕ) → has_edge es a c ≡ has_edge i.edges a c)
      → All Sided i.edges → (st : Store) → st ≡ H (leaves_entered i) → solve es b st ≡ H (enumerate i)
  unfolding solve_from enumerate
  walk_held neighbors edge sided st e =
      solve_same es i.edges neighbors edge Store kept (visit b.limit) (attempt b) gated gated_same b.leaves b.leaves st
      ∙ ap (λ (k : ℕ). walk.solve_from i.edges Store kept (visit b.limit) gated k k st) (sym is.leaves)
      ∙ solve_rel i.edges sided Store kept (visit b.limit) gated Enumeration entered (count_visit i) (list_pair i)
      (λ (u : Store) (t : Enumeration). u ≡ H t) (λ u t r c. ap (λ (w : Store). kept w c) r ∙ kept_held t c)
      (λ u t r. ap (visit b.limit) r ∙ visit_held t) (λ a c k u t r. ap (gated a c) r ∙ pair_held t a c) (length i.leaves) st (leaves_entered i) e

-- ---- the lists before the first visit: the memo's sets begin with the leaves'

start_held : (i : Input) (h : Lists) → take (length i.leaves) h.mset ≡ (leaves_entered i).sets
    → store h (counts (length i.leaves) (length i.leaves) 0 None) ≡ holding h (length i.leaves) (leaves_entered i)
unfolding leaves_entered
start_held i h e =
    let k = length i.leaves in
    let m : length (leaves_entered i).sets ≡ k = leaf_sets-length i.leaves in
    rw (take-append-drop k h.pleft, take-append-drop k h.pright, take-append-drop k h.plead, m, ← e, take-append-drop k h.mset, add-zero)

-- The enumeration over the sides of the input's edges, begun when the leaves' plans and memo entries are written.
pub solve_held : (n : ℕ) (l r p c t : List ℕ) (b : Bounds) (i : Input) (h : Lists) → Roomy b h → Bounded b i → i.edges ≡ edges_of n l r p c t
    → All Sided i.edges → take (length i.leaves) h.mset ≡ (leaves_entered i).sets
    → solve (edges_of n l r [] [] []) b (store h (counts (length i.leaves) (length i.leaves) 0 None)) ≡ holding h (length i.leaves) (enumerate i)
solve_held n l r p c t b i h room is e sided first =
    walk_held (edges_of n l r [] [] []) b i h room is
    (λ s x. neighbors_same n l r [] [] [] p c t s x ∙ ap (λ (es : List Edge). neighborhood es s x) (sym e))
    (λ a d. connects_same n l r [] [] [] p c t a d ∙ ap (λ (es : List Edge). has_edge es a d) (sym e)) sided _ (start_held i h first)
