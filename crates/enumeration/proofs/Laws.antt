-- Laws of the walk over the lent lists: what each of its steps keeps, so the whole; the equations that the loops begin and go on with.
-- Assumes nothing.
use Rattle.std.specs.Prelude.{◌≡◌, refl, Bool, ◌&&◌, List, [], ◌∷◌, ℕ, zero, suc, ◌+◌, ◌-◌, ◌<◌, ◌≤◌, length, get_or, take, ltb, eqb}
use Rattle.std.specs.Prelude.{Option, None, Some, is_some}
use Rattle.std.proofs.Common.{sym, eq-eqb, ◌∙◌, add-one, arith, subst}
use Rattle.std.proofs.Math.Path.{ap}
use Rattle.std.proofs.Math.Bool.{true, false}
use Rattle.std.proofs.lemmas.Bool.{false≢true}
use Rattle.std.proofs.lemmas.List.{take-take, take-set}
use Rattle.std.specs.Int.Bits.{bit_or}
use Rattle.nodeset.specs.Sets.{singleton, all_below, up_to_lowest}
use Rattle.nodeset.specs.Subsets.{non_empty_subsets, singletons}
use Rattle.definition.specs.Hypergraph.{Edge, neighborhood, has_edge}
use Rattle.definition.specs.Walk as walk
use Rattle.definition.specs.Walk.{each}
use Rattle.store.specs.declared.DPhyp.{DPhyp}
use Rattle.store.specs.declared.Stop.TheVariants.{PlansFull, VisitsSpent}
use Rattle.store.specs.Counts.{counts, visit_of}
use Rattle.store.specs.Memo.{spot, is_at}
use Rattle.store.specs.Laws.{visit-stopped}
use Rattle.enumeration.specs.declared.Bounds.{Bounds}
use Rattle.enumeration.specs.declared.Entry.{Entry}
use Rattle.enumeration.specs.declared.OpenLists.{OpenLists}
use Rattle.enumeration.specs.Lent.{store_of, Indexed, Ready}
use Rattle.enumeration.specs.Store.{Store, store, stop_of, spot_of, kept, HasLeaves, visit, stopped, united, paired, attempt}
use Rattle.enumeration.specs.Walks.{try_connected, enumerate_cmp_rec, visit_try, visit_tries, visit_cmp, try_neighbor, emit_csg, emit_kept}
use Rattle.enumeration.specs.Walks.{enumerate_csg_rec, visit_emit, visit_csg}
use Rattle.enumeration.specs.Walks.{solve_from, solve_leaf}
use Rattle.enumeration.proofs.SameWalk.{each_same}
use Rattle.enumeration.proofs.SubsetPasses.{Preorder, each_keeps, TwoPass, two_keeps, again_keeps}

-- ---- a visit writes no entry

pub visit_memo : (limit : ℕ) (p : DPhyp) → (visit_of limit p).memo ≡ p.memo
unfolding visit_of
visit_memo limit p = go (is_some p.stop) (ltb p.visits limit)
  where
    go : (x y : Bool)
        → let on : DPhyp = elim y [ true ↦ counts p.plans p.memo (p.visits + 1) p.stop | false ↦ counts p.plans p.memo p.visits (Some VisitsSpent) ] in
        let q : DPhyp = elim x [ true ↦ p | false ↦ on ] in
        q.memo ≡ p.memo
    go true y = refl
    go false true = refl
    go false false = refl

-- ---- the pair of a set that has no entry

attempt_without : (b : Bounds) (s1 c : ℕ) (st : Store) → kept st c ≡ false → attempt b s1 c st ≡ st
unfolding attempt paired
attempt_without b s1 c st h = go (is_some st.at.stop) (spot_of st s1) (spot_of st c) h
  where
    go : (x : Bool) (f g : Option ℕ) → is_at g ≡ false → elim x [ true ↦ st | false ↦ paired b st (bit_or s1 c) f g ] ≡ st
    go true f g e = refl
    go false None g e = refl
    go false (Some i) None e = refl
    go false (Some i) (Some j) e = absurd (false≢true (sym e))

-- ---- what holds of each step of the walk

pub record Steps (b : Bounds) (R : Store → Store → Type 0) : Type 0 where
  pub order : Preorder R
  pub visit : (st : Store) → R st (visit b.limit st)
  pub attempt : (s1 s2 : ℕ) (st : Store) → R st (attempt b s1 s2 st)

module _ (es : List Edge) (b : Bounds) where
  pub cmp_two : (s1 : ℕ) → TwoPass (visit b.limit) (neighborhood es) (visit_try es b s1) (λ d s2 x. enumerate_cmp_rec es b d s1 s2 x)
  unfolding enumerate_cmp_rec walk.enumerate_cmp_rec try_connected
  cmp_two s1 = record { none = λ s x st. refl; both = λ d s x st. refl }

  pub csg_two : TwoPass (visit b.limit) (neighborhood es) (visit_emit es b) (enumerate_csg_rec es b)
  unfolding enumerate_csg_rec walk.enumerate_csg_rec emit_kept
  csg_two = record { none = λ s x st. refl; both = λ d s x st. refl }

  edge_connected : (s1 v : ℕ) (st : Store) → walk.try_edge es Store kept (visit b.limit) (attempt b) s1 v st ≡ try_connected es b s1 v st
  unfolding try_connected
  edge_connected s1 v st = go (has_edge es s1 v) (kept st v) (attempt_without b s1 v st)
    where
      go : (x y : Bool) → (y ≡ false → attempt b s1 v st ≡ st)
          → ◌≡◌ {A = Store} (elim x [ true ↦ attempt b s1 v st | false ↦ st ]) (elim (y && x) [ true ↦ attempt b s1 v st | false ↦ st ])
      go true true f = refl
      go true false f = f refl
      go false true f = refl
      go false false f = refl

  pub emit_is : (s1 x m : ℕ) (st : Store) → x ≡ bit_or s1 (up_to_lowest s1) → m ≡ neighborhood es s1 x
      → each (try_neighbor es b s1 x) (singletons m) st ≡ emit_csg es b s1 st
  unfolding emit_csg walk.emit_csg enumerate_cmp_rec
  emit_is s1 x m st ex em =
      rw (em, ex) (each_same _ _ (λ v u. ap (enumerate_cmp_rec es b b.leaves s1 v _) (sym (edge_connected s1 v u))) (singletons _) st)

  pub kept_emits : (s1 : ℕ) (st : Store) → kept st s1 ≡ true → emit_kept es b s1 st ≡ emit_csg es b s1 st
  unfolding emit_kept emit_csg
  kept_emits s1 st h = ap (λ (w : Bool). elim w [ true ↦ emit_csg es b s1 st | false ↦ st ]) h

  solve_none : (st : Store) → solve_from es b 0 st ≡ st
  unfolding solve_from walk.solve_from
  solve_none st = refl

  solve_one : (v : ℕ) (st : Store) → solve_from es b (suc v) st ≡ solve_from es b v (solve_leaf es b (singleton v) (all_below (suc v)) st)
  unfolding solve_from walk.solve_from enumerate_csg_rec emit_csg
  solve_one v st = refl

  module _ {R : Store → Store → Type 0} (k : Steps b R) where
    at_most : (y : Bool) (st : Store) {u : Store} → R st u → R st (elim y [ true ↦ u | false ↦ st ])
    at_most true st r = r
    at_most false st r = k.order.same st

    pub connected_keeps : (s1 c : ℕ) (st : Store) → R st (try_connected es b s1 c st)
    unfolding try_connected
    connected_keeps s1 c st = at_most (kept st c && has_edge es s1 c) st (k.attempt s1 c st)

    pub visit_try_keeps : (s1 s2 t : ℕ) (st : Store) → R st (visit_try es b s1 s2 t st)
    visit_try_keeps s1 s2 t st = k.order.then (k.visit st) (connected_keeps s1 (bit_or s2 t) (visit b.limit st))

    pub tries_keep : (s1 s2 m : ℕ) (st : Store) → R st (visit_tries es b s1 s2 m st)
    tries_keep s1 s2 m st = each_keeps k.order (visit_try es b s1 s2) (visit_try_keeps s1 s2) (non_empty_subsets m) st

    pub cmp_keeps : (d s1 s2 x : ℕ) (st : Store) → R st (enumerate_cmp_rec es b d s1 s2 x st)
    cmp_keeps d s1 s2 x = two_keeps _ _ (cmp_two s1) k.order k.visit (visit_try_keeps s1) d s2 x

    pub visit_cmp_keeps : (d s1 s2 y t : ℕ) (st : Store) → R st (visit_cmp es b d s1 s2 y t st)
    visit_cmp_keeps d s1 s2 y t = again_keeps _ _ (cmp_two s1) k.order k.visit (visit_try_keeps s1) d s2 y t

    pub neighbor_keeps : (s1 x v : ℕ) (st : Store) → R st (try_neighbor es b s1 x v st)
    neighbor_keeps s1 x v st = k.order.then (connected_keeps s1 v st) (cmp_keeps b.leaves s1 v x (try_connected es b s1 v st))

    emit_keeps : (s1 : ℕ) (st : Store) → R st (emit_csg es b s1 st)
    emit_keeps s1 st =
        let x = bit_or s1 (up_to_lowest s1) in
        subst (R st) (emit_is s1 x (neighborhood es s1 x) st refl refl)
        (each_keeps k.order (try_neighbor es b s1 x) (neighbor_keeps s1 x) (singletons (neighborhood es s1 x)) st)

    pub visit_emit_keeps : (s1 t : ℕ) (st : Store) → R st (visit_emit es b s1 t st)
    unfolding emit_kept emit_csg
    visit_emit_keeps s1 t st =
        let u = visit b.limit st in
        k.order.then (k.visit st) (at_most (kept u (bit_or s1 t)) u (emit_keeps (bit_or s1 t) u))

    csg_keeps : (d s1 x : ℕ) (st : Store) → R st (enumerate_csg_rec es b d s1 x st)
    csg_keeps = two_keeps _ _ csg_two k.order k.visit visit_emit_keeps

    pub visit_csg_keeps : (d s1 y t : ℕ) (st : Store) → R st (visit_csg es b d s1 y t st)
    visit_csg_keeps = again_keeps _ _ csg_two k.order k.visit visit_emit_keeps

    pub leaf_keeps : (s1 x : ℕ) (st : Store) → R st (solve_leaf es b s1 x st)
    leaf_keeps s1 x st = k.order.then (emit_keeps s1 st) (csg_keeps b.leaves s1 x (emit_csg es b s1 st))

    from_keeps : (v : ℕ) (st : Store) → R st (solve_from es b v st)
    from_keeps zero st = subst (R st) (sym (solve_none st)) (k.order.same st)
    from_keeps (suc v) st =
        subst (R st) (sym (solve_one v st))
        (k.order.then (leaf_keeps (singleton v) (all_below (suc v)) st) (from_keeps v (solve_leaf es b (singleton v) (all_below (suc v)) st)))

-- ---- a stopped state is changed by nothing

abbrev Froze : Store → Store → Type 0
Froze st u = stop_of st ≡ true → u ≡ st

pub attempt_frozen : (b : Bounds) (s1 s2 : ℕ) (st : Store) → Froze st (attempt b s1 s2 st)
unfolding attempt
attempt_frozen b s1 s2 st h = rw (h, attempt)

pub frozen : (b : Bounds) → Steps b Froze
frozen b = record {
  order = record { same = λ st h. refl; then = λ r q h. q (ap stop_of (r h) ∙ h) ∙ r h };
  visit = λ st h. ap (store st.held) (sym (visit-stopped b.limit st.at h));
  attempt = attempt_frozen b;
}

-- ---- what the memo has, it has at the same position

pub record Grown (st u : Store) : Type 0 where
  more : st.at.memo ≤ u.at.memo
  front : take st.at.memo u.held.mset ≡ take st.at.memo st.held.mset

attempt_grown : (b : Bounds) (s1 s2 : ℕ) (st : Store) → Grown st (attempt b s1 s2 st)
unfolding attempt paired united
attempt_grown b s1 s2 st = go (is_some st.at.stop) (spot_of st s1) (spot_of st s2)
  where
    s : ℕ
    s = bit_or s1 s2

    m : ℕ
    m = st.at.memo

    same : (u : Store) → m ≤ u.at.memo → u.held.mset ≡ st.held.mset → Grown st u
    same u l e = record { more = l; front = ap (take m) e }

    both : (i j : ℕ) (y z : Bool) (k : Option ℕ) → ltb m b.memo_room ≡ z
        → Grown st (elim y [ true ↦ united b st s i j k | false ↦ stopped st PlansFull ])
    both i j false z k e = same _ (omega arith) refl
    both i j true z (Some k) e = same _ (omega arith) refl
    both i j true true None e = rw (e, united) (record { more = omega arith; front = take-set st.held.mset m s })
    both i j true false None e = rw (e, united) (same _ (omega arith) refl)

    go : (x : Bool) (f g : Option ℕ) → Grown st (elim x [ true ↦ st | false ↦ paired b st s f g ])
    go true f g = same st (omega arith) refl
    go false None g = same st (omega arith) refl
    go false (Some i) None = same st (omega arith) refl
    go false (Some i) (Some j) = both i j (ltb st.at.plans b.plan_room) (ltb m b.memo_room) (spot_of st s) refl

pub visit_grown : (limit : ℕ) (st : Store) → Grown st (visit limit st)
visit_grown limit st = record { more = omega (arith, visit_memo limit st.at); front = refl }

pub grown : (b : Bounds) → Steps b Grown
grown b = record {
  order = record {
    same = λ st. record { more = omega arith; front = refl };
    then = λ {a} {b = u} {c = w} r q.
        record {
          more = omega (arith, r.more, q.more);
          front = sym (take-take a.at.memo u.at.memo w.held.mset r.more)
              ∙ ap (take a.at.memo) q.front
              ∙ take-take a.at.memo u.at.memo u.held.mset r.more
              ∙ r.front;
        };
  };
  visit = visit_grown b.limit;
  attempt = attempt_grown b;
}

spot_more : (i m n : ℕ) (l : List ℕ) (s k : ℕ) → m ≤ n → spot i (take m l) s ≡ Some k → spot i (take n l) s ≡ Some k
unfolding spot
spot_more i zero n l s k h e = absurd (let z : ◌≡◌ {A = ℕ} 0 1 = cc in omega arith)
spot_more i (suc m) zero l s k h e = absurd (omega arith)
spot_more i (suc m) (suc n) [] s k h e = e
spot_more i (suc m) (suc n) (x ∷ l) s k h e = go (eqb x s) e (spot_more (suc i) m n l s k (omega arith))
  where
    go : (b : Bool) → ◌≡◌ {A = Option ℕ} (elim b [ true ↦ Some i | false ↦ spot (suc i) (take m l) s ]) (Some k)
        → (spot (suc i) (take m l) s ≡ Some k → spot (suc i) (take n l) s ≡ Some k)
        → ◌≡◌ {A = Option ℕ} (elim b [ true ↦ Some i | false ↦ spot (suc i) (take n l) s ]) (Some k)
    go true e f = e
    go false e f = f e

stands_on : {st u : Store} (s i : ℕ) → Grown st u → spot_of st s ≡ Some i → spot_of u s ≡ Some i
stands_on {st} {u} s i g e =
    spot_more 0 st.at.memo u.at.memo u.held.mset s i g.more (ap (λ (l : List ℕ). spot 0 l s) g.front ∙ e)

-- after a step of the walk, from the lists l to the lists k
pub ready_on : {b : Bounds} {l k : OpenLists} {e : Entry} {v : Store} → Ready b l e → store_of k ≡ v → Grown (store_of l) v → Indexed b k → Ready b k e
ready_on {e = e} r w g i = record { index = i; entry = stands_on e.set e.position (subst (Grown _) (sym w) g) r.entry }

pub leaves_on : {b : Bounds} {st u v : Store} → u ≡ v → Grown st v → HasLeaves b st → HasLeaves b u
leaves_on {b} {st} {u} w g h = record { leaf = λ k l. go k (spot_of st (singleton k)) refl (h.leaf k l) }
  where
    go : (k : ℕ) (f : Option ℕ) → spot_of st (singleton k) ≡ f → is_at f ≡ true → kept u (singleton k) ≡ true
    go k None e y = absurd (false≢true y)
    go k (Some i) e y = ap is_at (stands_on (singleton k) i (subst (Grown _) (sym w) g) e)

-- the memo has the leaves' sets if it begins with them
spot_there : (i n : ℕ) (l : List ℕ) (s j : ℕ) → j < n → j < length l → get_or l j 0 ≡ s → is_at (spot i (take n l) s) ≡ true
unfolding spot
spot_there i zero l s j h w e = absurd (omega arith)
spot_there i (suc n) [] s j h w e = absurd (omega arith)
spot_there i (suc n) (x ∷ l) s zero h w e =
    ap (λ (b : Bool). is_at (elim b [ true ↦ Some i | false ↦ spot (suc i) (take n l) s ])) (eq-eqb x s e)
spot_there i (suc n) (x ∷ l) s (suc j) h w e = go (eqb x s) (spot_there (suc i) n l s j (omega arith) (omega arith) e)
  where
    go : (b : Bool) → is_at (spot (suc i) (take n l) s) ≡ true → is_at (elim b [ true ↦ Some i | false ↦ spot (suc i) (take n l) s ]) ≡ true
    go true q = refl
    go false q = q

pub leaves_first : (b : Bounds) (st : Store) → b.leaves ≤ st.at.memo → b.leaves ≤ length st.held.mset
    → ((k : ℕ) → k < b.leaves → get_or st.held.mset k 0 ≡ singleton k) → HasLeaves b st
leaves_first b st h w f = record { leaf = λ k l. spot_there 0 st.at.memo st.held.mset (singleton k) k (omega arith) (omega arith) (f k l) }

-- ---- the leaves of the question

module _ (es : List Edge) (b : Bounds) {whole : Store} (st : Store) (k : ℕ) (w : solve_from es b k st ≡ whole) where
  pub solve_end : k ≡ 0 → st ≡ whole
  solve_end e = sym (solve_none es b st) ∙ ap (λ (z : ℕ). solve_from es b z st) (sym e) ∙ w

  pub solve_stopped : stop_of st ≡ true → st ≡ whole
  solve_stopped h = sym (from_keeps es b (frozen b) k st h) ∙ w

-- one leaf more, from the highest down
pub solve_step : (es : List Edge) (b : Bounds) {whole : Store} (st u : Store) (k s1 x : ℕ) → solve_from es b k st ≡ whole → 0 < k
    → s1 ≡ singleton (k - 1) → x ≡ all_below (k - 1 + 1) → u ≡ solve_leaf es b s1 x st → solve_from es b (k - 1) u ≡ whole
solve_step es b st u zero s1 x w p es1 ex eu = absurd (omega arith)
solve_step es b st u (suc k) s1 x w p es1 ex eu =
    let less : suc k - 1 ≡ k = omega arith in
    rw (less, eu, es1, ex, less, add-one k) (sym (solve_one es b k st) ∙ w)
