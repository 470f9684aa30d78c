-- The search is its two passes, one after the other (TwoPasses.antt): what the first lists, the second makes plans of, and reads only what is
-- there. Assumes nothing.
use Rattle.std.specs.Prelude.{◌≡◌, refl, Bool, true, false, ◌&&◌, ◌||◌, ◌⊎◌, List, [], ◌∷◌, ◌++◌, map, ℕ, suc, ◌+◌, ◌<◌, ◌≤◌, length, get_or, set, take, eqb}
use Rattle.std.specs.Prelude.{ltb}
use mathlib.Core.List.{zip_with}
use Rattle.std.proofs.Common.{sym, ap, ap₂, ◌∙◌, subst₂, inl, inr, not-suc-le-zero, le_of_lt, le_of_eq, eq-or-lt_of_le, arith, length-append, append_assoc}
use Rattle.std.proofs.Common.{eqb-true, eq-eqb, ne_eqb}
use Rattle.std.proofs.Math.Option.{Option, none, some}
use Rattle.std.proofs.Math.ListN.{get_or-append}
use Rattle.std.proofs.Math.Seq.{take-append_seam, get_or-append_seam}
use Rattle.std.proofs.lemmas.List.{length-map, map-append, append-nil, take-append-le}
use Rattle.std.specs.Int.Bits.{bit_or}
use Rattle.nodeset.specs.SetLaws.{Apart}
use Rattle.nodeset.specs.SubsetLaws.{All}
use Rattle.definition.specs.Answers.{plans_full, memo_full, visits_spent}
use Rattle.definition.specs.Lists.{member}
use Rattle.definition.specs.Hypergraph.{Edge, Sided, connects, has_edge, connecting_from, connecting}
use Rattle.definition.specs.Cost.{cheaper, product}
use Rattle.definition.specs.Connection.{Connection, connection_over}
use Rattle.definition.specs.Walk.{each}
use Rattle.definition.specs.Search.{Plan, Entry, Pair, Input, State, plan_of, plan_at, find, is_some, replace, kept, stopped, visit}
use Rattle.definition.specs.Search.{connection_for, candidate, memo_after, added, stored, linked, joined, attempt, start, search}
use Rattle.definition.specs.TwoPasses.{Positions, Enumeration, Costed, candidate_at, entered, position_of, halted, count_visit, positions, with_entry}
use Rattle.definition.specs.TwoPasses.{listed, list_if_room, list_pair, leaves_entered, enumerate, leaves_costed, plan_over, candidate_plan}
use Rattle.definition.specs.TwoPasses.{best_after, cost_step, costed_by, costed, pair_at, entry_with, together}
use Rattle.definition.proofs.WalkLaws.{elim_rel, solve_rel}
use Rattle.definition.proofs.MemoLaws.{sets_of, some_inj, none≢some, find-member, sets-memo_after, leaf_plans-length}

-- ---- what the costing reads is there

-- candidate t, when c has been made of those before it: its two sets have plans and an edge between them, and the position of their union is one
-- of the memo's so far or the next. l: all of the memo's sets
pub record InReach (i : Input) (l : List ℕ) (c : Costed) (t : Positions) : Type 0 where
  pub left : t.left < length c.best
  pub right : t.right < length c.best
  pub union : t.union ≤ length c.best
  pub entries : length c.best ≤ length l
  pub edge : has_edge i.edges (get_or l t.left 0) (get_or l t.right 0) ≡ true
  pub inside : t.union < length l
  pub set : get_or l t.union 0 ≡ bit_or (get_or l t.left 0) (get_or l t.right 0)

-- ---- positions in the memo

abbrev pub plans_of : List Entry → List ℕ
plans_of = map (λ (e : Entry). e.plan)

sets_length : (m : List Entry) → length (sets_of m) ≡ length m
sets_length m = length-map m (λ (e : Entry). e.set)

plans_length : (m : List Entry) → length (plans_of m) ≡ length m
plans_length m = length-map m (λ (e : Entry). e.plan)

-- s stands at position j, with plan p
record Seated (m : List Entry) (s j p : ℕ) : Type 0 where
  inside : j < length m
  plan : get_or (plans_of m) j 0 ≡ p
  has : get_or (sets_of m) j 0 ≡ s
  new : (n : ℕ) → plans_of (replace m s n) ≡ set (plans_of m) j n

seated : (m : List Entry) (s p : ℕ) → find m s ≡ some p → Seated m s (position_of (sets_of m) s) p
unfolding find position_of replace
seated [] s p h = absurd (none≢some h)
seated (e ∷ m) s p h = go (eqb e.set s) refl h (seated m s p)
  where
    go : (b : Bool) → eqb e.set s ≡ b → elim b [ true ↦ some e.plan | false ↦ find m s ] ≡ some p
        → (find m s ≡ some p → Seated m s (position_of (sets_of m) s) p)
        → Seated (e ∷ m) s (elim b [ true ↦ 0 | false ↦ suc (position_of (sets_of m) s) ]) p
    go true q h r = record { inside = omega arith; plan = some_inj h; has = eqb-true _ _ q; new = λ n. rw (q, replace) }
    go false q h r =
        let w = r h in
        record {
          inside = omega (arith, w.inside);
          plan = w.plan;
          has = w.has;
          new = λ n. rw (q, replace) (ap (λ (l : List ℕ). e.plan ∷ l) (w.new n));
        }

unseated : (m : List Entry) (s : ℕ) → find m s ≡ none → position_of (sets_of m) s ≡ length m
unfolding find position_of
unseated [] s h = refl
unseated (e ∷ m) s h = go (eqb e.set s) h (unseated m s)
  where
    go : (b : Bool) → ◌≡◌ {A = Option ℕ} (elim b [ true ↦ some e.plan | false ↦ find m s ]) none
        → (find m s ≡ none → position_of (sets_of m) s ≡ length m)
        → ◌≡◌ {A = ℕ} (elim b [ true ↦ 0 | false ↦ suc (position_of (sets_of m) s) ]) (suc (length m))
    go true h r = absurd (none≢some (sym h))
    go false h r = ap suc (r h)

-- a set that is there stands at its position, whatever comes behind
found_at : (m : List Entry) (more : List ℕ) (s p : ℕ) → find m s ≡ some p → get_or (sets_of m ++ more) (position_of (sets_of m) s) 0 ≡ s
found_at m more s p h =
    let w = seated m s p h in
    get_or-append (sets_of m) more 0 (position_of (sets_of m) s) (omega (arith, w.inside, sets_length m)) ∙ w.has

-- the sets with s entered begin with those before it, and have s at its position
record Grown (l : List ℕ) (s : ℕ) (now : List ℕ) : Type 0 where
  rest : List ℕ
  same : now ≡ l ++ rest
  inside : position_of l s < length (l ++ rest)
  has : get_or (l ++ rest) (position_of l s) 0 ≡ s

grown : (m : List Entry) (s : ℕ) (o : Option ℕ) → find m s ≡ o → (more : List ℕ) → Grown (sets_of m) s (with_entry (sets_of m) s (is_some o) ++ more)
grown m s (some p) h more = record {
  rest = more;
  same = refl;
  inside = omega (arith, (seated m s p h).inside, sets_length m, length-append (sets_of m) more);
  has = found_at m more s p h;
}
grown m s none h more =
    let e : position_of (sets_of m) s ≡ length (sets_of m) = unseated m s h ∙ sym (sets_length m) in
    record {
      rest = s ∷ more;
      same = append_assoc (sets_of m) (s ∷ []) more;
      inside = omega (arith, e, length-append (sets_of m) (s ∷ more));
      has = rw e (get_or-append_seam (sets_of m) s more 0);
    }

zip_entries : (m : List Entry) → zip_with entry_with (sets_of m) (plans_of m) ≡ m
unfolding zip_with
zip_entries [] = refl
zip_entries (e ∷ m) = ap (λ (l : List Entry). e ∷ l) (zip_entries m)

-- ---- connecting edges

abbrev any : List ℕ → Bool
any [] = false
any (c ∷ cs) = true

edge_listed : (k : ℕ) (es : List Edge) (a b : ℕ) → has_edge es a b ≡ any (connecting_from k es a b)
unfolding has_edge connecting_from
edge_listed k [] a b = refl
edge_listed k (e ∷ es) a b = go (connects a b e) (edge_listed (suc k) es a b)
  where
    go : (x : Bool) → has_edge es a b ≡ any (connecting_from (suc k) es a b)
        → (x || has_edge es a b) ≡ any (elim x [ true ↦ k ∷ connecting_from (suc k) es a b | false ↦ connecting_from (suc k) es a b ])
    go true h = refl
    go false h = h

-- the pairs that an edge connects are those whose connecting edges give a candidate something
pub edge_gives : (i : Input) (ps : List Plan) (a b l r : ℕ) → has_edge i.edges a b ≡ is_some (connection_for i ps a b l r)
unfolding connection_over
edge_gives i ps a b l r = edge_listed 0 i.edges a b ∙ go (connecting i.edges a b)
  where
    go : (cs : List ℕ) → any cs
        ≡ is_some (connection_over i.edges i.kinds i.selectivities cs (product (plan_of ps l).estimate (plan_of ps r).estimate))
    go [] = refl
    go (c ∷ cs) = refl

-- ---- one candidate more

pub each_more : {A S : Type 0} (f : A → S → S) (l : List A) (a : A) (s : S) → each f (l ++ (a ∷ [])) s ≡ f a (each f l s)
each_more f [] a s = refl
each_more f (x ∷ l) a s = each_more f l a (f x s)

-- what holds of each candidate and those before it
candidates_more : (P : List Positions → Positions → Type 0) (ts : List Positions) (t : Positions)
    → ((k : ℕ) → k < length ts → P (take k ts) (candidate_at ts k)) → P ts t
    → (k : ℕ) → k < length (ts ++ (t ∷ [])) → P (take k (ts ++ (t ∷ []))) (candidate_at (ts ++ (t ∷ [])) k)
candidates_more P ts t f p k h = go (eq-or-lt_of_le (omega (arith, length-append ts (t ∷ []))))
  where
    go : (k ≡ length ts) ⊎ (k < length ts) → P (take k (ts ++ (t ∷ []))) (candidate_at (ts ++ (t ∷ [])) k)
    go (inl e) = rw (e, take-append_seam ts (t ∷ []), get_or-append_seam ts t []) p
    go (inr l) = rw (take-append-le k ts (t ∷ []) (le_of_lt l), get_or-append ts (t ∷ []) _ k l) (f k l)

pub plans_count : (i : Input) (l : List ℕ) (ts : List Positions) (c : Costed) → length (each (cost_step i l) ts c).plans ≡ length c.plans + length ts
plans_count i l [] c = omega arith
plans_count i l (t ∷ ts) c = omega (arith, plans_count i l ts (cost_step i l t c), length-append c.plans (candidate_plan i l t c ∷ []))

abbrev costs_of : State → Costed
costs_of s = record { plans = s.plans; best = plans_of s.memo }

-- the candidates ts, with all of the memo's sets l, give these pairs, plans and kept plans
record Passes (i : Input) (l : List ℕ) (ts : List Positions) (tried : List Pair) (c : Costed) : Type 0 where
  pairs : map (pair_at l) ts ≡ tried
  costs : costed_by i l ts ≡ c
  reach : (k : ℕ) → k < length ts → InReach i l (costed_by i l (take k ts)) (candidate_at ts k)

-- the enumeration has t where the search has s. more: the sets that the memo gets later
record Same (i : Input) (s : State) (t : Enumeration) : Type 0 where
  sets : sets_of s.memo ≡ t.sets
  visits : s.visits ≡ t.visits
  stop : s.stop ≡ t.stop
  passes : (more : List ℕ) → Passes i (t.sets ++ more) t.candidates s.tried (costs_of s)

module _ (i : Input) where
  count : (s : State) (t : Enumeration) → Same i s t → length s.plans ≡ length i.leaves + length t.candidates
  count s t r =
      ap (λ (c : Costed). length c.plans) (sym (r.passes []).costs) ∙ plans_count i (t.sets ++ []) t.candidates (leaves_costed i)
      ∙ ap (λ (n : ℕ). n + length t.candidates) (leaf_plans-length 0 i.leaves)

  kept_same : (s : State) (t : Enumeration) → Same i s t → (a : ℕ) → kept s a ≡ entered t a
  kept_same s t r a = find-member s.memo a ∙ ap (member a) r.sets

  best_is : (s : State) (u n : ℕ) (p : Plan) (o : Option ℕ) → find s.memo u ≡ o
      → best_after (costs_of s) (position_of (sets_of s.memo) u) n p ≡ plans_of (memo_after s u n p o)
  unfolding best_after memo_after
  best_is s u n p none h =
      rw (eq-eqb (position_of (sets_of s.memo) u) (length (plans_of s.memo)) (unseated s.memo u h ∙ sym (plans_length s.memo)), best_after)
      (sym (map-append (λ (e : Entry). e.plan) s.memo _))
  best_is s u n p (some o) h =
      let w = seated s.memo u o h in
      let old : eqb (position_of (sets_of s.memo) u) (length (plans_of s.memo)) ≡ false =
      ne_eqb (position_of (sets_of s.memo) u) (length (plans_of s.memo)) (λ e. omega (arith, w.inside, plans_length s.memo)) in
      rw (old, best_after, w.plan) (go w (cheaper p.estimate (plan_at s o).estimate))
    where
      go : Seated s.memo u (position_of (sets_of s.memo) u) o → (x : Bool)
          → ◌≡◌ {A = List ℕ} (elim x [ true ↦ set (plans_of s.memo) (position_of (sets_of s.memo) u) n | false ↦ plans_of s.memo ])
          (plans_of (elim x [ true ↦ replace s.memo u n | false ↦ s.memo ]))
      go w true = sym (w.new n)
      go w false = refl

  -- the candidate of a and b
  module _ (s : State) (a b l r : ℕ) (c : Connection) (ha : find s.memo a ≡ some l) (hb : find s.memo b ≡ some r)
      (hc : connection_for i s.plans a b l r ≡ some c) where
    abbrev T : Positions
    T = positions (sets_of s.memo) a b

    abbrev new : Plan
    new = candidate s a b l r c

    left_at : (more : List ℕ) → get_or (sets_of s.memo ++ more) T.left 0 ≡ a
    left_at more = found_at s.memo more a l ha

    right_at : (more : List ℕ) → get_or (sets_of s.memo ++ more) T.right 0 ≡ b
    right_at more = found_at s.memo more b r hb

    plan_is : (more : List ℕ) → candidate_plan i (sets_of s.memo ++ more) T (costs_of s) ≡ new
    unfolding candidate_plan plan_over candidate
    plan_is more = rw (left_at more, right_at more, (seated s.memo a l ha).plan, (seated s.memo b r hb).plan, hc)

    edge_is : (more : List ℕ) → has_edge i.edges (get_or (sets_of s.memo ++ more) T.left 0) (get_or (sets_of s.memo ++ more) T.right 0) ≡ true
    edge_is more = rw (left_at more, right_at more) (edge_gives i s.plans a b l r ∙ ap is_some hc)

    module _ (ts : List Positions) (more : List ℕ) (q : Passes i (sets_of s.memo ++ more) ts s.tried (costs_of s))
        (inside : T.union < length (sets_of s.memo ++ more)) (has : get_or (sets_of s.memo ++ more) T.union 0 ≡ bit_or a b) where
      abbrev L : List ℕ
      L = sets_of s.memo ++ more

      best_length : length (costed_by i L ts).best ≡ length s.memo
      best_length = rw q.costs (plans_length s.memo)

      union_in : (o : Option ℕ) → find s.memo (bit_or a b) ≡ o → T.union ≤ length s.memo
      union_in none h = le_of_eq (unseated s.memo (bit_or a b) h)
      union_in (some p) h = le_of_lt (seated s.memo (bit_or a b) p h).inside

      new_reach : InReach i L (costed_by i L ts) T
      new_reach = record {
        left = omega (arith, best_length, (seated s.memo a l ha).inside);
        right = omega (arith, best_length, (seated s.memo b r hb).inside);
        union = omega (arith, best_length, union_in (find s.memo (bit_or a b)) refl);
        entries = omega (arith, best_length, sets_length s.memo, length-append (sets_of s.memo) more);
        edge = edge_is more;
        inside = inside;
        set = has ∙ rw (left_at more, right_at more);
      }

      passes_more : Passes i L (ts ++ (T ∷ [])) (added s a b new).tried (costs_of (added s a b new))
      passes_more = record {
        pairs =
            map-append (pair_at L) ts (T ∷ [])
            ∙ ap₂ (λ (x : List Pair) (y : Pair). x ++ (y ∷ [])) q.pairs (rw (left_at more, right_at more));
        costs =
            each_more (cost_step i L) ts T (leaves_costed i) ∙ ap (cost_step i L T) q.costs
            ∙ rw (plan_is more, best_is s (bit_or a b) (length s.plans) new (find s.memo (bit_or a b)) refl);
        reach = candidates_more (λ before. InReach i L (costed_by i L before)) ts T q.reach new_reach;
      }

    added_same : (t : Enumeration) → Same i s t → Same i (added s a b new) (listed t a b)
    added_same t q = record {
      sets =
          sets-memo_after s (bit_or a b) (length s.plans) new (find s.memo (bit_or a b))
          ∙ ap₂ (λ (x : Bool) (z : List ℕ). with_entry z (bit_or a b) x) (kept_same s t q (bit_or a b)) q.sets;
      visits = q.visits;
      stop = refl;
      passes =
          λ more.
          let g = grown s.memo (bit_or a b) (find s.memo (bit_or a b)) refl more in
          let p = rw (← q.sets) at (q.passes g.rest) in
          subst₂
          (λ (x : Bool) (z : List ℕ). Passes i (with_entry z (bit_or a b) x ++ more) (t.candidates ++ (positions z a b ∷ []))
          (added s a b new).tried (costs_of (added s a b new)))
          (kept_same s t q (bit_or a b)) q.sets (rw g.same (passes_more t.candidates g.rest p g.inside g.has));
    }

  stopped_same : (s : State) (t : Enumeration) (n : ℕ) → Same i s t → Same i (stopped s n) (halted t n)
  stopped_same s t n r = record { sets = r.sets; visits = r.visits; stop = refl; passes = r.passes }

  visit_same : (s : State) (t : Enumeration) → Same i s t → Same i (visit i s) (count_visit i t)
  unfolding visit count_visit
  visit_same s t r =
      elim_rel (Same i) (eqb s.stop 0) (eqb t.stop 0) (ap (λ (n : ℕ). eqb n 0) r.stop)
      (elim_rel (Same i) (ltb s.visits i.limit) (ltb t.visits i.limit) (ap (λ (n : ℕ). ltb n i.limit) r.visits)
      (record { sets = r.sets; visits = ap suc r.visits; stop = refl; passes = r.passes }) (stopped_same s t visits_spent r))
      r

  stored_same : (s : State) (t : Enumeration) (a b : ℕ) (p : Plan) → Same i s t → Same i (added s a b p) (listed t a b)
      → Same i (stored i s a b p) (list_if_room i t a b)
  stored_same s t a b p r more =
      elim_rel (Same i) (ltb (length s.plans) i.plan_room) (ltb (length i.leaves + length t.candidates) i.plan_room)
      (ap (λ (n : ℕ). ltb n i.plan_room) (count s t r))
      (elim_rel (Same i) (kept s (bit_or a b) || ltb (length s.memo) i.memo_room) (entered t (bit_or a b) || ltb (length t.sets) i.memo_room)
      (ap₂ (λ (x : Bool) (n : ℕ). x || ltb n i.memo_room) (kept_same s t r (bit_or a b)) (sym (sets_length s.memo) ∙ ap length r.sets))
      more (stopped_same s t memo_full r))
      (stopped_same s t plans_full r)

  linked_same : (s : State) (t : Enumeration) (a b l k : ℕ) → find s.memo a ≡ some l → find s.memo b ≡ some k → (o : Option Connection)
      → connection_for i s.plans a b l k ≡ o → Same i s t → Same i (linked i s a b l k o) (elim (is_some o) [ true ↦ list_if_room i t a b | false ↦ t ])
  unfolding linked
  linked_same s t a b l k ha hb none hc r = r
  linked_same s t a b l k ha hb (some c) hc r = stored_same s t a b (candidate s a b l k c) r (added_same s a b l k c ha hb hc t r)

  joined_same : (s : State) (t : Enumeration) (a b : ℕ) (x y : Option ℕ) → find s.memo a ≡ x → find s.memo b ≡ y → Same i s t
      → Same i (joined i s a b x y) (elim (is_some x && is_some y && has_edge i.edges a b) [ true ↦ list_if_room i t a b | false ↦ t ])
  unfolding joined
  joined_same s t a b none y ha hb r = r
  joined_same s t a b (some l) none ha hb r = r
  joined_same s t a b (some l) (some k) ha hb r =
      rw (edge_gives i s.plans a b l k) (linked_same s t a b l k ha hb (connection_for i s.plans a b l k) refl r)

  attempt_same : (a b : ℕ) → Apart a b → (s : State) (t : Enumeration) → Same i s t → Same i (attempt i a b s) (list_pair i a b t)
  unfolding attempt list_pair
  attempt_same a b d s t r =
      elim_rel (Same i) (eqb s.stop 0) (eqb t.stop 0) (ap (λ (n : ℕ). eqb n 0) r.stop)
      (rw (← kept_same s t r a, ← kept_same s t r b) (joined_same s t a b (find s.memo a) (find s.memo b) refl refl r))
      r

  start_same : Same i (start i) (leaves_entered i)
  unfolding start leaves_entered
  start_same =
      record { sets = refl; visits = refl; stop = refl; passes = λ more. record { pairs = refl; costs = refl; reach = λ k h. absurd (not-suc-le-zero h) } }

  module _ (sided : All Sided i.edges) where
    walk_same : Same i (search i) (enumerate i)
    unfolding search enumerate
    walk_same =
        solve_rel i.edges sided State kept (visit i) (attempt i) Enumeration entered (count_visit i) (list_pair i) (Same i) kept_same visit_same
        attempt_same (length i.leaves) (start i) (leaves_entered i) start_same

    walk_passes : Passes i (enumerate i).sets (enumerate i).candidates (search i).tried (costs_of (search i))
    walk_passes = rw append-nil at (walk_same.passes [])

    -- the theorem: the search is the walk without costs, then the costs
    pub search_is : search i ≡ together i (enumerate i)
    unfolding together costed
    search_is = rw (walk_passes.costs, walk_passes.pairs, ← walk_same.sets, zip_entries, ← walk_same.visits, ← walk_same.stop)

    -- the memo, part by part
    pub search_sets : sets_of (search i).memo ≡ (enumerate i).sets
    search_sets = walk_same.sets

    pub search_best : plans_of (search i).memo ≡ (costed i (enumerate i)).best
    unfolding costed
    search_best = ap (λ (c : Costed). c.best) (sym walk_passes.costs)

    -- at each candidate of the enumeration the costing reads only what is there
    pub in_reach : (k : ℕ) → k < length (enumerate i).candidates
        → InReach i (enumerate i).sets (costed_by i (enumerate i).sets (take k (enumerate i).candidates)) (candidate_at (enumerate i).candidates k)
    in_reach = walk_passes.reach

    -- and in the end each set has a plan
    pub all_costed : length (costed i (enumerate i)).best ≡ length (enumerate i).sets
    all_costed = rw (← search_best, ← search_sets) (plans_length (search i).memo ∙ sym (sets_length (search i).memo))
