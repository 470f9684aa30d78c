-- The search tries the same pairs, makes the same visits and ends the same way whatever the row counts and selectivities are. Assumes nothing.
use Rattle.std.specs.Prelude.{◌≡◌, Bool, true, false, ◌||◌, length, Float}
use Rattle.std.proofs.Math.Path.{refl, sym, ap, subst}
use Rattle.std.proofs.Common.{ap₂, ◌∙◌, suc-ne-zero, length-append}
use Prim.Native.Nat.{ℕ, zero, suc, ◌+◌}
use Rattle.std.proofs.lemmas.Bool.{false≢true}
use mathlib.Core.List.{List, [], ◌∷◌, ◌++◌}
use Rattle.std.proofs.Math.Option.{Option, none, some}
use Rattle.std.proofs.Math.Nat.{suc_inj}
use Rattle.std.proofs.lemmas.List.{length-map}
use Rattle.std.proofs.Math.Dec.{eqb, ltb}
use Rattle.std.specs.Int.Bits.{bit_or}
use Rattle.nodeset.specs.Sets.{singleton, all_below}
use Rattle.nodeset.specs.SetLaws.{Apart}
use Rattle.nodeset.specs.SubsetLaws.{All}
use Rattle.definition.specs.Lists.{member}
use Rattle.definition.specs.Answers.{plans_full, memo_full, visits_spent}
use Rattle.definition.specs.Hypergraph.{Edge, connecting}
use Rattle.definition.specs.Cost.{product}
use Rattle.definition.specs.Connection.{Connection, connection_over}
use Rattle.definition.specs.Walk.{solve}
use Rattle.definition.proofs.WalkLaws.{Sided, elim_rel, solve_rel}
pub use Rattle.definition.proofs.MemoLaws.{sets_of}
use Rattle.definition.proofs.MemoLaws.{find-member, sets-memo_after, leaf_plans-length}
use Rattle.definition.specs.Search.{Leaf, Plan, Entry, Pair, Input, State, plan_at, find, is_some, kept, stopped, visit, added, stored, connection_for}
use Rattle.definition.specs.Search.{linked, joined, candidate, attempt, leaf_entries, start, search, complete, ending}

-- two inputs that differ at most in row counts, column counts of leaves, kinds and selectivities
pub record SameForm (i j : Input) : Type 0 where
  pub leaves : length i.leaves ≡ length j.leaves
  pub edges : i.edges ≡ j.edges
  pub plan_room : i.plan_room ≡ j.plan_room
  pub memo_room : i.memo_room ≡ j.memo_room
  pub limit : i.limit ≡ j.limit

-- two states with the same open part
pub record SameOpen (s t : State) : Type 0 where
  pub tried : s.tried ≡ t.tried
  pub plans : length s.plans ≡ length t.plans
  pub memo : sets_of s.memo ≡ sets_of t.memo
  pub visits : s.visits ≡ t.visits
  pub stop : s.stop ≡ t.stop

-- ---- the memo's sets decide what is kept, and how many entries there are

kept_same : (s t : State) → SameOpen s t → (a : ℕ) → kept s a ≡ kept t a
kept_same s t r a = find-member s.memo a ∙ ap (member a) r.memo ∙ sym (find-member t.memo a)

pub memo_length : (s t : State) → SameOpen s t → length s.memo ≡ length t.memo
memo_length s t r = sym (length-map s.memo (λ (e : Entry). e.set)) ∙ ap length r.memo ∙ length-map t.memo (λ (e : Entry). e.set)

-- ---- the operations

added_same : (s t : State) (a b : ℕ) (p q : Plan) → SameOpen s t → SameOpen (added s a b p) (added t a b q)
added_same s t a b p q r =
    let k = kept_same s t r (bit_or a b) in
    record {
      tried = ap (λ (l : List Pair). l ++ (record { left = a; right = b } ∷ [])) r.tried;
      plans = length-append s.plans (p ∷ []) ∙ ap (λ (n : ℕ). n + 1) r.plans ∙ sym (length-append t.plans (q ∷ []));
      memo =
          sets-memo_after s (bit_or a b) _ p (find s.memo (bit_or a b))
          ∙ ap₂ (λ (x : Bool) (l : List ℕ). elim x [ true ↦ l | false ↦ l ++ (bit_or a b ∷ []) ]) k r.memo
          ∙ sym (sets-memo_after t (bit_or a b) _ q (find t.memo (bit_or a b)));
      visits = r.visits;
      stop = refl;
    }

stopped_same : (s t : State) (n : ℕ) → SameOpen s t → SameOpen (stopped s n) (stopped t n)
stopped_same s t n r = record { tried = r.tried; plans = r.plans; memo = r.memo; visits = r.visits; stop = refl }

module _ (i j : Input) (f : SameForm i j) where
  visit_same : (s t : State) → SameOpen s t → SameOpen (visit i s) (visit j t)
  unfolding visit
  visit_same s t r =
      elim_rel SameOpen (eqb s.stop 0) (eqb t.stop 0) (ap (λ (n : ℕ). eqb n 0) r.stop)
      (elim_rel SameOpen (ltb s.visits i.limit) (ltb t.visits j.limit) (ap₂ ltb r.visits f.limit)
      (record { tried = r.tried; plans = r.plans; memo = r.memo; visits = ap suc r.visits; stop = refl })
      (stopped_same s t visits_spent r))
      r

  stored_same : (s t : State) (a b : ℕ) (p q : Plan) → SameOpen s t → SameOpen (stored i s a b p) (stored j t a b q)
  stored_same s t a b p q r =
      elim_rel SameOpen (ltb (length s.plans) i.plan_room) (ltb (length t.plans) j.plan_room) (ap₂ ltb r.plans f.plan_room)
      (elim_rel SameOpen (kept s (bit_or a b) || ltb (length s.memo) i.memo_room) (kept t (bit_or a b) || ltb (length t.memo) j.memo_room)
      (ap₂ (λ (x y : Bool). x || y) (kept_same s t r (bit_or a b)) (ap₂ ltb (memo_length s t r) f.memo_room))
      (added_same s t a b p q r) (stopped_same s t memo_full r))
      (stopped_same s t plans_full r)

  -- over one list of connecting edges, whatever the items' kinds, the selectivities and the products
  linked_same : (s t : State) (a b l l' r r' : ℕ) (es es' : List Edge) (ks ks' ss ss' cs : List ℕ) (p p' : Float) → SameOpen s t
      → SameOpen (linked i s a b l r (connection_over es ks ss cs p)) (linked j t a b l' r' (connection_over es' ks' ss' cs p'))
  unfolding linked connection_over
  linked_same s t a b l l' r r' es es' ks ks' ss ss' [] p p' h = h
  linked_same s t a b l l' r r' es es' ks ks' ss ss' (c ∷ cs) p p' h = stored_same s t a b (candidate s a b l r _) (candidate t a b l' r' _) h

  joined_same : (s t : State) (a b : ℕ) (o o' u u' : Option ℕ) → SameOpen s t → is_some o ≡ is_some o' → is_some u ≡ is_some u'
      → SameOpen (joined i s a b o u) (joined j t a b o' u')
  unfolding joined
  joined_same s t a b none none u u' r e h = r
  joined_same s t a b none (some o') u u' r e h = absurd (false≢true e)
  joined_same s t a b (some o) none u u' r e h = absurd (false≢true (sym e))
  joined_same s t a b (some o) (some o') none none r e h = r
  joined_same s t a b (some o) (some o') none (some u') r e h = absurd (false≢true h)
  joined_same s t a b (some o) (some o') (some u) none r e h = absurd (false≢true (sym h))
  joined_same s t a b (some o) (some o') (some u) (some u') r e h =
      subst (λ (es : List Edge). SameOpen (linked i s a b o u (connection_for i s.plans a b o u)) (linked j t a b o' u' (over es))) f.edges
      (linked_same s t a b o o' u u' i.edges j.edges i.kinds j.kinds i.selectivities j.selectivities (connecting i.edges a b) _ _ r)
    where
      over : List Edge → Option Connection
      over es = connection_over j.edges j.kinds j.selectivities (connecting es a b) (product (plan_at t o').estimate (plan_at t u').estimate)

  attempt_same : (a b : ℕ) → Apart a b → (s t : State) → SameOpen s t → SameOpen (attempt i a b s) (attempt j a b t)
  unfolding attempt
  attempt_same a b p s t r =
      elim_rel SameOpen (eqb s.stop 0) (eqb t.stop 0) (ap (λ (n : ℕ). eqb n 0) r.stop)
      (joined_same s t a b (find s.memo a) (find t.memo a) (find s.memo b) (find t.memo b) r (kept_same s t r a) (kept_same s t r b)) r

  entries_same : (n : ℕ) (ls ms : List Leaf) → length ls ≡ length ms → sets_of (leaf_entries n ls) ≡ sets_of (leaf_entries n ms)
  unfolding leaf_entries
  entries_same n [] [] e = refl
  entries_same n [] (m ∷ ms) e = absurd (suc-ne-zero _ (sym e))
  entries_same n (l ∷ ls) [] e = absurd (suc-ne-zero _ e)
  entries_same n (l ∷ ls) (m ∷ ms) e = ap (λ (x : List ℕ). singleton n ∷ x) (entries_same (suc n) ls ms (suc_inj e))

  start_same : SameOpen (start i) (start j)
  unfolding start
  start_same =
      record {
        tried = refl;
        plans = leaf_plans-length 0 i.leaves ∙ f.leaves ∙ sym (leaf_plans-length 0 j.leaves);
        memo = entries_same 0 i.leaves j.leaves f.leaves;
        visits = refl;
        stop = refl;
      }

  pub search_same : All Sided i.edges → SameOpen (search i) (search j)
  unfolding search
  search_same sided =
      subst (λ (es : List Edge). SameOpen (search i) (solve es State kept (visit j) (attempt j) (length j.leaves) (start j))) f.edges
      (subst (λ (n : ℕ). SameOpen (search i) (solve i.edges State kept (visit j) (attempt j) n (start j))) f.leaves
      (solve_rel i.edges sided State kept (visit i) (attempt i) State kept (visit j) (attempt j) SameOpen kept_same visit_same attempt_same (length i.leaves) (start i) (start j) start_same))

  ending_same : (n : ℕ) (o u : Option ℕ) → is_some o ≡ is_some u → ending n o ≡ ending n u
  ending_same zero none none e = refl
  ending_same zero none (some u) e = absurd (false≢true e)
  ending_same zero (some o) none e = absurd (false≢true (sym e))
  ending_same zero (some o) (some u) e = refl
  ending_same (suc n) o u e = refl

  -- and the answer's number
  pub answer_same : All Sided i.edges → ending (search i).stop (complete i (search i)) ≡ ending (search j).stop (complete j (search j))
  answer_same sided =
      let r = search_same sided in
      ending_same (search i).stop (complete i (search i)) (find (search j).memo (all_below (length i.leaves))) (kept_same (search i) (search j) r (all_below (length i.leaves)))
      ∙ ap₂ (λ (n k : ℕ). ending n (find (search j).memo (all_below k))) r.stop f.leaves
