-- Both passes, begun with the lists that hold the leaves, end with the lists that hold the definition's search. Assumes nothing.
use Rattle.std.specs.Prelude.{◌≡◌, refl, List, [], ◌∷◌, ◌++◌, map, ℕ, ◌+◌, ◌-◌, ◌≤◌, length, get_or, take, drop}
use mathlib.Core.List.{zip_with}
use Rattle.std.proofs.Common.{sym, ap, ap₂, ◌∙◌, arith, length-append, length-take-le, length-drop, take_at, drop_at}
use Rattle.std.proofs.Math.ListN.{get_or-append}
use Rattle.std.proofs.Math.Seq.{drop-append-add}
use Rattle.std.proofs.lemmas.List.{length-map, drop-drop}
use Rattle.nodeset.specs.SubsetLaws.{All}
use Rattle.nodeset.specs.Sets.{singleton}
use Rattle.definition.specs.Lists.{column}
use Rattle.definition.specs.Hypergraph.{Sided}
use Rattle.definition.specs.Search.{Plan, Entry, Leaf, Input, leaf_plans, leaf_entries, start, search}
use Rattle.definition.specs.TwoPasses.{Positions, Enumeration, Costed, leaves_entered, enumerate, leaves_costed, costed, entry_with, together}
use Rattle.definition.proofs.ListLaws.{get_d_tabulate}
use Rattle.definition.proofs.MemoLaws.{leaf_plans-length}
use Rattle.definition.proofs.MemoOrder.{leaf-sets}
use Rattle.definition.proofs.TwoPassesLaws.{search_is, all_costed, plans_count}
use Rattle.definition.proofs.TwoPassesEnumerationLaws.{Fits, enumerate_fits, leaves_among, leaf_sets-length, leaf_plans_kept-length}
use Rattle.definition.proofs.TwoPassesHeld.{in_front, in_column}
use Rattle.store.specs.declared.DPhyp.{DPhyp}
use Rattle.store.specs.Counts.{counts, stop_with}
use Rattle.candidate.specs.Store.{Lists, Store, Given, store, edges}
use Rattle.candidate.specs.Laws.{lists_eq}
use Rattle.held.specs.Held.{input_for, holding, Roomy}
use Rattle.enumeration.specs.Held as enumeration
use Rattle.enumeration.specs.Held.{behind}
use Rattle.enumeration.specs.Store as pass
use Rattle.enumeration.proofs.HeldLaws.{behind_at, solve_held}
use Rattle.costing.specs.Steps.{Costs, costs, steps_in}
use Rattle.costing.proofs.CostsHeld.{Listed, holding_costs, costs_held, steps_held}
use Rattle.passes.specs.Passes.{Begun, open_of, with_open, bounds_of, enumerated, both_passes}

-- ---- a list of the plan store: n leaves, then the candidates' positions

module _ (k : Positions → ℕ) (ts : List Positions) (h : List ℕ) where
  behind_length : (n : ℕ) → n + length ts ≤ length h → length (behind n k ts h) ≡ length h
  behind_length n l =
      let front = length-take-le n h (omega arith) in
      let rest = length-drop (length ts) (drop n h) in
      let all = length-append (map k ts) (drop (length ts) (drop n h)) in
      omega (arith, length-append (take n h) (column k ts (drop n h)), all, front, rest, length-drop n h, length-map ts k)

  -- the leaves' plans in front of the positions
  behind_leaves : (f : Plan → ℕ) (ps : List Plan) (n : ℕ) → length ps ≡ n → n ≤ length h → behind n k ts (column f ps h) ≡ column f ps (behind n k ts h)
  behind_leaves f ps n q l =
      let m : length (map f ps) ≡ n = length-map ps f ∙ q in
      ap₂ (λ (x y : List ℕ). x ++ column k ts y) (take_at (map f ps) (drop (length ps) h) n m) (drop_at (map f ps) (drop (length ps) h) n m)
      ∙ ap (λ (j : ℕ). map f ps ++ column k ts (drop j h)) q
      ∙ ap (λ (y : List ℕ). map f ps ++ y) (sym (drop_at (take n h) (column k ts (drop n h)) n (length-take-le n h l)))
      ∙ ap (λ (j : ℕ). map f ps ++ drop j (behind n k ts h)) (sym q)

  -- the plans over all positions
  behind_costed : (f : Plan → ℕ) (ps : List Plan) (n : ℕ) → length ps ≡ n + length ts → n ≤ length h → column f ps (behind n k ts h) ≡ column f ps h
  behind_costed f ps n q l = ap (λ (y : List ℕ). map f ps ++ y) (ap (λ (m : ℕ). drop m (behind n k ts h)) q ∙ past ∙ ap (λ (m : ℕ). drop m h) (sym q))
    where
      rest : List ℕ
      rest = drop (length ts) (drop n h)

      past : drop (n + length ts) (behind n k ts h) ≡ drop (n + length ts) h
      past =
          sym (drop-drop (length ts) n (behind n k ts h))
          ∙ ap (drop (length ts)) (drop_at (take n h) (column k ts (drop n h)) n (length-take-le n h l))
          ∙ drop_at (map k ts) rest (length ts) (length-map ts k)
          ∙ drop-drop (length ts) n h

column_length : {A : Type 0} (f : A → ℕ) (xs : List A) (l : List ℕ) → length l ≤ length (column f xs l)
column_length f xs l = omega (arith, length-append (map f xs) (drop (length xs) l), length-map xs f, length-drop (length xs) l)

-- more sets over those that were in front
front_again : (xs ys h : List ℕ) → length xs ≤ length ys → in_front ys (in_front xs h) ≡ in_front ys h
front_again xs ys h l =
    let q : length ys ≡ length xs + (length ys - length xs) = omega arith in
    ap (λ (r : List ℕ). ys ++ r)
    (ap (λ (n : ℕ). drop n (xs ++ drop (length xs) h)) q
    ∙ drop-append-add xs (drop (length xs) h) (length ys - length xs)
    ∙ drop-drop (length ys - length xs) (length xs) h
    ∙ ap (λ (n : ℕ). drop n h) (sym q))

-- ---- the memo's entries, of sets and plans

zip_sets : (ss ns : List ℕ) → length ns ≡ length ss → map (λ (e : Entry). e.set) (zip_with entry_with ss ns) ≡ ss
unfolding zip_with
zip_sets [] ns q = refl
zip_sets (s ∷ ss) [] q = absurd (omega arith)
zip_sets (s ∷ ss) (n ∷ ns) q = ap (λ (z : List ℕ). s ∷ z) (zip_sets ss ns (omega arith))

zip_plans : (ss ns : List ℕ) → length ns ≡ length ss → map (λ (e : Entry). e.plan) (zip_with entry_with ss ns) ≡ ns
unfolding zip_with
zip_plans [] [] q = refl
zip_plans [] (n ∷ ns) q = absurd (omega arith)
zip_plans (s ∷ ss) [] q = refl
zip_plans (s ∷ ss) (n ∷ ns) q = ap (λ (z : List ℕ). n ∷ z) (zip_plans ss ns (omega arith))

-- ---- h: the lists as lent

module _ (g : Given) (ls : List Leaf) (limit : ℕ) (h : Lists) (room : Roomy g h) (sided : All Sided (edges g))
    (plans_fit : length ls ≤ g.plan_room) (sets_fit : length ls ≤ g.memo_room) where
  abbrev I : Input
  I = input_for g ls limit

  abbrev E : Enumeration
  E = enumerate I

  abbrev n : ℕ
  n = length ls

  abbrev C : Costed
  C = costed I E

  fits : Fits I E.candidates E.sets
  fits = enumerate_fits I sided plans_fit sets_fit

  many_plans : length C.plans ≡ n + length E.candidates
  unfolding costed
  many_plans = plans_count I E.sets E.candidates (leaves_costed I) ∙ ap (λ (k : ℕ). k + length E.candidates) (leaf_plans-length 0 ls)

  -- the lists with the candidates' positions and all of the memo's sets, as if they had been lent so
  abbrev L : Lists
  L = with_open h (enumeration.holding (open_of h) n E).held

  -- and with the leaves' plans
  abbrev U : Lists
  U = holding_costs L (leaves_costed I)

  abbrev counted : DPhyp
  counted = counts (n + length E.candidates) (length E.sets) E.visits (stop_with E.stop)

  abbrev with_positions : (Positions → ℕ) → List ℕ → List ℕ
  with_positions f l = behind n f E.candidates l

  roomy : Roomy g L
  roomy =
      let long : (f : Positions → ℕ) (l : List ℕ) → g.plan_room ≤ length l → g.plan_room ≤ length (with_positions f l) =
      λ f l q. omega (arith, behind_length f E.candidates l n (omega (arith, fits.plans))) in
      record {
        pset = room.pset;
        pleft = long (λ (x : Positions). x.left) h.pleft room.pleft;
        pright = long (λ (x : Positions). x.right) h.pright room.pright;
        plead = long (λ (x : Positions). x.union) h.plead room.plead;
        pkind = room.pkind;
        prows = room.prows;
        pcost = room.pcost;
        mset = omega (arith, room.mset, fits.sets, length-append E.sets (drop (length E.sets) h.mset), length-drop (length E.sets) h.mset);
        mplan = room.mplan;
      }

  -- ---- the first pass

  abbrev begun : Lists
  begun = (holding h (start I)).held

  -- what the passes ask
  pub begins : n ≤ 64 → Begun g begun n
  unfolding start
  begins few = record {
    leaves = few;
    memo = sets_fit;
    room = omega (arith, room.mset, column_length (λ (e : Entry). e.set) (leaf_entries 0 ls) h.mset);
    sets =
        λ k q.
        get_or-append (map (λ (e : Entry). e.set) (leaf_entries 0 ls)) _ 0 k (omega (arith, leaf_sets-length ls))
        ∙ ap (λ (l : List ℕ). get_or l k 0) (leaf-sets ls) ∙ get_d_tabulate n singleton k 0 q;
  }

  first : take n begun.mset ≡ (leaves_entered I).sets
  unfolding start leaves_entered
  first = take_at (leaves_entered I).sets _ n (leaf_sets-length ls)

  roomy_begun : enumeration.Roomy (bounds_of g limit n) (open_of begun)
  roomy_begun = record {
    pleft = omega (arith, room.pleft, column_length (λ (p : Plan). p.left) (start I).plans h.pleft);
    pright = omega (arith, room.pright, column_length (λ (p : Plan). p.right) (start I).plans h.pright);
    plead = omega (arith, room.plead, column_length (λ (p : Plan). p.lead) (start I).plans h.plead);
    mset = omega (arith, room.mset, column_length (λ (e : Entry). e.set) (start I).memo h.mset);
  }

  enumerated_is : enumerated g limit n begun ≡ store U counted
  unfolding start
  enumerated_is =
      ap (λ (s : pass.Store). store (with_open begun s.held) s.at)
      (solve_held g.n g.left g.right g.predicate g.source [] (bounds_of g limit n) I (open_of begun) roomy_begun
      (record { leaves = refl; plan_room = refl; memo_room = refl; limit = refl }) refl sided first)
      ∙ ap (λ (x : Lists). store x counted)
      (lists_eq refl (leaves (λ (x : Positions). x.left) (λ (p : Plan). p.left) h.pleft room.pleft)
      (leaves (λ (x : Positions). x.right) (λ (p : Plan). p.right) h.pright room.pright)
      (leaves (λ (x : Positions). x.union) (λ (p : Plan). p.lead) h.plead room.plead) refl refl refl sets
      (sym (in_column (λ (e : Entry). e.plan) (leaf_entries 0 ls) h.mplan)))
    where
      leaves : (k : Positions → ℕ) (f : Plan → ℕ) (l : List ℕ) → g.plan_room ≤ length l
          → with_positions k (column f (leaf_plans 0 ls) l) ≡ column f (leaf_plans 0 ls) (with_positions k l)
      leaves k f l q = behind_leaves k E.candidates l f (leaf_plans 0 ls) n (leaf_plans-length 0 ls) (omega arith)

      sets : in_front E.sets (column (λ (e : Entry). e.set) (leaf_entries 0 ls) h.mset) ≡ in_front E.sets h.mset
      sets =
          ap (in_front E.sets) (sym (in_column (λ (e : Entry). e.set) (leaf_entries 0 ls) h.mset))
          ∙ front_again (map (λ (e : Entry). e.set) (leaf_entries 0 ls)) E.sets h.mset (omega (arith, leaf_sets-length ls, leaves_among I sided))

  -- ---- the second

  listed : Listed L n E
  listed = record {
    left = λ k q. behind_at n (λ (x : Positions). x.left) E.candidates h.pleft k (omega (arith, room.pleft)) q;
    right = λ k q. behind_at n (λ (x : Positions). x.right) E.candidates h.pright k (omega (arith, room.pright)) q;
    union = λ k q. behind_at n (λ (x : Positions). x.union) E.candidates h.plead k (omega (arith, room.plead)) q;
    sets = λ k q. get_or-append E.sets _ 0 k q;
  }

  costed_is : (steps_in g (n + length E.candidates - n) n (costs_held L (leaves_costed I))).held ≡ holding_costs L C
  costed_is =
      let z : n + length E.candidates - n ≡ length E.candidates = omega arith in
      ap (λ (k : ℕ). (steps_in g k n (costs_held L (leaves_costed I))).held) z
      ∙ ap (λ (c : Costs). c.held) (steps_held g ls limit L roomy sided fits.plans fits.sets listed)

  -- as it leaves them, the lists hold the search
  searched : store (holding_costs L C) counted ≡ holding h (search I)
  unfolding together
  searched =
      ap₂ (λ (x : Lists) (p : DPhyp). store x p)
      (lists_eq refl (plans (λ (x : Positions). x.left) (λ (p : Plan). p.left) h.pleft room.pleft)
      (plans (λ (x : Positions). x.right) (λ (p : Plan). p.right) h.pright room.pright)
      (plans (λ (x : Positions). x.union) (λ (p : Plan). p.lead) h.plead room.plead) refl refl refl
      (ap (λ (z : List ℕ). in_front z h.mset) (sym sets) ∙ in_column (λ (e : Entry). e.set) m h.mset)
      (ap (λ (z : List ℕ). in_front z h.mplan) (sym (zip_plans E.sets C.best (all_costed I sided))) ∙ in_column (λ (e : Entry). e.plan) m h.mplan))
      (ap₂ (λ (x y : ℕ). counts x y E.visits (stop_with E.stop)) (sym many_plans) many_sets)
      ∙ ap (holding h) (sym (search_is I sided))
    where
      m : List Entry
      m = zip_with entry_with E.sets C.best

      sets : map (λ (e : Entry). e.set) m ≡ E.sets
      sets = zip_sets E.sets C.best (all_costed I sided)

      many_sets : length E.sets ≡ length m
      many_sets = ap (λ (z : List ℕ). length z) (sym sets) ∙ length-map m (λ (e : Entry). e.set)

      plans : (k : Positions → ℕ) (f : Plan → ℕ) (l : List ℕ) → g.plan_room ≤ length l → column f C.plans (with_positions k l) ≡ column f C.plans l
      plans k f l q = behind_costed k E.candidates l f C.plans n many_plans (omega arith)

  pub passes_held : both_passes g limit n begun ≡ holding h (search I)
  passes_held =
      ap (λ (e : Store). store (steps_in g (e.at.plans - n) n (costs e.held n)).held e.at) enumerated_is
      ∙ ap (λ (k : ℕ). store (steps_in g (n + length E.candidates - n) n (costs U k)).held counted) (sym (leaf_plans_kept-length ls))
      ∙ ap (λ (x : Lists). store x counted) costed_is
      ∙ searched
