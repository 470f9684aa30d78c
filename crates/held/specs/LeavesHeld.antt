-- The leaves' plans and memo entries, written one by one, are those that the definition's search begins with. Assumes nothing.
use Rattle.std.specs.Prelude.{◌≡◌, length, set, None}
use Rattle.std.proofs.Math.Path.{refl, ap, ap₂}
use Rattle.std.proofs.Common.{sym, ◌∙◌, arith, length-append}
use mathlib.Core.List.{List, [], ◌∷◌, ◌++◌, append-nil}
use Prim.Native.Nat.{ℕ, suc, ◌+◌, ◌≤◌}
use Rattle.std.proofs.Math.Numerals.{add-one}
use Rattle.std.proofs.Math.Seq.{append_snoc}
use Rattle.nodeset.specs.Sets.{singleton}
use Rattle.definition.specs.Lists.{column}
use Rattle.definition.specs.Question.{leaf}
use Rattle.definition.specs.Hypergraph.{none32}
use Rattle.definition.specs.Cost.{leaf_estimate}
use Rattle.definition.specs.Search.{Plan, Entry, Leaf, leaf_plans, leaf_entries, start}
use Rattle.definition.proofs.MemoLaws.{leaf_plans-length}
use Rattle.definition.proofs.TwoPassesHeld.{put_column}
use Rattle.store.specs.declared.DPhyp.{DPhyp}
use Rattle.store.specs.Counts.{counts}
use Rattle.store.specs.Estimates as estimates
use Rattle.candidate.specs.Store.{Lists, Given, store, leaf_written}
use Rattle.held.specs.Held.{input_for, holding, Roomy}
use Rattle.candidate.specs.Laws.{lists_eq}

-- these leaves, the first of them number k
unfoldable pub leaves_written : ℕ → List Leaf → Lists → Lists
leaves_written k [] h = h
leaves_written k (l ∷ ls) h = leaves_written (suc k) ls (leaf_written h k (leaf_estimate l.rows l.columns))

leaf_entries-length : (k : ℕ) (ls : List Leaf) → length (leaf_entries k ls) ≡ length ls
unfolding leaf_entries
leaf_entries-length k [] = refl
leaf_entries-length k (l ∷ ls) = ap suc (leaf_entries-length (suc k) ls)

module _ (g : Given) (h : Lists) (room : Roomy g h) where
  -- the lists lent as h, holding these plans and entries
  abbrev with : List Plan → List Entry → Lists
  with ps m = (holding h (record { tried = []; plans = ps; memo = m; visits = 0; stop = 0 })).held

  abbrev scan : ℕ → Leaf → Plan
  scan k l = record { set = singleton k; left = k; right = k; lead = none32; kind = leaf; estimate = leaf_estimate l.rows l.columns }

  abbrev entry : ℕ → Entry
  entry k = record { set = singleton k; plan = k }

  leaf_held : (ps : List Plan) (m : List Entry) (k : ℕ) (l : Leaf) → length ps ≡ k → length m ≡ k → suc k ≤ g.plan_room → suc k ≤ g.memo_room
      → leaf_written (with ps m) k (leaf_estimate l.rows l.columns) ≡ with (ps ++ (scan k l ∷ [])) (m ++ (entry k ∷ []))
  leaf_held ps m k l a b r s =
      lists_eq (plan (λ (p : Plan). p.set) h.pset 0 room.pset) (plan (λ (p : Plan). p.left) h.pleft 0 room.pleft)
      (plan (λ (p : Plan). p.right) h.pright 0 room.pright) (plan (λ (p : Plan). p.lead) h.plead 0 room.plead)
      (plan (λ (p : Plan). p.kind) h.pkind 0 room.pkind) (plan (λ (p : Plan). p.estimate.rows) h.prows estimates.zero room.prows)
      (plan (λ (p : Plan). p.estimate.cost) h.pcost estimates.zero room.pcost) (noted (λ (e : Entry). e.set) h.mset room.mset)
      (noted (λ (e : Entry). e.plan) h.mplan room.mplan)
    where
      plan : {B : Type 0} (f : Plan → B) (xs : List B) (d : B) → g.plan_room ≤ length xs
          → set (column f ps xs) k (f (scan k l)) ≡ column f (ps ++ (scan k l ∷ [])) xs
      plan {B} f xs d q = ap (λ (n : ℕ). set (column f ps xs) n (f (scan k l))) (sym a) ∙ put_column f ps (scan k l) xs d (omega arith)

      noted : (f : Entry → ℕ) (xs : List ℕ) → g.memo_room ≤ length xs → set (column f m xs) k (f (entry k)) ≡ column f (m ++ (entry k ∷ [])) xs
      noted f xs q = ap (λ (n : ℕ). set (column f m xs) n (f (entry k))) (sym b) ∙ put_column f m (entry k) xs 0 (omega arith)

  from_held : (ls : List Leaf) (ps : List Plan) (m : List Entry) (k : ℕ) → length ps ≡ k → length m ≡ k
      → k + length ls ≤ g.plan_room → k + length ls ≤ g.memo_room
      → leaves_written k ls (with ps m) ≡ with (ps ++ leaf_plans k ls) (m ++ leaf_entries k ls)
  unfolding leaves_written leaf_plans leaf_entries
  from_held [] ps m k a b r s = ap₂ (λ (x : List Plan) (y : List Entry). with x y) (sym (append-nil ps)) (sym (append-nil m))
  from_held (l ∷ ls) ps m k a b r s =
      ap (leaves_written (suc k) ls) (leaf_held ps m k l a b (omega arith) (omega arith))
      ∙ from_held ls (ps ++ (scan k l ∷ [])) (m ++ (entry k ∷ [])) (suc k) (length-append ps (scan k l ∷ []) ∙ add-one (length ps) ∙ ap suc a)
      (length-append m (entry k ∷ []) ∙ add-one (length m) ∙ ap suc b) (omega arith) (omega arith)
      ∙ ap₂ (λ (x : List Plan) (y : List Entry). with x y) (append_snoc ps (scan k l) (leaf_plans (suc k) ls))
      (append_snoc m (entry k) (leaf_entries (suc k) ls))

  pub leaves_held : (ls : List Leaf) (limit : ℕ) → length ls ≤ g.plan_room → length ls ≤ g.memo_room
      → store (leaves_written 0 ls h) (counts (length ls) (length ls) 0 None) ≡ holding h (start (input_for g ls limit))
  unfolding start
  leaves_held ls limit r s =
      ap₂ (λ (x : Lists) (p : DPhyp). store x p) (from_held ls [] [] 0 refl refl (omega arith) (omega arith))
      (ap₂ (λ (x y : ℕ). counts x y 0 None) (sym (leaf_plans-length 0 ls)) (sym (leaf_entries-length 0 ls)))
