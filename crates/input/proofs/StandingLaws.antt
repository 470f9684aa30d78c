-- Laws that stood before the structs, kept as they were; no proof needs them now. Assumes nothing.
use Rattle.std.specs.Prelude.{◌≡◌, ℕ, ◌+◌, ◌≤◌, ◌<◌, length, drop, set}
use Rattle.std.proofs.Math.Path.{sym, ap}
use Rattle.std.proofs.Common.{ap₂, ◌∙◌, arith, add-one, get_or-set_same, get_or-set_other}
use Rattle.std.proofs.Common.{drop_of_length-le, drop-cons}
use mathlib.Core.List.{List, [], ◌∷◌, ◌++◌}
use Rattle.definition.specs.Lists.{tabulate}
use Rattle.definition.proofs.ListLaws.{tabulate_more}
use Rattle.definition.specs.LeafView.{leaf_at, leaves_from}
use Rattle.definition.specs.Question.{Question, leaf, item}
use Rattle.definition.specs.Search.{Leaf}
use Rattle.definition.specs.Call.{leaves_of}
use Rattle.std.proofs.Math.Seq.{append_snoc}
use borrow.Author.Tests.{eq-eqb, ne_eqb}

pub leaf_more : (n : ℕ) (rows columns : List ℕ) (r c : ℕ) → n < length rows → n < length columns
    → leaves_from (n + 1) (set rows n r) (set columns n c) ≡ leaves_from n rows columns ++ (record { rows = r; columns = c } ∷ [])
unfolding leaves_from
leaf_more n rows columns r c h k =
    tabulate_more n _ (leaf_at rows columns)
    (λ i l. ap₂ (λ (x y : ℕ). record { rows = x; columns = y })
    (get_or-set_other rows n i r 0 (λ e. omega arith)) (get_or-set_other columns n i c 0 (λ e. omega arith)))
    ∙ ap₂ (λ (x y : ℕ). tabulate n (leaf_at rows columns) ++ (record { rows = x; columns = y } ∷ []))
    (get_or-set_same rows n r 0 h) (get_or-set_same columns n c 0 k)

-- ---- the leaves by an item's number

module _ (q : Question) (i : ℕ) (h : i < length q.items) where
  next : drop i q.items ≡ item q i ∷ drop (i + 1) q.items
  next = rw add-one (drop-cons q.items i _ h)

  -- the leaves from item i on, behind those before it
  pub leaves_on : (ls : List Leaf) {ms : List Leaf} → (item q i).kind ≡ leaf
      → ms ≡ ls ++ (record { rows = (item q i).rows; columns = (item q i).range.count } ∷ [])
      → ms ++ leaves_of (drop (i + 1) q.items) ≡ ls ++ leaves_of (drop i q.items)
  unfolding leaves_of
  leaves_on ls e f =
      ap (λ (l : List Leaf). l ++ leaves_of (drop (i + 1) q.items)) f
      ∙ append_snoc ls (record { rows = (item q i).rows; columns = (item q i).range.count }) (leaves_of (drop (i + 1) q.items))
      ∙ ap (λ (l : List Leaf). ls ++ l) (sym (rw (next, eq-eqb (item q i).kind leaf e, leaves_of)))

  pub leaves_past : ((item q i).kind ≡ leaf → ⊥) → leaves_of (drop (i + 1) q.items) ≡ leaves_of (drop i q.items)
  unfolding leaves_of
  leaves_past e = sym (rw (next, ne_eqb (item q i).kind leaf e, leaves_of))

pub leaves_end : (q : Question) (i : ℕ) → length q.items ≤ i → leaves_of (drop i q.items) ≡ []
unfolding leaves_of
leaves_end q i h = ap leaves_of (drop_of_length-le q.items h)
