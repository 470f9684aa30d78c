-- The link by the edges' two lists of sides, a set's two gains, and one earlier join more, for the loop over the joins. Assumes nothing.
use Rattle.std.specs.Prelude.{◌≡◌, Bool, true, false, List, map, ℕ, suc, ◌+◌, ◌≤◌, ◌<◌, length, get_or, drop}
use Rattle.std.proofs.Common.{ap, ap₂, ◌∙◌, add-one, arith, drop-cons, drop_of_length-le}
use Rattle.std.specs.Int.Bits.{bit_or}
use Rattle.std.proofs.lemmas.Nat.{or_comm}
use Rattle.std.proofs.Math.Seq.{take_all}
use Rattle.definition.proofs.ListLaws.{map-tabulate, tabulate-take}
use Rattle.definition.specs.Hypergraph.{Edge}
use Rattle.definition.specs.Connected.{connected}
use Rattle.definition.specs.Tables.{r_asscom}
use Rattle.definition.specs.Edges.{Sides, JoinRecord, linked, gained, widened_right, widen}
use Rattle.definition.specs.EdgeView.{edge_at, edges_of}
use Rattle.tes.specs.declared.JoinRecord as declared
use Rattle.tes.specs.Views.{join_of, joins_of, turned, widened_side, widened_by}

module _ (l r p s t : List ℕ) where
  abbrev all : List Edge
  all = edges_of (length l) l r p s t

  lefts : map (λ (e : Edge). e.left) all ≡ l
  unfolding edges_of
  lefts =
      map-tabulate (λ (e : Edge). e.left) (length l) (edge_at l r p s t)
      ∙ tabulate-take (length l) l (omega arith) ∙ take_all (length l) l (omega arith)

  rights : length r ≡ length l → map (λ (e : Edge). e.right) all ≡ r
  unfolding edges_of
  rights h =
      map-tabulate (λ (e : Edge). e.right) (length l) (edge_at l r p s t)
      ∙ tabulate-take (length l) r (omega arith) ∙ take_all (length l) r (omega arith)

  -- the link, by the lists of sides alone
  pub linked_by : length r ≡ length l → (j : JoinRecord) (from to : ℕ) {x : Bool}
      → x ≡ connected l r from to (bit_or j.tes_left j.tes_right) → x ≡ linked all j from to
  linked_by h j from to e = rw (lefts, rights h) e

-- a set that gains twice, each time by what a table says
pub gained_twice : (link link2 : Bool) (add add2 s : ℕ) {ok ok2 said said2 : Bool} {f x : ℕ}
    → ok ≡ said → f ≡ gained ok link add s → ok2 ≡ said2 → x ≡ gained ok2 link2 add2 f → x ≡ gained said2 link2 add2 (gained said link add s)
gained_twice link link2 add add2 s o e o2 g =
    g ∙ ap₂ (λ (b : Bool) (z : ℕ). gained b link2 add2 z) o2 (e ∙ ap (λ (b : Bool). gained b link add s) o)

-- a set widened where the test b is passed
module _ (b : Bool) (v wide s : ℕ) where
  pub widened_yes : b ≡ true → v ≡ wide → v ≡ elim b [ true ↦ wide | false ↦ s ]
  widened_yes e q = rw e q

  pub widened_no : b ≡ false → v ≡ s → v ≡ elim b [ true ↦ wide | false ↦ s ]
  widened_no e q = rw e q

pub both_sides : {a b x y : ℕ} → a ≡ x → b ≡ y → ◌≡◌ {A = Sides} (record { left = a; right = b }) (record { left = x; right = y })
both_sides e f = ap₂ (λ (a b : ℕ). record { left = a; right = b }) e f

-- a side widened by what the table says
pub widened_by_table : (es : List Edge) (t across s : ℕ) {ok said : Bool} {i j : JoinRecord} {x : ℕ}
    → i ≡ j → ok ≡ said → x ≡ widened_side es t ok across i s → x ≡ widened_side es t said across j s
widened_by_table es t across s e f g = cc

-- the right side of a join is the left side of the join turned around
pub widened_turned : (es : List Edge) (t l : ℕ) (j : JoinRecord) (s : ℕ)
    → widened_side es t (r_asscom j.type t) l (turned j) s ≡ widened_right es t l j s
widened_turned es t l j s =
    let skip : bit_or j.tes_right j.tes_left ≡ bit_or j.tes_left j.tes_right = or_comm j.tes_right j.tes_left in
    rw skip

module _ (es : List Edge) (t l r : ℕ) (js : List declared.JoinRecord) where
  abbrev from : ℕ → Sides → Sides
  from i s = widen es t l r (joins_of (drop i js)) s

  pub widen_on : (i : ℕ) (d : declared.JoinRecord) (s v : Sides) → i < length js → v ≡ widened_by es t l r (join_of (get_or js i d)) s
      → from (i + 1) v ≡ from i s
  unfolding widen
  widen_on i d s v h e = rw (add-one, drop-cons js i d h) (ap (from (suc i)) e)

  pub widen_end : (i : ℕ) (s : Sides) → length js ≤ i → from i s ≡ s
  unfolding widen
  widen_end i s h = rw (drop_of_length-le js h)
