-- What a builder holds after each write. Assumes nothing.
use Rattle.std.specs.Prelude.{◌≡◌, refl, ◌⊎◌, List, [], ◌∷◌, ◌++◌, ℕ, suc, ◌+◌, ◌-◌, ◌≤◌, ◌<◌, length, get_or, take, drop, set}
use Rattle.std.proofs.Common.{sym, ap₂, ◌∙◌, inl, inr, arith, add-one, le_of_suc-le-suc, eq-or-lt_of_le}
use Rattle.std.proofs.Common.{length-set, length-append, get_or-set_other, get_or-set_same, drop-set-lt, take-suc}
use Rattle.std.proofs.Math.Seq.{take_all}
use Rattle.std.proofs.Math.ListN.{get_or-append}
use Rattle.std.proofs.lemmas.List.{get_or_at}
use Rattle.std.proofs.Math.Path.{ap}
use Rattle.std.specs.Int.Bits.{bit_or}
use mathlib.Core.List.{map-append, reverse-append}
use Rattle.nodeset.specs.Sets.{singleton}
use Rattle.definition.specs.Lists.{tabulate}
use Rattle.definition.proofs.ListLaws.{tabulate_more}
use Rattle.definition.specs.Hypergraph.{Edge}
use Rattle.definition.specs.EdgeView.{edge_at, edges_of}
use Rattle.sheet.specs.declared.Range.{Range}
use Rattle.ses.specs.View.{columns_at, leaves_of, leaf_range, Fit, Fits}
use Rattle.tes.specs.Views.{join_of, joins_of}
use Rattle.tes.specs.declared.JoinRecord.{JoinRecord}
use Rattle.builder.specs.Builds.{EdgeLists, one_join, one_leaf, build_of, with_leaf, with_record, pile_of, Behind, Added, RoomFor, LeavesFit}
use Rattle.builder.specs.declared.HypergraphBuilder.{HypergraphBuilder}

-- ---- one place more

-- a write at place n is seen there, and below n nothing changes
pub put_same : (l : List ℕ) (n x : ℕ) → n < length l → get_or (set l n x) n 0 ≡ x
put_same l n x h = get_or-set_same l n x 0 h

pub put_other : (l : List ℕ) (n x i : ℕ) → i < n → get_or (set l n x) i 0 ≡ get_or l i 0
put_other l n x i h = get_or-set_other l n i x 0 (λ e. omega arith)

edge_eq : {a b c d e f g h i j : ℕ} → a ≡ f → b ≡ g → c ≡ h → d ≡ i → e ≡ j
    → ◌≡◌ {A = Edge} (record { left = a; right = b; predicate = c; source = d; type = e }) (record { left = f; right = g; predicate = h; source = i; type = j })
edge_eq p q r s t = cc

module _ (n : ℕ) (a b c d e : List ℕ) (v w x y z : ℕ) (ha : n < length a) (hb : n < length b) (hc : n < length c) (hd : n < length d) (he : n < length e) where
  pub edges_more : edges_of (n + 1) (set a n v) (set b n w) (set c n x) (set d n y) (set e n z)
      ≡ edges_of n a b c d e ++ (record { left = v; right = w; predicate = x; source = y; type = z } ∷ [])
  unfolding edges_of
  edges_more =
      tabulate_more n _ (edge_at a b c d e) (λ i h.
      edge_eq (put_other a n v i h) (put_other b n w i h) (put_other c n x i h) (put_other d n y i h) (put_other e n z i h))
      ∙ ap (λ (f : Edge). tabulate n (edge_at a b c d e) ++ (f ∷ []))
      (edge_eq (put_same a n v ha) (put_same b n w hb) (put_same c n x hc) (put_same d n y hd) (put_same e n z he))

-- one join more, one leaf more

pub joins_more : (js : List JoinRecord) (j : JoinRecord) → joins_of (js ++ (j ∷ [])) ≡ joins_of js ++ (join_of j ∷ [])
joins_more js j = map-append join_of js (j ∷ [])

pub leaves_more : (sheet : List ℕ) (rs : List Range) (r : Range)
    → leaves_of sheet (rs ++ (r ∷ [])) ≡ leaves_of sheet rs ++ (columns_at sheet r.first r.count ∷ [])
leaves_more sheet rs r = map-append (λ (r : Range). columns_at sheet r.first r.count) rs (r ∷ [])

-- ---- the pile

-- a thing put on the pile is its top
pub pile_put : (p : List ℕ) (x : ℕ) → pile_of (p ++ (x ∷ [])) ≡ x ∷ pile_of p
pile_put p x = reverse-append p (x ∷ [])

-- what lies under it stays
pub pile_under : (p : List ℕ) (x : ℕ) → drop 1 (pile_of (p ++ (x ∷ []))) ≡ pile_of p
pile_under p x = ap (drop 1) (pile_put p x)

pub pile_two : (p : List ℕ) → let n = length p in 2 ≤ n → pile_of p ≡ get_or p (n - 1) 0 ∷ (get_or p (n - 2) 0 ∷ pile_of (take (n - 2) p))
pile_two p h =
    let n = length p in
    let k = n - 2 in
    let x = get_or p k 0 in
    let y = get_or p (n - 1) 0 in
    let m : n ≡ suc (suc k) = omega arith in
    let j : suc k ≡ n - 1 = omega arith in
    let all : take (suc (suc k)) p ≡ p = take_all (suc (suc k)) p (omega arith) in
    let split : take (suc (suc k)) p ≡ (take k p ++ (x ∷ [])) ++ (y ∷ []) =
    take-suc p (suc k) 0 (omega arith) ∙ ap₂ (λ (l : List ℕ) (i : ℕ). l ++ (get_or p i 0 ∷ [])) (take-suc p k 0 (omega arith)) j in
    ap pile_of (sym all ∙ split) ∙ pile_put (take k p ++ (x ∷ [])) y ∙ ap (λ (l : List ℕ). y ∷ l) (pile_put (take k p) x)

-- ---- the rest of the lists

behind_put : (l : List ℕ) (n x : ℕ) → Behind (n + 1) l (set l n x)
behind_put l n x = record { length_same = length-set l n x; same = drop-set-lt (n + 1) l n x (omega arith) }

module _ (n : ℕ) (h : EdgeLists) (v w x y z : ℕ) where
  abbrev written : EdgeLists
  written = record { left = set h.left n v; right = set h.right n w; predicate = set h.predicate n x; source = set h.source n y; kind = set h.kind n z }

  pub added_one : Added n (n + 1) h written
  added_one =
      record {
        grown = omega arith;
        left = behind_put h.left n v;
        right = behind_put h.right n w;
        predicate = behind_put h.predicate n x;
        source = behind_put h.source n y;
        kind = behind_put h.kind n z;
      }

-- ---- one record more

-- the leaves stay
pub leaves_kept : (sheet : List ℕ) (b : HypergraphBuilder) (j : JoinRecord) → LeavesFit sheet b → LeavesFit sheet (one_join j b)
leaves_kept sheet b j f = f

pub record_built : (sheet : List ℕ) (b : HypergraphBuilder) (e : EdgeLists) (j : JoinRecord) → RoomFor b
    → build_of sheet (one_join j b) e ≡ with_record (join_of j) (build_of sheet b e)
record_built sheet b e j room =
    let rest = take (length b.pile.items - 2) b.pile.items in
    rw (joins_more b.joins.items j, pile_put rest (bit_or j.left_nodes j.right_nodes), pile_two b.pile.items room.two)

-- ---- one leaf more

pub fits_more : (sheet : List ℕ) (rs : List Range) (r : Range) → Fits sheet rs → Fit sheet r.first r.count → length rs < 64 → Fits sheet (rs ++ (r ∷ []))
fits_more sheet rs r w fit few =
    record {
      few = simp length-append (omega arith);
      inside = λ k h. at k (eq-or-lt_of_le (le_of_suc-le-suc (rw (length-append, add-one) at h)));
    }
  where
    none : Range
    none = record { first = 0; count = 0 }

    at : (k : ℕ) → (k ≡ length rs) ⊎ (k < length rs) → Fit sheet (leaf_range (rs ++ (r ∷ [])) k).first (leaf_range (rs ++ (r ∷ [])) k).count
    at k (inl e) = rw (e, get_or_at rs r [] none (length rs) refl) fit
    at k (inr l) = rw (get_or-append rs (r ∷ []) none k l) (w.inside k l)

pub leaf_held : (sheet : List ℕ) (b : HypergraphBuilder) (e : EdgeLists) (p : Range)
    → build_of sheet (one_leaf p b) e ≡ with_leaf (length b.leaves.items) (columns_at sheet p.first p.count) (build_of sheet b e)
leaf_held sheet b e p =
    rw (leaves_more sheet b.leaves.items p, pile_put b.pile.items (singleton (length b.leaves.items)))

pub leaf-fits : (sheet : List ℕ) (b : HypergraphBuilder) (p : Range) → length b.leaves.items < 64 → LeavesFit sheet b
    → Fit sheet p.first p.count → LeavesFit sheet (one_leaf p b)
leaf-fits sheet b p few w fit = fits_more sheet b.leaves.items p w fit few
