-- The edge lists and the builder's counts, with more edges. Assumes nothing.
use Rattle.std.specs.Prelude.{◌≡◌, refl, List, [], ◌∷◌, ◌++◌, ℕ, ◌+◌, ◌-◌, ◌≤◌, length, take, drop}
use Rattle.std.proofs.Common.{sym, ap, ◌∙◌, arith, drop-drop}
use Rattle.definition.specs.Hypergraph.{Edge}
use Rattle.definition.specs.Edges as edges
use Rattle.definition.specs.Edges.{Sides, with_edge, record_of, side_set, sides_for, widen}
use Rattle.sheet.specs.declared.Range.{Range}
use Rattle.ses.specs.View.{leaves_of}
use Rattle.tes.specs.declared.Sides as tes
use Rattle.tes.specs.Views.{joins_of}
use Rattle.std.proofs.Common.{length-take-le, get_or-take}
use Rattle.builder.specs.Builds.{EdgeLists, more_edges, one_join, edges_in, build_of, Behind, Added, Longer, RoomFor, LeavesFit}
use Rattle.definition.specs.EdgeView.{edge_at, edges_of}
use Rattle.definition.proofs.ListLaws.{tabulate_same}
use Rattle.tes.specs.declared.JoinRecord.{JoinRecord}
use Rattle.builder.specs.declared.HypergraphBuilder.{HypergraphBuilder}
use Rattle.joins.specs.Joins.{with_edges, Ready}

-- ---- the rest of the lists

behind_self : (n : ℕ) (l : List ℕ) → Behind n l l
behind_self n l = record { length_same = refl; same = refl }

behind_more : (m n : ℕ) (x y z : List ℕ) → m ≤ n → Behind m x y → Behind n y z → Behind n x z
behind_more m n x y z h p q =
    record {
      length_same = q.length_same ∙ p.length_same;
      same = q.same ∙ sym (further y) ∙ ap (drop (n - m)) p.same ∙ further x;
    }
  where
    further : (l : List ℕ) → drop (n - m) (drop m l) ≡ drop n l
    further l = let e : m + (n - m) ≡ n = omega arith in drop-drop (n - m) m l ∙ ap (λ (k : ℕ). drop k l) e

pub added_none : (n : ℕ) (h : EdgeLists) → Added n n h h
added_none n h =
    record {
      grown = omega arith;
      left = behind_self n h.left;
      right = behind_self n h.right;
      predicate = behind_self n h.predicate;
      source = behind_self n h.source;
      kind = behind_self n h.kind;
    }

pub added_more : {m n o : ℕ} {h g f : EdgeLists} → Added m n h g → Added n o g f → Added m o h f
added_more {m} {n} {o} p q =
    record {
      grown = omega (arith, p.grown, q.grown);
      left = behind_more n o _ _ _ q.grown p.left q.left;
      right = behind_more n o _ _ _ q.grown p.right q.right;
      predicate = behind_more n o _ _ _ q.grown p.predicate q.predicate;
      source = behind_more n o _ _ _ q.grown p.source q.source;
      kind = behind_more n o _ _ _ q.grown p.kind q.kind;
    }

-- ---- how long they are

pub longer_less : {x y : ℕ} {h : EdgeLists} → x ≤ y → Longer y h → Longer x h
longer_less e l =
    record {
      left = omega (arith, l.left);
      right = omega (arith, l.right);
      predicate = omega (arith, l.predicate);
      source = omega (arith, l.source);
      kind = omega (arith, l.kind);
    }

pub longer_added : {m n x y : ℕ} {h g : EdgeLists} → Added m n h g → x ≤ y → Longer y h → Longer x g
longer_added a e l =
    record {
      left = omega (arith, l.left, a.left.length_same);
      right = omega (arith, l.right, a.right.length_same);
      predicate = omega (arith, l.predicate, a.predicate.length_same);
      source = omega (arith, l.source, a.source.length_same);
      kind = omega (arith, l.kind, a.kind.length_same);
    }

pub added_to : {m n o : ℕ} {h g : EdgeLists} → n ≡ o → Added m n h g → Added m o h g
added_to {m} {n} {o} {h} {g} e a = rw (sym e) a

-- ---- the builder, with more edges

abbrev with_count : ℕ → HypergraphBuilder → HypergraphBuilder
with_count k b = record { edges = k; leaves = b.leaves; joins = b.joins; pile = b.pile }

pub more_none : (b : HypergraphBuilder) {m : ℕ} → m ≡ 0 → b ≡ more_edges m b
more_none b {m} e =
    let f : b.edges ≡ b.edges + m = omega arith in
    ap (λ (k : ℕ). with_count k b) f

pub more_more : (b : HypergraphBuilder) {c d : HypergraphBuilder} (m n : ℕ) {k : ℕ} → c ≡ more_edges m b → d ≡ more_edges n c → m + n ≡ k → d ≡ more_edges k b
more_more b {c} {d} m n {k} p q e =
    let f : b.edges + m + n ≡ b.edges + k = omega arith in
    q ∙ ap (more_edges n) p ∙ ap (λ (x : ℕ). with_count x b) f

pub edges-counted : (b : HypergraphBuilder) {c : HypergraphBuilder} (m : ℕ) → c ≡ more_edges m b → c.edges ≡ b.edges + m
edges-counted b m e = ap (λ (x : HypergraphBuilder). x.edges) e

pub ready_after : (sheet : List ℕ) (b : HypergraphBuilder) {c : HypergraphBuilder} (m : ℕ) → c ≡ more_edges m b → Ready sheet b → Ready sheet c
ready_after sheet b {c} m e r = rw e (record { leaves = r.leaves })

pub room_after : (b : HypergraphBuilder) {c : HypergraphBuilder} (m : ℕ) → c ≡ more_edges m b → RoomFor b → RoomFor c
room_after b {c} m e r = rw e (record { two = r.two; joins = r.joins })

-- the leaves are the same
pub same_leaves : (b : HypergraphBuilder) {c d : HypergraphBuilder} (m : ℕ) (j : JoinRecord) → c ≡ more_edges m b → d ≡ one_join j c → d.leaves ≡ b.leaves
same_leaves b m j e f = ap (λ (x : HypergraphBuilder). x.leaves) f ∙ ap (λ (x : HypergraphBuilder). x.leaves) e

pub fits_same : (sheet : List ℕ) (b c : HypergraphBuilder) → c.leaves ≡ b.leaves → LeavesFit sheet b → LeavesFit sheet c
fits_same sheet b c e f = rw e f

pub fits_after : (sheet : List ℕ) (b : HypergraphBuilder) {c : HypergraphBuilder} (m : ℕ) → c ≡ more_edges m b → LeavesFit sheet b → LeavesFit sheet c
fits_after sheet b {c} m e f = fits_same sheet b c (ap (λ (x : HypergraphBuilder). x.leaves) e) f

pub fits_back : (sheet : List ℕ) (b : HypergraphBuilder) {c : HypergraphBuilder} (m : ℕ) → c ≡ more_edges m b → LeavesFit sheet c → LeavesFit sheet b
fits_back sheet b {c} m e f = fits_same sheet c b (sym (ap (λ (x : HypergraphBuilder). x.leaves) e)) f

pub edge_built : (sheet : List ℕ) (b : HypergraphBuilder) {c : HypergraphBuilder} (e g : EdgeLists) (x : Edge) → c ≡ more_edges 1 b
    → edges_in (b.edges + 1) g ≡ edges_in b.edges e ++ (x ∷ []) → build_of sheet c g ≡ with_edge (build_of sheet b e) x
edge_built sheet b {c} e g x p q =
    ap (λ (y : HypergraphBuilder). build_of sheet y g) p ∙ ap (λ (es : List Edge). with_edges es (build_of sheet b e)) q

-- ---- the edges, of lists cut to their number

edge_same : {a b c d : ℕ} {p s t : ℕ} → a ≡ c → b ≡ d
    → ◌≡◌ {A = Edge} (record { left = a; right = b; predicate = p; source = s; type = t }) (record { left = c; right = d; predicate = p; source = s; type = t })
edge_same e f = cc

pub edges_cut : (n : ℕ) (l r p s t : List ℕ) → n ≤ length l → edges_of (length (take n l)) (take n l) (take n r) p s t ≡ edges_of n l r p s t
unfolding edges_of
edges_cut n l r p s t h =
    rw (length-take-le n l h)
    (tabulate_same n (edge_at (take n l) (take n r) p s t) (edge_at l r p s t)
    (λ i less. edge_same (get_or-take n l i 0 less) (get_or-take n r i 0 less)))

-- ---- a join's sides

module _ (sheet : List ℕ) (fs : List Edge) (ks : List JoinRecord) (ms : List Range) (v : tes.Sides) (cs pile : List ℕ) where
  pub sides_made : {u t a b : ℕ} {es : List Edge} {js : List JoinRecord} {ls : List Range} {w : tes.Sides} {x : Sides}
      → x ≡ widen es t w.left w.right (joins_of js) (record { left = a; right = b })
      → es ≡ fs → js ≡ ks → t ≡ u → w ≡ v → ls ≡ ms
      → a ≡ side_set (leaves_of sheet ls) v.left cs → b ≡ side_set (leaves_of sheet ls) v.right cs
      → x ≡ sides_for (record { leaves = leaves_of sheet ms; edges = fs; joins = joins_of ks; pile = pile }) u v.left v.right cs
  unfolding sides_for
  sides_made e f g h i j k l = cc

-- ---- a join's record

pub recorded : {t u : ℕ} {v w : tes.Sides} {s : Sides} {j : edges.JoinRecord}
    → j ≡ record_of t w.left w.right s → t ≡ u → w ≡ v → j ≡ record_of u v.left v.right s
recorded e f g = cc
