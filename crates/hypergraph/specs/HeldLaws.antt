-- How much a builder holds, and the edge lists as a whole. Assumes nothing.
use Rattle.std.specs.Prelude.{◌≡◌, refl, ℕ, ◌≤◌, length}
use Rattle.std.proofs.Math.Path.{sym, ap, ap₂}
use Rattle.std.proofs.Common.{◌∙◌, take-append-drop}
use Rattle.std.proofs.lemmas.List.{length-reverse}
use mathlib.Core.List.{List, ◌++◌}
use Rattle.std.proofs.Math.ListN.{get_or, drop}
use Rattle.definition.specs.Lists.{column}
use Rattle.definition.proofs.ListLaws.{length-tabulate, tabulate_same, map-tabulate, tabulate-take}
use Rattle.definition.specs.Hypergraph.{Edge}
use Rattle.definition.specs.EdgeView.{edge_at, edges_of}
use Rattle.builder.specs.Builds.{EdgeLists, edges_in, edges_held, pile_of, Behind, Added, Longer}

pub pile_length : (p : List ℕ) → length (pile_of p) ≡ length p
pile_length p = length-reverse p

pub edges_held_lem : (n : ℕ) (h : EdgeLists) → length (edges_in n h) ≡ n
unfolding edges_of
edges_held_lem n h = length-tabulate n (edge_at h.left h.right h.predicate h.source h.kind)

-- one field of them
module _ (n : ℕ) (g : EdgeLists) where
  abbrev at : ℕ → Edge
  at i = edge_at g.left g.right g.predicate g.source g.kind i

  one_held : (f : Edge → ℕ) (before after : List ℕ) → ((i : ℕ) → f (at i) ≡ get_or after i 0) → n ≤ length after
      → Behind n before after → after ≡ column f (edges_in n g) before
  unfolding edges_of
  one_held f before after same h b =
      sym (take-append-drop n after)
      ∙ ap₂ (λ (x y : List ℕ). x ++ y)
      (sym (map-tabulate f n at ∙ tabulate_same n (λ i. f (at i)) (λ i. get_or after i 0) (λ i z. same i) ∙ tabulate-take n after h))
      (b.same ∙ ap (λ (k : ℕ). drop k before) (sym (edges_held_lem n g)))

pub lists_held : (m n : ℕ) (h g : EdgeLists) → Added m n h g → Longer n g → g ≡ edges_held (edges_in n g) h
lists_held m n h g a l =
    lists_eq (one_held n g (λ e. e.left) _ _ (λ i. refl) l.left a.left) (one_held n g (λ e. e.right) _ _ (λ i. refl) l.right a.right)
    (one_held n g (λ e. e.predicate) _ _ (λ i. refl) l.predicate a.predicate) (one_held n g (λ e. e.source) _ _ (λ i. refl) l.source a.source)
    (one_held n g (λ e. e.type) _ _ (λ i. refl) l.kind a.kind)
  where
    lists_eq : {a b c d e f g h i j : List ℕ} → a ≡ f → b ≡ g → c ≡ h → d ≡ i → e ≡ j
        → ◌≡◌ {A = EdgeLists} (record { left = a; right = b; predicate = c; source = d; kind = e })
        (record { left = f; right = g; predicate = h; source = i; kind = j })
    lists_eq p q r s t = cc
