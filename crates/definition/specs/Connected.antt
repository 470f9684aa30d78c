-- Document 01, 'Edges': "Connected". The classes of leaves are a list with, for each of the 64 leaves, the set of the leaves in its class.
use Rattle.std.specs.Prelude.{ℕ, zero, suc, Bool, true, false, ◌&&◌, not, List, [], ◌∷◌, map, length, get_or, eqb}
use Rattle.std.specs.Int.Bits.{bit_or}
use Rattle.nodeset.specs.Sets.{within, disjoint, singleton, lowest}
use Rattle.definition.specs.Lists.{tabulate}

-- each leaf is a class by itself
abbrev pub own_classes : List ℕ
own_classes = tabulate 64 singleton

-- s lies in one class: that of its lowest leaf
unfoldable pub one_class : ℕ → List ℕ → Bool
one_class s classes = within s (get_or classes (lowest s) 0)

-- t with the classes that meet s
unfoldable pub met : ℕ → ℕ → List ℕ → ℕ
met s t [] = t
met s t (p ∷ ps) = met s (elim (disjoint p s) [ true ↦ t | false ↦ bit_or t p ]) ps

-- the classes that meet s become one: "merge .. into one class"
unfoldable pub merge : ℕ → List ℕ → List ℕ
merge s classes = map (λ (p : ℕ). elim (disjoint p s) [ true ↦ p | false ↦ met s 0 classes ]) classes

-- "an edge merges its sides' classes once each side lies in one class; edges whose union equals the earlier join's record union are passed
-- over": it is not passed over, each side lies in one class, and the two are not one yet (merging a class with itself changes nothing)
unfoldable pub merges : ℕ → ℕ → ℕ → List ℕ → Bool
merges skip l r classes = not (eqb (bit_or l r) skip) && not (one_class (bit_or l r) classes) && one_class l classes && one_class r classes

-- the edges in order, each by its left and its right side, which are lists of their own, as the builder holds them
unfoldable pub round : ℕ → List ℕ → List ℕ → List ℕ → List ℕ
round skip [] rs classes = classes
round skip (l ∷ ls) [] classes = classes
round skip (l ∷ ls) (r ∷ rs) classes =
    round skip ls rs (elim (merges skip l r classes) [ true ↦ merge (bit_or l r) classes | false ↦ classes ])

-- k rounds. As many as there are edges are enough: `settled`
unfoldable pub rounds : ℕ → ℕ → List ℕ → List ℕ → List ℕ → List ℕ
rounds zero skip ls rs classes = classes
rounds (suc k) skip ls rs classes = rounds k skip ls rs (round skip ls rs classes)

-- "merge the first set into one class, the second likewise; an edge merges ..; Either set empty: no."
unfoldable pub connected : List ℕ → List ℕ → ℕ → ℕ → ℕ → Bool
connected ls rs a b skip =
    not (eqb a 0) && not (eqb b 0) && one_class (bit_or a b) (rounds (length ls) skip ls rs (merge b (merge a own_classes)))
