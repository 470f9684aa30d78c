-- Lists, as the other files use them.
use Rattle.std.specs.Prelude.{ℕ, zero, suc, Bool, false, ◌||◌, List, [], ◌∷◌, ◌++◌, map, length, drop, eqb}

-- f 0, f 1, .. f (n - 1)
unfoldable pub tabulate : {A : Type 0} → ℕ → (ℕ → A) → List A
tabulate zero f = []
tabulate (suc n) f = tabulate n f ++ (f n ∷ [])

-- f of each member, one list after the other
unfoldable pub concat_map : {A B : Type 0} → (A → List B) → List A → List B
concat_map f [] = []
concat_map f (x ∷ xs) = f x ++ concat_map f xs

unfoldable pub member : ℕ → List ℕ → Bool
member x [] = false
member x (y ∷ ys) = eqb y x || member x ys

-- one field's lent list: the field of each entry, then what the list l has behind them
abbrev pub column : {A B : Type 0} → (A → B) → List A → List B → List B
column f xs l = map f xs ++ drop (length xs) l
