-- Entries read back from the lists of their fields. Assumes nothing.
use Rattle.std.specs.Prelude.{◌≡◌, refl, List, [], ◌∷◌, ◌++◌, map, ℕ, zero, suc, ◌<◌, length, get_or}
use Rattle.std.proofs.Common.{◌∙◌, arith, not-suc-le-zero, le_of_suc-le-suc, ext_get_or}
use Rattle.definition.specs.Lists.{tabulate}
use Rattle.definition.proofs.ListLaws.{length-tabulate, get_d_tabulate}

-- a field's list has each entry's field at the entry's place
pub front : {A B : Type 0} (f : A → B) (xs : List A) (l : List B) (d : A) (e : B) (i : ℕ) → i < length xs → get_or (map f xs ++ l) i e ≡ f (get_or xs i d)
front f [] l d e i h = absurd (not-suc-le-zero h)
front f (x ∷ xs) l d e zero h = refl
front f (x ∷ xs) l d e (suc i) h = front f xs l d e i (le_of_suc-le-suc h)

-- entries that are read one by one
pub read_all : {A : Type 0} (xs : List A) (d : A) (at : ℕ → A) → ((i : ℕ) → i < length xs → at i ≡ get_or xs i d) → tabulate (length xs) at ≡ xs
read_all xs d at same =
    let n = length-tabulate (length xs) at in
    ext_get_or d (tabulate (length xs) at) xs n (λ i h. get_d_tabulate (length xs) at i d (omega (arith, n)) ∙ same i (omega (arith, n)))
