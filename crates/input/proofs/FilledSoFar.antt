-- An array that a loop fills from the front: one entry more, and all of them. Assumes nothing.
use Rattle.std.specs.Prelude.{◌≡◌, refl, ℕ, zero, suc, ◌+◌, ◌≤◌, ◌<◌, length, get_or, take, set}
use Rattle.std.proofs.Math.Path.{sym, ap}
use Rattle.std.proofs.Common.{ap₂, ◌∙◌, arith, add-one, not-suc-le-zero, le_of_suc-le-suc, length-set, get_or-set_same, take-suc}
use mathlib.Core.List.{List, [], ◌∷◌, ◌++◌, map}
use Rattle.std.proofs.lemmas.List.{length-map}
use Rattle.std.proofs.Math.ListN.{get_or-map}

pub take_all : (n : ℕ) (xs : List ℕ) → length xs ≤ n → take n xs ≡ xs
take_all zero [] h = refl
take_all (suc n) [] h = refl
take_all zero (x ∷ xs) h = absurd (not-suc-le-zero h)
take_all (suc n) (x ∷ xs) h = ap (λ (t : List ℕ). x ∷ t) (take_all n xs (le_of_suc-le-suc h))

take-set : (l : List ℕ) (i x : ℕ) → take i (set l i x) ≡ take i l
take-set [] i x = refl
take-set (y ∷ l) zero x = refl
take-set (y ∷ l) (suc i) x = ap (λ (t : List ℕ). y ∷ t) (take-set l i x)

pub filled : {A : Type 0} (f : A → ℕ) (xs : List A) (d : A) (l : List ℕ) (i x : ℕ) → i < length xs → i < length l → x ≡ f (get_or xs i d)
    → take i l ≡ take i (map f xs) → take (i + 1) (set l i x) ≡ take (i + 1) (map f xs)
filled f xs d l i x h k e w =
    ap (λ (n : ℕ). take n (set l i x)) (add-one i)
    ∙ take-suc (set l i x) i (f d) (omega (arith, length-set l i x))
    ∙ ap₂ (λ (t : List ℕ) (y : ℕ). t ++ (y ∷ [])) (take-set l i x ∙ w) (get_or-set_same l i x (f d) k ∙ e ∙ sym (get_or-map f xs i d))
    ∙ sym (take-suc (map f xs) i (f d) (omega (arith, length-map xs f)))
    ∙ ap (λ (n : ℕ). take n (map f xs)) (sym (add-one i))
