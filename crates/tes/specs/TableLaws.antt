-- The tables say no of a number above 7, so that a refusal may be read as no. Assumes nothing.
use Rattle.std.specs.Prelude.{◌≡◌, refl, ◌⊎◌, Bool, true, false, ◌&&◌, ◌||◌, List, [], ◌∷◌, ℕ, ◌≤◌, ◌<◌, T, leb, eqb, Result, Ok, Err}
use Rattle.std.specs.Result.{result_unwrap_or}
use Rattle.std.proofs.Common.{sym, ap, ap₂, ◌∙◌, inl, inr, arith, leb-true, leb-false, ne_eqb}
use Rattle.definition.specs.Lists.{member}
use Rattle.definition.specs.Answers.{unknown_kind}
use Rattle.definition.specs.Tables.{cell, refused, asked, pairs, assoc, l_asscom, r_asscom}
use Rattle.conflict.specs.Views.{asked_of}
use Rattle.conflict.specs.declared.UnknownType.{UnknownType}
use Rattle.tes.specs.Views.{allows}

-- every number is a type's
abbrev types : List ℕ → Bool
types [] = true
types (x ∷ xs) = leb x 7 && types xs

no_member : (xs : List ℕ) (a : ℕ) → 7 < a → T (types xs) → member a xs ≡ false
unfolding member
no_member [] a h t = refl
no_member (x ∷ xs) a h t = go (leb x 7) refl t (no_member xs a h)
  where
    go : (b : Bool) → leb x 7 ≡ b → T (b && types xs) → (T (types xs) → member a xs ≡ false) → eqb x a || member a xs ≡ false
    go true e t f = let k : x ≤ 7 = leb-true x 7 e in ap₂ ◌||◌ (ne_eqb x a (λ q. omega arith)) (f t)
    go false e t f = absurd t

and_false : (b : Bool) → b && false ≡ false
and_false true = refl
and_false false = refl

-- two numbers, of which one is above 7, in no pair of lists of types
outside : (a b : ℕ) → (7 < a) ⊎ (7 < b) → (xs ys : List ℕ) → T (types xs) → T (types ys) → pairs xs ys a b ≡ false
outside a b (inl h) xs ys tx ty = ap (λ (m : Bool). m && member b ys) (no_member xs a h tx)
outside a b (inr h) xs ys tx ty = ap (λ (m : Bool). member a xs && m) (no_member ys b h ty) ∙ and_false (member a xs)

allows-asked : (table : ℕ → ℕ → Bool) (a b : ℕ) → ((7 < a) ⊎ (7 < b) → table a b ≡ false) → allows (asked table a b) ≡ table a b
allows-asked table a b out = go (leb a 7) (leb b 7) refl refl
  where
    go : (p q : Bool) → leb a 7 ≡ p → leb b 7 ≡ q → allows (elim (p && q) [ true ↦ cell (table a b) | false ↦ refused unknown_kind ]) ≡ table a b
    go true true e f = refl
    go true false e f = sym (out (inr (leb-false b 7 f)))
    go false q e f = sym (out (inl (leb-false a 7 e)))

pub allows-assoc : (a b : ℕ) → allows (asked assoc a b) ≡ assoc a b
unfolding assoc
allows-assoc a b =
    allows-asked assoc a b
    (λ h. rw (
      outside a b h (0 ∷ []) (0 ∷ 3 ∷ []) tt tt,
      outside a b h (3 ∷ []) (3 ∷ 4 ∷ 5 ∷ 6 ∷ 7 ∷ []) tt tt,
      outside a b h (4 ∷ 5 ∷ 6 ∷ 7 ∷ []) (4 ∷ 5 ∷ 6 ∷ 7 ∷ []) tt tt,
    ))

pub allows_l_asscom : (a b : ℕ) → allows (asked l_asscom a b) ≡ l_asscom a b
unfolding l_asscom
allows_l_asscom a b =
    allows-asked l_asscom a b
    (λ h. rw (
      outside a b h (0 ∷ 1 ∷ 2 ∷ []) (0 ∷ 1 ∷ 2 ∷ 3 ∷ []) tt tt,
      outside a b h (3 ∷ 5 ∷ 7 ∷ []) (0 ∷ 1 ∷ 2 ∷ 3 ∷ 4 ∷ 5 ∷ 6 ∷ 7 ∷ []) tt tt,
    ))

pub allows_r_asscom : (a b : ℕ) → allows (asked r_asscom a b) ≡ r_asscom a b
unfolding r_asscom
allows_r_asscom a b =
    allows-asked r_asscom a b
    (λ h. rw (outside a b h (0 ∷ []) (0 ∷ []) tt tt, outside a b h (6 ∷ 7 ∷ []) (6 ∷ 7 ∷ []) tt tt))

-- a table's answer, with no for a refusal
unwrapped : (r : Result Bool UnknownType) → result_unwrap_or r false ≡ allows (asked_of r)
unwrapped (Ok b) = refl
unwrapped (Err e) = refl

module _ (a b : ℕ) (r : Result Bool UnknownType) where
  pub said_assoc : asked_of r ≡ asked assoc a b → result_unwrap_or r false ≡ assoc a b
  said_assoc e = unwrapped r ∙ ap allows e ∙ allows-assoc a b

  pub said_l_asscom : asked_of r ≡ asked l_asscom a b → result_unwrap_or r false ≡ l_asscom a b
  said_l_asscom e = unwrapped r ∙ ap allows e ∙ allows_l_asscom a b

  pub said_r_asscom : asked_of r ≡ asked r_asscom a b → result_unwrap_or r false ≡ r_asscom a b
  said_r_asscom e = unwrapped r ∙ ap allows e ∙ allows_r_asscom a b
