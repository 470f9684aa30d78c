-- Lists all of whose members have a property. Assumes nothing.
use Rattle.std.specs.Prelude.{List, [], ◌∷◌, ◌++◌, map, ℕ, zero, suc, ◌<◌, length, get_or}
use Rattle.std.proofs.Common.{zero-le, suc-le-suc}
use Rattle.nodeset.specs.SubsetLaws.{All}
use Rattle.definition.specs.Lists.{concat_map}

pub all_map : {A : Type 0} {P Q : A → Type 0} → ((x : A) → P x → Q x) → (xs : List A) → All P xs → All Q xs
all_map f [] a = tt
all_map f (x ∷ xs) a = (f x a.0, all_map f xs a.1)

pub all_both : {A : Type 0} (P : A → Type 0) (xs ys : List A) → All P xs → All P ys → All P (xs ++ ys)
all_both P [] ys a b = b
all_both P (x ∷ xs) ys a b = (a.0, all_both P xs ys a.1 b)

pub all_append : {A : Type 0} (P : A → Type 0) (xs : List A) (x : A) → All P xs → P x → All P (xs ++ (x ∷ []))
all_append P xs x a p = all_both P xs (x ∷ []) a (p, tt)

pub all_concat : {A B : Type 0} (P : B → Type 0) (f : A → List B) → ((x : A) → All P (f x)) → (xs : List A) → All P (concat_map f xs)
unfolding concat_map
all_concat P f h [] = tt
all_concat P f h (x ∷ xs) = all_both P (f x) (concat_map f xs) (h x) (all_concat P f h xs)

-- by the members' numbers
pub all_of : {A : Type 0} (P : A → Type 0) (d : A) (xs : List A) → ((i : ℕ) → i < length xs → P (get_or xs i d)) → All P xs
all_of P d [] f = tt
all_of P d (x ∷ xs) f = (f 0 (suc-le-suc zero-le), all_of P d xs (λ i h. f (suc i) (suc-le-suc h)))

-- a member, or what stands for one past the end
pub all_get : {A : Type 0} (P : A → Type 0) (d : A) (xs : List A) (i : ℕ) → All P xs → P d → P (get_or xs i d)
all_get P d [] i a p = p
all_get P d (x ∷ xs) zero a p = a.0
all_get P d (x ∷ xs) (suc i) a p = all_get P d xs i a.1 p

pub all_mapped : {A B : Type 0} (P : B → Type 0) (f : A → B) (xs : List A) → All (λ x. P (f x)) xs → All P (map f xs)
all_mapped P f [] a = tt
all_mapped P f (x ∷ xs) a = (a.0, all_mapped P f xs a.1)
