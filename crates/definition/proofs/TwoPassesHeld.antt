-- The costing of TwoPasses.antt on lent lists: one list for each field of a plan, and the numbers of the plans kept. Assumes nothing.
use Rattle.std.specs.Prelude.{◌≡◌, refl, Bool, true, false, ◌⊎◌, List, [], ◌∷◌, ◌++◌, map, ℕ, zero, suc, ◌+◌, ◌<◌, ◌≤◌, length, get_or, set, drop, eqb}
use Rattle.std.proofs.Common.{sym, ap, ap₂, ◌∙◌, inl, inr, not-suc-le-zero, le_of_suc-le-suc, eq-or-lt_of_le, add-one, arith, length-append, length-set}
use Rattle.std.proofs.Common.{drop-cons, get_or-append-add, get_or-drop, eq-eqb, ne_eqb}
use Rattle.std.proofs.Math.ListN.{get_or-append}
use Rattle.std.proofs.Math.Seq.{append_snoc}
use Rattle.std.proofs.lemmas.List.{length-map, map-append, set_at, set-append_left, set-get_or}
use Rattle.definition.specs.Lists.{column}
use Rattle.definition.specs.Cost.{cheaper}
use Rattle.definition.specs.Search.{Plan, plan_of}
use Rattle.definition.specs.TwoPasses.{Costed, written}
use Rattle.definition.proofs.TwoPassesCostingLaws.{best_new, best_cheaper, best_kept, old}

-- the lent list h with these in front
abbrev pub in_front : {A : Type 0} → List A → List A → List A
in_front xs h = xs ++ drop (length xs) h

-- one more; d is any element
pub put : {A : Type 0} (xs : List A) (x : A) (h : List A) (d : A) → length xs < length h → set (in_front xs h) (length xs) x ≡ in_front (xs ++ (x ∷ [])) h
put {A} xs x h d l =
    ap (λ (r : List A). set (xs ++ r) (length xs) x) (drop-cons h (length xs) d l)
    ∙ set_at xs (get_or h (length xs) d) (drop (suc (length xs)) h) x (length xs) refl
    ∙ sym (append_snoc xs x (drop (suc (length xs)) h))
    ∙ ap (λ (n : ℕ). (xs ++ (x ∷ [])) ++ drop n h) (sym (length-append xs (x ∷ []) ∙ add-one (length xs)))

pub in_column : {A B : Type 0} (f : A → B) (xs : List A) (h : List B) → in_front (map f xs) h ≡ column f xs h
in_column f xs h = ap (λ (n : ℕ). map f xs ++ drop n h) (length-map xs f)

pub put_column : {A B : Type 0} (f : A → B) (xs : List A) (x : A) (h : List B) (d : B) → length xs < length h
    → set (column f xs h) (length xs) (f x) ≡ column f (xs ++ (x ∷ [])) h
put_column {A} {B} f xs x h d l =
    ap₂ (λ (z : List B) (n : ℕ). set z n (f x)) (sym (in_column f xs h)) (sym (length-map xs f))
    ∙ put (map f xs) (f x) h d (omega (arith, length-map xs f))
    ∙ ap (λ (z : List B). in_front z h) (sym (map-append f xs (x ∷ [])))
    ∙ in_column f (xs ++ (x ∷ [])) h

-- ---- what a step reads

-- a field of a plan that is there
pub plan_read : {B : Type 0} (f : Plan → B) (ps : List Plan) (h : List B) (n : ℕ) (d : B) → n < length ps → get_or (column f ps h) n d ≡ f (plan_of ps n)
plan_read {B} f ps h n d l = go ps n l
  where
    go : (qs : List Plan) (m : ℕ) → m < length qs → get_or (map f qs ++ drop (length ps) h) m d ≡ f (plan_of qs m)
    go [] m l = absurd (not-suc-le-zero l)
    go (q ∷ qs) zero l = refl
    go (q ∷ qs) (suc m) l = go qs m (le_of_suc-le-suc l)

-- what stands behind the plans is what was there before: so the positions of the candidates to come
pub ahead : {A B : Type 0} (f : A → B) (xs : List A) (h : List B) (j : ℕ) (d : B) → get_or (column f xs h) (length xs + j) d ≡ get_or h (length xs + j) d
ahead f xs h j d =
    ap (λ (n : ℕ). get_or (column f xs h) (n + j) d) (sym (length-map xs f))
    ∙ get_or-append-add (map f xs) (drop (length xs) h) j d
    ∙ get_or-drop (length xs) h j d

pub best_read : (xs h : List ℕ) (n : ℕ) → n < length xs → get_or (in_front xs h) n 0 ≡ get_or xs n 0
best_read xs h n l = get_or-append xs (drop (length xs) h) 0 n l

-- ---- what a step writes: plan p behind the others; and at position k of the kept plans its number, or again the number that is there

module _ (c : Costed) (k : ℕ) (p : Plan) where
  abbrev pub N : ℕ
  N = length c.plans

  unfoldable pub winner : ℕ
  winner = elim (eqb k (length c.best)) [ true ↦ N | false ↦ elim (cheaper p.estimate (old c k N p).estimate) [ true ↦ N | false ↦ get_or c.best k 0 ] ]

  pub plan_written : {B : Type 0} (f : Plan → B) (h : List B) (d : B) → N < length h → set (column f c.plans h) N (f p) ≡ column f (written c k p).plans h
  plan_written f h d l = put_column f c.plans p h d l

  pub best_written : (h : List ℕ) → k ≤ length c.best → k < length h → set (in_front c.best h) k winner ≡ in_front (written c k p).best h
  unfolding winner
  best_written h le l = go (eq-or-lt_of_le le) (cheaper p.estimate (old c k N p).estimate) refl
    where
      go : (k ≡ length c.best) ⊎ (k < length c.best) → (x : Bool) → cheaper p.estimate (old c k N p).estimate ≡ x
          → set (in_front c.best h) k winner ≡ in_front (written c k p).best h
      go (inl e) x d = rw (best_new c k N p e, eq-eqb k (length c.best) e, winner, e) (put c.best N h 0 (omega arith))
      go (inr m) true d =
          rw (best_cheaper c k N p m d, ne_eqb k (length c.best) (λ z. omega arith), winner, d, length-set c.best k N)
          (set-append_left c.best (drop (length c.best) h) k N m)
      go (inr m) false d =
          rw (best_kept c k N p m d, ne_eqb k (length c.best) (λ z. omega arith), winner, d)
          (set-append_left c.best (drop (length c.best) h) k _ m ∙ ap (λ (z : List ℕ). z ++ drop (length c.best) h) (set-get_or c.best k 0))
