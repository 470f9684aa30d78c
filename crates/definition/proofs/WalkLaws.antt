-- Laws of the walk. Two runs that visits and candidates keep related, and that ask the memo the same until they part (`solve_until_parted`); two
-- that never part (`solve_rel`); what one run keeps (`solve_keeps`). What the walk knows of the two sets of a candidate is handed on: they have
-- no leaf in common. Assumes nothing.
use Rattle.std.specs.Prelude.{◌≡◌, ◌⊎◌, Bool, true, false, ◌&&◌, List, [], ◌∷◌, T, ltb}
use Rattle.std.proofs.Math.Path.{refl}
use Rattle.std.proofs.Common.{sym, ap, subst, inl, inr, arith, pow_pos, eqb→eq, ltb-true}
use Prim.Native.Nat.{ℕ, zero, suc, ◌^◌, ◌<◌, min}
use Rattle.std.proofs.lemmas.Bool.{false≢true}
use Rattle.std.specs.Int.Bits.{bit_and, bit_or}
use Rattle.std.proofs.lemmas.Nat.{or_lt}
use Rattle.std.proofs.Math.Pow.{pow-lt}
use Rattle.nodeset.specs.Sets.{bit, within, disjoint, singleton, lowest, all_below, up_to_lowest}
use Rattle.nodeset.specs.SetLaws.{bit-or, bit_empty, bit_one_cases, Lowest, lowest_of, singleton_is, Apart, In, disjoint_apart}
use Rattle.nodeset.specs.Subsets.{non_empty_subsets, singletons}
use Rattle.nodeset.specs.SubsetLaws.{All}
use Rattle.nodeset.proofs.SubsetLaws.{subsets_in}
use Rattle.nodeset.proofs.SingletonLaws.{singletons_in}
use Rattle.definition.specs.Hypergraph.{Edge, beyond, neighborhood, has_edge}
pub use Rattle.definition.specs.Hypergraph.{Sided}
use Rattle.definition.specs.Walk.{each, try_connected, enumerate_cmp_rec, emit_csg, emit_kept, enumerate_csg_rec, solve_from, solve}

-- ---- neighbours

and_last : (a b : Bool) → T (a && b) → T b
and_last true b t = t
and_last false b t = absurd t

lowest_apart : (far x : ℕ) → 0 < far → far < 2 ^ 64 → Apart far x → Apart x (singleton (lowest far))
lowest_apart far x p h a i =
    let low = lowest_of far p h in
    subst (λ (s : ℕ). min (bit x i) (bit s i) ≡ 0) (sym (singleton_is (lowest far) low.inside)) (go low (bit_one_cases (lowest far) i))
  where
    go : Lowest 64 far (lowest far) → (bit (2 ^ lowest far) i ≡ 0) ⊎ (lowest far ≡ i) → min (bit x i) (bit (2 ^ lowest far) i) ≡ 0
    go low (inl e) = omega arith
    go low (inr e) =
        let one : bit far i ≡ 1 = subst (λ (k : ℕ). bit far k ≡ 1) e low.has in
        omega (arith, a i)

beyond_apart : (s x near far : ℕ) → 0 < far → far < 2 ^ 64 → Apart x (beyond s x near far)
unfolding beyond
beyond_apart s x near far p h = go (within near s && disjoint far s && disjoint far x) refl
  where
    go : (b : Bool) → (within near s && disjoint far s && disjoint far x) ≡ b → Apart x (elim b [ true ↦ singleton (lowest far) | false ↦ 0 ])
    go true e =
        lowest_apart far x p h (disjoint_apart far x (eqb→eq (bit_and far x) 0 (and_last (within near s && disjoint far s) (disjoint far x) (subst T (sym e) tt))))
    go false e = λ i. omega (arith, bit_empty i)

pub neighborhood_apart : (es : List Edge) → All Sided es → (s x : ℕ) → Apart x (neighborhood es s x)
unfolding neighborhood
neighborhood_apart [] w s x i = omega (arith, bit_empty i)
neighborhood_apart (e ∷ es) w s x i =
    let l = beyond s x e.left e.right in
    let r = beyond s x e.right e.left in
    let d = w.0 in
    omega
    (arith, bit-or (bit_or l r) (neighborhood es s x) i, bit-or l r i, beyond_apart s x e.left e.right d.right_some d.right_set i, beyond_apart s x e.right e.left d.left_some d.left_set i, neighborhood_apart es w.1 s x i)

singleton-set : (i : ℕ) → singleton i < 2 ^ 64
unfolding singleton
singleton-set i = go (ltb i 64) (ltb-true i 64)
  where
    go : (b : Bool) → (b ≡ true → i < 64) → elim b [ true ↦ 2 ^ i | false ↦ 0 ] < 2 ^ 64
    go true h = pow-lt (h refl)
    go false h = pow_pos 64

beyond-set : (s x near far : ℕ) → beyond s x near far < 2 ^ 64
unfolding beyond
beyond-set s x near far = go (within near s && disjoint far s && disjoint far x)
  where
    go : (b : Bool) → elim b [ true ↦ singleton (lowest far) | false ↦ 0 ] < 2 ^ 64
    go true = singleton-set (lowest far)
    go false = pow_pos 64

pub neighborhood-set : (es : List Edge) (s x : ℕ) → neighborhood es s x < 2 ^ 64
unfolding neighborhood
neighborhood-set [] s x = pow_pos 64
neighborhood-set (e ∷ es) s x =
    or_lt 64 (bit_or (beyond s x e.left e.right) (beyond s x e.right e.left)) (neighborhood es s x)
    (or_lt 64 (beyond s x e.left e.right) (beyond s x e.right e.left) (beyond-set s x e.left e.right) (beyond-set s x e.right e.left))
    (neighborhood-set es s x)

-- ---- what a candidate's sets come from

in_left : (a b : ℕ) → In a (bit_or a b)
in_left a b i = omega (arith, bit-or a b i)

in_more : (s x n : ℕ) → In s x → In s (bit_or x n)
in_more s x n h i = omega (arith, bit-or x n i, h i)

apart_in : (s x n v : ℕ) → In s x → Apart x n → In v n → Apart s v
apart_in s x n v h a m i = omega (arith, h i, a i, m i)

apart_more : (s1 s2 x n t : ℕ) → In s1 x → Apart s1 s2 → Apart x n → In t n → Apart s1 (bit_or s2 t)
apart_more s1 s2 x n t h a b m i = omega (arith, bit-or s2 t i, h i, a i, b i, m i)

-- ---- the law

pub elim_rel : {A B : Type 0} (R : A → B → Type 0) (b c : Bool) → b ≡ c → {x y : A} {u v : B} → R x u → R y v
    → R (elim b [ true ↦ x | false ↦ y ]) (elim c [ true ↦ u | false ↦ v ])
elim_rel R true true e p q = p
elim_rel R true false e p q = absurd (false≢true (sym e))
elim_rel R false true e p q = absurd (false≢true e)
elim_rel R false false e p q = q

-- for each member of a list of which Q holds
pub each_rel : {A S T : Type 0} (R : S → T → Type 0) (Q : A → Type 0) (f : A → S → S) (g : A → T → T)
    → ((a : A) → Q a → (s : S) (t : T) → R s t → R (f a s) (g a t))
    → (l : List A) → All Q l → (s : S) (t : T) → R s t → R (each f l s) (each g l t)
each_rel R Q f g h [] q s t r = r
each_rel R Q f g h (a ∷ l) q s t r = each_rel R Q f g h l q.1 (f a s) (g a t) (h a q.0 s t r)

-- `enumerate_cmp_rec` and `emit_csg`, for a relation of two runs that is kept where a pair is tried
module _ (es : List Edge) (sided : All Sided es)
    (S : Type 0) (kept : S → ℕ → Bool) (visit : S → S) (attempt : ℕ → ℕ → S → S)
    (S' : Type 0) (kept' : S' → ℕ → Bool) (visit' : S' → S') (attempt' : ℕ → ℕ → S' → S')
    (R : S → S' → Type 0)
    (r-visit : (s : S) (t : S') → R s t → R (visit s) (visit' t))
    (r-attempt : (a b : ℕ) → Apart a b → (s : S) (t : S') → R s t → R (attempt a b s) (attempt' a b t))
    (r-try : (s1 c : ℕ) → Apart s1 c → (s : S) (t : S') → R s t
    → R (try_connected es S kept visit attempt s1 c s) (try_connected es S' kept' visit' attempt' s1 c t)) where
  cmp_rel : (d s1 s2 x : ℕ) → In s1 x → Apart s1 s2 → (s : S) (t : S') → R s t
      → R (enumerate_cmp_rec es S kept visit attempt d s1 s2 x s) (enumerate_cmp_rec es S' kept' visit' attempt' d s1 s2 x t)
  unfolding enumerate_cmp_rec
  cmp_rel zero s1 s2 x h a s t r = r
  cmp_rel (suc d) s1 s2 x h a s t r =
      let n = neighborhood es s2 x in
      let b = neighborhood_apart es sided s2 x in
      let m = subsets_in n (neighborhood-set es s2 x) in
      each_rel R (λ u. In u n) _ _
      (λ u i v w q. cmp_rel d s1 (bit_or s2 u) (bit_or x n) (in_more s1 x n h) (apart_more s1 s2 x n u h a b i) (visit v) (visit' w) (r-visit v w q))
      (non_empty_subsets n) m _ _
      (each_rel R (λ u. In u n) _ _
      (λ u i v w q. r-try s1 (bit_or s2 u) (apart_more s1 s2 x n u h a b i) (visit v) (visit' w) (r-visit v w q))
      (non_empty_subsets n) m s t r)

  emit_rel : (d s1 : ℕ) (s : S) (t : S') → R s t → R (emit_csg es S kept visit attempt d s1 s) (emit_csg es S' kept' visit' attempt' d s1 t)
  unfolding emit_csg
  emit_rel d s1 s t r =
      let x = bit_or s1 (up_to_lowest s1) in
      let n = neighborhood es s1 x in
      let h = in_left s1 (up_to_lowest s1) in
      each_rel R (λ u. In u n) _ _
      (λ u m v w q.
      let a : Apart s1 u = apart_in s1 x n u h (neighborhood_apart es sided s1 x) m in
      cmp_rel d s1 u x h a _ _ (elim_rel R (has_edge es s1 u) (has_edge es s1 u) refl (r-attempt s1 u a v w q) q))
      (singletons n) (singletons_in n) s t r

-- whichever way a test goes
pub either : {A : Type 0} (P : A → Type 0) (b : Bool) {x y : A} → P x → P y → P (elim b [ true ↦ x | false ↦ y ])
either P true x y = x
either P false x y = y

-- one run beside itself: what its visits and candidates keep
abbrev Alone : {S : Type 0} → (S → Type 0) → S → S → Type 0
Alone P u v = (u ≡ v) × P u

alone_step : {S : Type 0} (P : S → Type 0) (f : S → S) → ((s : S) → P s → P (f s)) → (s t : S) → Alone P s t → Alone P (f s) (f t)
alone_step P f h s t r = (ap f r.0, h s r.1)

module _ (es : List Edge) (sided : All Sided es)
    (S : Type 0) (kept : S → ℕ → Bool) (visit : S → S) (attempt : ℕ → ℕ → S → S) (P : S → Type 0)
    (p-visit : (s : S) → P s → P (visit s)) (p-attempt : (a b : ℕ) → Apart a b → (s : S) → P s → P (attempt a b s)) where
  try_keeps : (s1 c : ℕ) → Apart s1 c → (s : S) → P s → P (try_connected es S kept visit attempt s1 c s)
  try_keeps s1 c a s p = either P (kept s c && has_edge es s1 c) (p-attempt s1 c a s p) p

  emit_kept_keeps : (d c : ℕ) (s : S) → P s → P (emit_kept es S kept visit attempt d c s)
  emit_kept_keeps d c s p =
      either P (kept s c)
      (emit_rel es sided S kept visit attempt S kept visit attempt (Alone P) (alone_step P visit p-visit)
      (λ a b h. alone_step P (attempt a b) (p-attempt a b h))
      (λ s1 k h. alone_step P (try_connected es S kept visit attempt s1 k) (try_keeps s1 k h)) d c s s (refl, p)).1
      p

-- two runs related by R ask the memo the same, until they part: P, which each keeps whatever it does
module _ (es : List Edge) (sided : All Sided es)
    (S : Type 0) (kept : S → ℕ → Bool) (visit : S → S) (attempt : ℕ → ℕ → S → S)
    (S' : Type 0) (kept' : S' → ℕ → Bool) (visit' : S' → S') (attempt' : ℕ → ℕ → S' → S')
    (R P : S → S' → Type 0)
    (r-visit : (s : S) (t : S') → R s t → R (visit s) (visit' t))
    (r-attempt : (a b : ℕ) → Apart a b → (s : S) (t : S') → R s t → R (attempt a b s) (attempt' a b t))
    (r-kept : (s : S) (t : S') → R s t → ((a : ℕ) → kept s a ≡ kept' t a) ⊎ P s t)
    (p-visit : (t : S') (s : S) → P s t → P (visit s) t)
    (p-attempt : (t : S') (a b : ℕ) → Apart a b → (s : S) → P s t → P (attempt a b s) t)
    (p-visit' : (s : S) (t : S') → P s t → P s (visit' t))
    (p-attempt' : (s : S) (a b : ℕ) → Apart a b → (t : S') → P s t → P s (attempt' a b t))
    (p-related : (s : S) (t : S') → P s t → R s t) where
  try_connected_rel : (s1 c : ℕ) → Apart s1 c → (s : S) (t : S') → R s t
      → R (try_connected es S kept visit attempt s1 c s) (try_connected es S' kept' visit' attempt' s1 c t)
  try_connected_rel s1 c a s t r = go (r-kept s t r)
    where
      go : ((k : ℕ) → kept s k ≡ kept' t k) ⊎ P s t
          → R (try_connected es S kept visit attempt s1 c s) (try_connected es S' kept' visit' attempt' s1 c t)
      go (inl e) =
          elim_rel R (kept s c && has_edge es s1 c) (kept' t c && has_edge es s1 c) (ap (λ (k : Bool). k && has_edge es s1 c) (e c)) (r-attempt s1 c a s t r) r
      go (inr p) =
          p-related _ _
          (try_keeps es sided S' kept' visit' attempt' (P _) (p-visit' _) (p-attempt' _) s1 c a t
          (try_keeps es sided S kept visit attempt (λ v. P v t) (p-visit t) (p-attempt t) s1 c a s p))

  emit_kept_rel : (d c : ℕ) (s : S) (t : S') → R s t → R (emit_kept es S kept visit attempt d c s) (emit_kept es S' kept' visit' attempt' d c t)
  emit_kept_rel d c s t r = go (r-kept s t r)
    where
      go : ((k : ℕ) → kept s k ≡ kept' t k) ⊎ P s t → R (emit_kept es S kept visit attempt d c s) (emit_kept es S' kept' visit' attempt' d c t)
      go (inl e) =
          elim_rel R (kept s c) (kept' t c) (e c)
          (emit_rel es sided S kept visit attempt S' kept' visit' attempt' R r-visit r-attempt try_connected_rel d c s t r) r
      go (inr p) =
          p-related _ _
          (emit_kept_keeps es sided S' kept' visit' attempt' (P _) (p-visit' _) (p-attempt' _) d c t
          (emit_kept_keeps es sided S kept visit attempt (λ v. P v t) (p-visit t) (p-attempt t) d c s p))

  csg_rel : (e d s1 x : ℕ) (s : S) (t : S') → R s t
      → R (enumerate_csg_rec es S kept visit attempt e d s1 x s) (enumerate_csg_rec es S' kept' visit' attempt' e d s1 x t)
  unfolding enumerate_csg_rec
  csg_rel e zero s1 x s t r = r
  csg_rel e (suc d) s1 x s t r =
      let n = neighborhood es s1 x in
      let m = subsets_in n (neighborhood-set es s1 x) in
      each_rel R (λ u. In u n) _ _ (λ u i v w q. csg_rel e d (bit_or s1 u) (bit_or x n) (visit v) (visit' w) (r-visit v w q)) (non_empty_subsets n) m _ _
      (each_rel R (λ u. In u n) _ _ (λ u i v w q. emit_kept_rel e (bit_or s1 u) (visit v) (visit' w) (r-visit v w q)) (non_empty_subsets n) m s t r)

  from_rel : (n v : ℕ) (s : S) (t : S') → R s t → R (solve_from es S kept visit attempt n v s) (solve_from es S' kept' visit' attempt' n v t)
  unfolding solve_from
  from_rel n zero s t r = r
  from_rel n (suc v) s t r =
      from_rel n v _ _
      (csg_rel n n (singleton v) (all_below (suc v)) _ _
      (emit_rel es sided S kept visit attempt S' kept' visit' attempt' R r-visit r-attempt try_connected_rel n (singleton v) s t r))

  pub solve_until_parted : (n : ℕ) (s : S) (t : S') → R s t → R (solve es S kept visit attempt n s) (solve es S' kept' visit' attempt' n t)
  solve_until_parted n s t r = from_rel n n s t r

-- two runs that never part
pub solve_rel : (es : List Edge) → All Sided es
    → (S : Type 0) (kept : S → ℕ → Bool) (visit : S → S) (attempt : ℕ → ℕ → S → S)
    → (S' : Type 0) (kept' : S' → ℕ → Bool) (visit' : S' → S') (attempt' : ℕ → ℕ → S' → S')
    → (R : S → S' → Type 0)
    → ((s : S) (t : S') → R s t → (a : ℕ) → kept s a ≡ kept' t a)
    → ((s : S) (t : S') → R s t → R (visit s) (visit' t))
    → ((a b : ℕ) → Apart a b → (s : S) (t : S') → R s t → R (attempt a b s) (attempt' a b t))
    → (n : ℕ) (s : S) (t : S') → R s t → R (solve es S kept visit attempt n s) (solve es S' kept' visit' attempt' n t)
solve_rel es sided S kept visit attempt S' kept' visit' attempt' R r-kept r-visit r-attempt =
    solve_until_parted es sided S kept visit attempt S' kept' visit' attempt' R (λ s t. ⊥) r-visit r-attempt (λ s t r. inl (r-kept s t r)) (λ t s p. p)
    (λ t a b h s p. p) (λ s t p. p) (λ s a b h t p. p) (λ s t p. absurd p)

-- for one state: what visits and candidates keep holds after the walk
pub solve_keeps : (es : List Edge) → All Sided es → (S : Type 0) (kept : S → ℕ → Bool) (visit : S → S) (attempt : ℕ → ℕ → S → S) (P : S → Type 0)
    → ((s : S) → P s → P (visit s)) → ((a b : ℕ) → Apart a b → (s : S) → P s → P (attempt a b s))
    → (n : ℕ) (s : S) → P s → P (solve es S kept visit attempt n s)
solve_keeps es sided S kept visit attempt P p-visit p-attempt n s p =
    (solve_rel es sided S kept visit attempt S kept visit attempt (Alone P) (λ u v r a. ap (λ (w : S). kept w a) r.0) (alone_step P visit p-visit)
    (λ a b h. alone_step P (attempt a b) (p-attempt a b h)) n s s (refl, p)).1
