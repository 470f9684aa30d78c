-- The classes part the leaves at the start and after each merge. So the classes that meet s are those of its leaves, and what becomes their union
-- are the classes of the leaves in it. Assumes nothing.
use Rattle.std.specs.Prelude.{◌≡◌, refl, ◌⊎◌, Bool, true, false, List, [], ◌∷◌, ℕ, zero, suc, ◌^◌, ◌≤◌, ◌<◌, length, get_or}
use Rattle.std.proofs.Common.{sym, ap, ◌∙◌, inl, inr, arith, pow_pos}
use Rattle.std.proofs.Math.Pow.{pow-lt}
use Rattle.std.proofs.lemmas.Bool.{cases_lt}
use Rattle.std.proofs.lemmas.List.{get_or_past, length-map}
use Rattle.std.specs.Int.Bits.{bit_or}
use Rattle.std.proofs.lemmas.Nat.{or_lt}
use Rattle.nodeset.specs.Sets.{bit, disjoint, singleton}
use Rattle.nodeset.specs.SetLaws.{bit-lt, bit_empty, bit-or, bit_one, bit_one_cases, bit_high, singleton_is}
use Rattle.definition.proofs.ListLaws.{get_d_tabulate, length-tabulate}
use Rattle.definition.proofs.Settled.{get_or-merge, met_has}
use Rattle.definition.specs.Connected.{own_classes, met, merge, merges, round}
use Rattle.connectivity.specs.Parted.{Parted}
use Rattle.connectivity.proofs.CrossedLaws.{met_all}

-- ---- each leaf a class by itself
pub own_at : (i : ℕ) → (i < 64) → get_or own_classes i 0 ≡ 2 ^ i
own_at i h = get_d_tabulate 64 singleton i 0 h ∙ singleton_is i h

pub own_past : (i : ℕ) → 64 ≤ i → get_or own_classes i 0 ≡ 0
own_past i h = get_or_past own_classes i 0 (omega (arith, length-tabulate 64 singleton))

pub own_parted : Parted own_classes
own_parted = record {
  long = length-tabulate 64 singleton;
  small = λ i. elim (cases_lt i 64) [ inl h ↦ omega (arith, own_at i h, pow-lt h) | inr h ↦ omega (arith, own_past i h, pow_pos 64) ];
  own = λ i h. ap (λ (x : ℕ). bit x i) (own_at i h) ∙ bit_one i;
  same = λ i j e. elim (cases_lt i 64) [
    | inl h ↦ elim (bit_one_cases i j) [
      | inl z ↦ absurd (let k = ap (λ (x : ℕ). bit x j) (own_at i h) in omega (arith, k, e, z))
      | inr q ↦ ap (λ (k : ℕ). get_or own_classes k 0) (sym q)
    ]
    | inr h ↦ absurd (let k = ap (λ (x : ℕ). bit x j) (own_past i h) in omega (arith, k, e, bit_empty j))
  ];
}

module _ (s : ℕ) (ps : List ℕ) (p : Parted ps) where
  abbrev all : ℕ
  all = met s 0 ps

  pub met_small : all < 2 ^ 64
  met_small = met_all (λ x. x < 2 ^ 64) (λ a b. or_lt 64 a b) s 0 ps (pow_pos 64) (λ i e. p.small i)

  -- ---- a leaf is in the union of the classes that meet s where its own class is one of them
  pub outside : (i : ℕ) → disjoint (get_or ps i 0) s ≡ true → bit all i ≡ 0
  outside i e = met_all (λ x. bit x i ≡ 0) (λ a b f g. omega (arith, bit-or a b i, f, g)) s 0 ps (bit_empty i) (λ k m. go k m (bit (get_or ps k 0) i) refl)
    where
      go : (k : ℕ) → disjoint (get_or ps k 0) s ≡ false → (b : ℕ) → bit (get_or ps k 0) i ≡ b → bit (get_or ps k 0) i ≡ 0
      go k m zero f = f
      go k m (suc b) f =
          let one : bit (get_or ps k 0) i ≡ 1 = omega (arith, f, bit-lt (get_or ps k 0) i) in
          absurd (let x : true ≡ false = sym e ∙ ap (λ (c : ℕ). disjoint c s) (p.same k i one) ∙ m in let k : ◌≡◌ {A = ℕ} 0 1 = cc in omega arith)

  pub inside : (i : ℕ) → i < 64 → disjoint (get_or ps i 0) s ≡ false → bit all i ≡ 1
  inside i h e = omega (arith, met_has s 0 ps i e i, p.own i h, bit-lt all i)

  -- so the classes of its leaves become it, and the others stay
  pub merge_in : (i : ℕ) → i < 64 → bit all i ≡ 1 → get_or (merge s ps) i 0 ≡ all
  merge_in i h e = get_or-merge s ps i ∙ go (disjoint (get_or ps i 0) s) refl
    where
      go : (b : Bool) → disjoint (get_or ps i 0) s ≡ b → elim b [ true ↦ get_or ps i 0 | false ↦ all ] ≡ all
      go true m = absurd (omega (arith, outside i m, e))
      go false m = refl

  pub merge_out : (i : ℕ) → i < 64 → bit all i ≡ 0 → get_or (merge s ps) i 0 ≡ get_or ps i 0
  merge_out i h e = get_or-merge s ps i ∙ go (disjoint (get_or ps i 0) s) refl
    where
      go : (b : Bool) → disjoint (get_or ps i 0) s ≡ b → elim b [ true ↦ get_or ps i 0 | false ↦ all ] ≡ get_or ps i 0
      go true m = refl
      go false m = absurd (omega (arith, inside i h m, e))

  long : length (merge s ps) ≡ 64
  unfolding merge
  long = length-map ps _ ∙ p.long

  past : (i : ℕ) → 64 ≤ i → get_or (merge s ps) i 0 ≡ 0
  past i h = get_or_past (merge s ps) i 0 (omega (arith, long))

  -- which of the two a class is
  kind : (i : ℕ) → i < 64 → ((bit all i ≡ 1) × (get_or (merge s ps) i 0 ≡ all)) ⊎ ((bit all i ≡ 0) × (get_or (merge s ps) i 0 ≡ get_or ps i 0))
  kind i h = go (bit all i) refl
    where
      go : (b : ℕ) → bit all i ≡ b → ((bit all i ≡ 1) × (get_or (merge s ps) i 0 ≡ all)) ⊎ ((bit all i ≡ 0) × (get_or (merge s ps) i 0 ≡ get_or ps i 0))
      go zero e = inr (e, merge_out i h e)
      go (suc b) e = let one : bit all i ≡ 1 = omega (arith, e, bit-lt all i) in inl (one, merge_in i h one)

  small : (i : ℕ) → get_or (merge s ps) i 0 < 2 ^ 64
  small i = elim (cases_lt i 64) [
    | inl h ↦ elim (kind i h) [ inl k ↦ omega (arith, k.1, met_small) | inr k ↦ omega (arith, k.1, p.small i) ]
    | inr h ↦ omega (arith, past i h, pow_pos 64)
  ]

  own : (i : ℕ) → i < 64 → bit (get_or (merge s ps) i 0) i ≡ 1
  own i h = elim (kind i h) [
    | inl k ↦ ap (λ (x : ℕ). bit x i) k.1 ∙ k.0
    | inr k ↦ ap (λ (x : ℕ). bit x i) k.1 ∙ p.own i h
  ]

  -- of one class both leaves are in the union or neither
  other : (i j : ℕ) → i < 64 → get_or ps j 0 ≡ get_or ps i 0 → bit all i ≡ 0 → bit all j ≡ 0
  other i j h q e = go (disjoint (get_or ps j 0) s) refl
    where
      go : (b : Bool) → disjoint (get_or ps j 0) s ≡ b → bit all j ≡ 0
      go true m = outside j m
      go false m = absurd (omega (arith, e, inside i h (ap (λ (c : ℕ). disjoint c s) (sym q) ∙ m)))

  same : (i j : ℕ) → bit (get_or (merge s ps) i 0) j ≡ 1 → get_or (merge s ps) j 0 ≡ get_or (merge s ps) i 0
  same i j e = elim (cases_lt i 64) [
    | inr h ↦ absurd (let k = ap (λ (x : ℕ). bit x j) (past i h) in omega (arith, k, e, bit_empty j))
    | inl h ↦ elim (cases_lt j 64) [
      | inr g ↦ absurd (omega (arith, e, bit_high 64 (get_or (merge s ps) i 0) j (small i) g))
      | inl g ↦ elim (kind i h) [
        | inl k ↦ merge_in j g (sym (ap (λ (x : ℕ). bit x j) k.1) ∙ e) ∙ sym k.1
        | inr k ↦
            let q = p.same i j (sym (ap (λ (x : ℕ). bit x j) k.1) ∙ e) in
            merge_out j g (other i j h q k.0) ∙ q ∙ sym k.1
      ]
    ]
  ]

  pub merge_parted : Parted (merge s ps)
  merge_parted = record { long = long; small = small; own = own; same = same }

pub round_parted : (skip : ℕ) (ls rs ps : List ℕ) → Parted ps → Parted (round skip ls rs ps)
unfolding round
round_parted skip [] rs ps p = p
round_parted skip (l ∷ ls) [] ps p = p
round_parted skip (l ∷ ls) (r ∷ rs) ps p =
    round_parted skip ls rs (elim (merges skip l r ps) [ true ↦ merge (bit_or l r) ps | false ↦ ps ]) (go (merges skip l r ps))
  where
    go : (b : Bool) → Parted (elim b [ true ↦ merge (bit_or l r) ps | false ↦ ps ])
    go true = merge_parted (bit_or l r) ps p
    go false = p
