-- The loops over the leaves of a set: left are those that are still to come. Assumes nothing.
use Rattle.std.specs.Prelude.{◌≡◌, refl, List, ℕ, zero, suc, ◌+◌, ◌-◌, ◌^◌, ◌≤◌, ◌<◌, ◌≢◌, min, Bool, true, false, length, get_or}
use Rattle.std.proofs.Common.{sym, ap, ◌∙◌, subst, inl, inr, arith, set, get_or-set_same, get_or-set_other, length-set}
use Rattle.std.proofs.Math.Pow.{pow-lt}
use Rattle.std.proofs.lemmas.Bool.{eqb-false, cases_eq}
use Rattle.std.proofs.lemmas.Grind.{same_number_lists}
use Rattle.std.specs.Int.Bits.{bit_and, bit_or}
use Rattle.std.proofs.lemmas.Nat.{and_le_l}
use Rattle.nodeset.specs.Sets.{bit, disjoint, difference, singleton, lowest}
use Rattle.nodeset.specs.SetLaws.{In, bit-lt, bit_empty, bit-and, bit-or, bit_not, bit_one, bit_one_other, ext, and_split, lowest_of, singleton_is}
use Rattle.definition.proofs.Settled.{sub_trans, sub-or_l, sub-or_r, or-sub, met_has, meets}
use Rattle.definition.specs.Connected.{met, merge}
use Rattle.connectivity.specs.Parted.{Parted}
use Rattle.connectivity.proofs.PartedLaws.{met_small, outside, merge_in, merge_out, merge_parted}

-- ---- v without the leaves of x
module _ (v x : ℕ) where
  without : x < 2 ^ 64 → (i : ℕ) → i < 64 → bit (difference v x) i ≡ min (bit v i) (1 - bit x i)
  without hx i h = bit-and v (2 ^ 64 - 1 - x) i ∙ ap (λ (b : ℕ). min (bit v i) b) (bit_not 64 x i hx h)

  without_in : In (difference v x) v
  without_in i = omega (arith, bit-and v (2 ^ 64 - 1 - x) i)

  -- where both have a leaf, it is the smaller number
  without_less : x < 2 ^ 64 → v < 2 ^ 64 → (i : ℕ) → bit v i ≡ 1 → bit x i ≡ 1 → difference v x < v
  without_less hx hv i e f =
      let some : bit_and v x ≢ 0 = λ z. omega (arith, bit-and v x i, e, f, ap (λ (u : ℕ). bit u i) z, bit_empty i) in
      omega (arith, and_split 64 v x hv hx, some)

-- the next leaf
module _ (left : ℕ) (n : left ≢ 0) (h : left < 2 ^ 64) where
  pub next_inside : lowest left < 64
  next_inside = (lowest_of left (omega (arith, n)) h).inside

  next_has : bit left (lowest left) ≡ 1
  next_has = (lowest_of left (omega (arith, n)) h).has

-- ---- met: t is made of classes that meet s, whole, and has the leaves of s that are done
pub record Meeting (s : ℕ) (ps : List ℕ) (left t : ℕ) : Type 0 where
  pub small : left < 2 ^ 64
  pub part : In left s
  pub rest : (i : ℕ) → i < 64 → bit s i ≤ bit left i + bit t i
  pub inside : In t (met s 0 ps)
  pub whole : (i : ℕ) → bit t i ≡ 1 → In (get_or ps i 0) t

module _ (s : ℕ) (ps : List ℕ) where
  pub meeting_start : s < 2 ^ 64 → Meeting s ps s 0
  meeting_start h = record {
    small = h;
    part = λ i. omega arith;
    rest = λ i h. omega arith;
    inside = λ i. omega (arith, bit_empty i);
    whole = λ i e. absurd (omega (arith, e, bit_empty i));
  }

  module _ (p : Parted ps) (left t : ℕ) (m : Meeting s ps left t) where
    module _ (n : left ≢ 0) where
      abbrev k : ℕ
      k = lowest left

      abbrev class : ℕ
      class = get_or ps k 0

      pub meeting_inside : k < 64
      meeting_inside = next_inside left n m.small

      own : bit class k ≡ 1
      own = p.own k meeting_inside

      pub meeting_next : Meeting s ps (difference left class) (bit_or t class)
      meeting_next = record {
        small = omega (arith, m.small, and_le_l left (2 ^ 64 - 1 - class));
        part = λ i. omega (arith, m.part i, without_in left class i);
        rest = λ i l. omega (arith, m.rest i l, without left class (p.small k) i l, bit-or t class i, bit-lt s i, bit-lt class i);
        inside = or-sub t class (met s 0 ps) m.inside (met_has s 0 ps k (meets class s k own (omega (arith, next_has left n m.small, m.part k, bit-lt s k))));
        whole = λ i e. go i e (bit t i) refl;
      }
        where
          go : (i : ℕ) → bit (bit_or t class) i ≡ 1 → (b : ℕ) → bit t i ≡ b → In (get_or ps i 0) (bit_or t class)
          go i e zero f =
              subst (λ (c : ℕ). In c (bit_or t class)) (sym (p.same k i (omega (arith, e, f, bit-or t class i, bit-lt class i)))) (sub-or_r t class)
          go i e (suc b) f = sub_trans (get_or ps i 0) t (bit_or t class) (m.whole i (omega (arith, f, bit-lt t i))) (sub-or_l t class)

      pub meeting_less : difference left class < left
      meeting_less = without_less left class (p.small k) m.small k (next_has left n m.small) own

    pub meeting_end : t < 2 ^ 64 → left ≡ 0 → t ≡ met s 0 ps
    meeting_end h z = ext 64 t (met s 0 ps) h (met_small s ps p) (λ i l. go i l (disjoint (get_or ps i 0) s) refl)
      where
        go : (i : ℕ) → i < 64 → (b : Bool) → disjoint (get_or ps i 0) s ≡ b → bit t i ≡ bit (met s 0 ps) i
        go i l true d = omega (arith, m.inside i, outside s ps p i d)
        go i l false d =
            let c = bit_and (get_or ps i 0) s in
            let small : c < 2 ^ 64 = omega (arith, and_le_l (get_or ps i 0) s, p.small i) in
            let some : c ≢ 0 = eqb-false c 0 d in
            let j = lowest c in
            let has = next_has c some small in
            let both = bit-and (get_or ps i 0) s j in
            let gone : bit left j ≡ 0 = ap (λ (x : ℕ). bit x j) z ∙ bit_empty j in
            let one : bit t j ≡ 1 = omega (arith, has, both, bit-lt s j, bit-lt t j, m.rest j (next_inside c some small), gone) in
            let q = p.same i j (omega (arith, has, both, bit-lt (get_or ps i 0) j)) in
            let w : bit (get_or ps i 0) i ≤ bit t i = subst (λ (x : ℕ). bit x i ≤ bit t i) q (m.whole j one i) in
            omega (arith, w, p.own i l, m.inside i, bit-lt (met s 0 ps) i)

-- ---- merge: the classes of the leaves that are done are merged, and those outside never change
pub record Merging (s : ℕ) (ps : List ℕ) (left : ℕ) (qs : List ℕ) : Type 0 where
  pub long : length qs ≡ 64
  pub small : left < 2 ^ 64
  pub part : In left (met s 0 ps)
  pub done : (i : ℕ) → i < 64 → bit left i ≡ 0 → get_or qs i 0 ≡ get_or (merge s ps) i 0

module _ (s : ℕ) (ps : List ℕ) (p : Parted ps) where
  pub merging_start : (left : ℕ) → left ≡ met s 0 ps → Merging s ps left ps
  merging_start left e = record {
    long = p.long;
    small = omega (arith, e, met_small s ps p);
    part = λ i. omega (arith, ap (λ (x : ℕ). bit x i) e);
    done = λ i h z. sym (merge_out s ps p i h (sym (ap (λ (x : ℕ). bit x i) e) ∙ z));
  }

  module _ (left : ℕ) (qs : List ℕ) (m : Merging s ps left qs) where
    module _ (n : left ≢ 0) where
      abbrev leaf : ℕ
      leaf = lowest left

      pub merging_inside : leaf < 64
      merging_inside = next_inside left n m.small

      one : bit (singleton leaf) leaf ≡ 1
      one = ap (λ (x : ℕ). bit x leaf) (singleton_is leaf merging_inside) ∙ bit_one leaf

      single : singleton leaf < 2 ^ 64
      single = omega (arith, singleton_is leaf merging_inside, pow-lt merging_inside)

      pub merging_next : (t : ℕ) → t ≡ met s 0 ps → Merging s ps (difference left (singleton leaf)) (set qs leaf t)
      merging_next t q = record {
        long = length-set qs leaf t ∙ m.long;
        small = omega (arith, m.small, and_le_l left (2 ^ 64 - 1 - singleton leaf));
        part = λ i. omega (arith, m.part i, without_in left (singleton leaf) i);
        done = λ i l e. elim (cases_eq i leaf) [
          | inl f ↦
              subst (λ (j : ℕ). get_or (set qs leaf t) j 0 ≡ get_or (merge s ps) j 0) (sym f)
              (get_or-set_same qs leaf t 0 (omega (arith, merging_inside, m.long)) ∙ q
              ∙ sym (merge_in s ps p leaf merging_inside (omega (arith, next_has left n m.small, m.part leaf, bit-lt (met s 0 ps) leaf))))
          | inr f ↦
              let none : bit (singleton leaf) i ≡ 0 = ap (λ (x : ℕ). bit x i) (singleton_is leaf merging_inside) ∙ bit_one_other leaf i (λ z. f (sym z)) in
              get_or-set_other qs leaf i t 0 f ∙ m.done i l (omega (arith, e, none, without left (singleton leaf) single i l, bit-lt left i))
        ];
      }

      pub merging_less : difference left (singleton leaf) < left
      merging_less = without_less left (singleton leaf) single m.small leaf (next_has left n m.small) one

    pub merging_end : left ≡ 0 → qs ≡ merge s ps
    merging_end z =
        same_number_lists qs (merge s ps) (m.long ∙ sym (merge_parted s ps p).long)
        (λ i l. m.done i (omega (arith, m.long)) (ap (λ (x : ℕ). bit x i) z ∙ bit_empty i))
