-- A vector cut to its first elements, as what a contract sees of it. Assumes nothing.
use Rattle.std.specs.Prelude.{◌≡◌, refl, ℕ, List, ◌++◌, ◌-◌, ◌<◌, length, take, drop}
use Rattle.std.proofs.Common.{sym, ◌∙◌, arith, take-append-drop, lt-ltb, le-ltb}
use Rattle.std.proofs.Math.Path.{ap}
use Rattle.std.proofs.lemmas.List.{length-take, take-append-le, drop-append-le, take_all}
use Rattle.std.proofs.Math.ListN.{drop_of_length-le}
use Rattle.copy_vec.specs.CopyVec.{CopyVec, shortened}

module _ {T : Type 0} where
  same_parts : {a b c d : List T} {m n : ℕ} → a ≡ b → c ≡ d → m ≡ n
      → ◌≡◌ {A = CopyVec T} (record { items = a; spare = c; beyond = m }) (record { items = b; spare = d; beyond = n })
  same_parts p q r = cc

  -- of the elements of a count k the first n are left, where these are fewer, and nothing is counted beyond them
  pub fewer : (xs : List T) (k n : ℕ) {places : ℕ} → n < length (take k xs) → length xs ≡ places
      → ◌≡◌ {A = CopyVec T} (record { items = take n xs; spare = drop n xs; beyond = n - places })
      (shortened n (record { items = take k xs; spare = drop k xs; beyond = k - places }))
  fewer xs k n few all =
      let whole : take k xs ++ drop k xs ≡ xs = take-append-drop k xs in
      rw (lt-ltb n (length (take k xs)) few)
      (same_parts (ap (take n) (sym whole) ∙ take-append-le n (take k xs) (drop k xs) (omega (arith, few)))
      (ap (drop n) (sym whole) ∙ drop-append-le n (take k xs) (drop k xs) (omega (arith, few))) (omega (arith, few, length-take k xs, all)))

  -- where all are left, nothing changes
  pub none_fewer : (v : CopyVec T) (n : ℕ) → n ≡ length v.items → v ≡ shortened n v
  none_fewer v n e =
      rw (le-ltb n (length v.items) (omega arith))
      (same_parts (sym (take_all n v.items (omega arith))) (sym (ap (λ (l : List T). l ++ v.spare) (drop_of_length-le v.items (omega arith)))) refl)
