-- The candidates' pairs read back from the plans' lists are the pairs tried, so the text printed from them is the tried list. Assumes nothing.
use Rattle.std.specs.Prelude.{◌≡◌, refl, List, ◌++◌, map, ℕ, ◌+◌, ◌-◌, ◌≤◌, ◌<◌, length, get_or, drop}
use Rattle.std.proofs.Common.{sym, ap, ap₂, ◌∙◌, zero-add, arith, ext_get_or}
use Rattle.std.proofs.lemmas.List.{length-map}
use Rattle.std.proofs.Math.ListN.{get_or-append, get_or-map}
use Rattle.std.proofs.lemmas.List.Edits.{sets, sets-eq}
use Rattle.definition.specs.Lists.{tabulate}
use Rattle.definition.proofs.ListLaws.{length-tabulate, get_d_tabulate}
use Rattle.definition.specs.Search.{plan_of, Input, Pair, Plan, absent}
use Rattle.definition.specs.Kept.{pair_of, KeptAfter, Candidates}
use Rattle.definition.proofs.KeptLaws.{kept_below, kept_set}
use Rattle.listing.specs.Text.{pairs_of, side_sets}

-- what the front of a list of n places holds after n stores
front : (xs l : List ℕ) (k : ℕ) → length xs ≤ length l → k < length xs → get_or (sets l 0 xs) k 0 ≡ get_or xs k 0
front xs l k h b =
    ap (λ (r : List ℕ). get_or r k 0) (sets-eq xs l 0 (rw zero-add h)) ∙ get_or-append xs (drop (0 + length xs) l) 0 k b

-- one field of plan p, which is below the number of plans; r: what its list has behind them
field : (f : Plan → ℕ) (ps : List Plan) (r : List ℕ) (p : ℕ) → f absent ≡ 0 → p < length ps → get_or (map f ps ++ r) p 0 ≡ f (plan_of ps p)
field f ps r p z h =
    get_or-append (map f ps) r 0 p (omega (arith, length-map ps f)) ∙ ap (get_or (map f ps) p) (sym z) ∙ get_or-map f ps p absent

module _ (i : Input) (ts : List Pair) (ps : List Plan) (c : Candidates i ts ps) (sr : List ℕ) where
  abbrev read : (Plan → ℕ) → List ℕ → List ℕ → List ℕ
  read f r l = sets l 0 (side_sets (map (λ (p : Plan). p.set) ps ++ sr) (map f ps ++ r) (length i.leaves) (length ps))

  -- candidate k's plan on this side is one kept for s
  side : (f : Plan → ℕ) (r l : List ℕ) (k s : ℕ) → f absent ≡ 0 → length ts ≤ length l → k < length ts
      → KeptAfter (length i.leaves) ts ps k s (f (plan_of ps (length i.leaves + k))) → get_or (read f r l) k 0 ≡ s
  side f r l k s z h b q =
      let n = length i.leaves in
      let m = length ps - n in
      let sets : List ℕ = map (λ (p : Plan). p.set) ps ++ sr in
      let g : ℕ → ℕ = λ (j : ℕ). get_or sets (get_or (map f ps ++ r) (n + j) 0) 0 in
      let t = length-tabulate m g in
      front (tabulate m g) l k (omega (arith, t, c.count)) (omega (arith, t, c.count)) ∙ get_d_tabulate m g k 0 (omega (arith, c.count))
      ∙ ap (λ (j : ℕ). get_or sets j 0) (field f ps r (n + k) z (omega (arith, c.count)))
      ∙ field (λ (p : Plan). p.set) ps sr (f (plan_of ps (n + k))) refl (omega (arith, kept_below q, c.count))
      ∙ kept_set i ts ps c k s (f (plan_of ps (n + k))) (omega arith) q

  pub pairs_read : (lr rr l r : List ℕ) → length ts ≤ length l → length ts ≤ length r
      → pairs_of (read (λ p. p.left) lr l) (read (λ p. p.right) rr r) (length ts) ≡ ts
  pairs_read lr rr l r h g =
      let left = read (λ p. p.left) lr l in
      let right = read (λ p. p.right) rr r in
      let pair : ℕ → Pair = λ (k : ℕ). record { left = get_or left k 0; right = get_or right k 0 } in
      let d : Pair = record { left = 0; right = 0 } in
      let e = length-tabulate (length ts) pair in
      ext_get_or d (pairs_of left right (length ts)) ts e
      (λ k b.
      let w : k < length ts = omega arith in
      get_d_tabulate (length ts) pair k d w
      ∙ ap₂ (λ (x y : ℕ). record { left = x; right = y })
      (side (λ p. p.left) lr l k (pair_of ts k).left refl h w (c.qualify k w).left)
      (side (λ p. p.right) rr r k (pair_of ts k).right refl g w (c.qualify k w).right))
