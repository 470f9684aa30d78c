-- The leaves' sets entered one after the other. Assumes nothing.
use Rattle.std.specs.Prelude.{◌≡◌, ℕ, suc, ◌+◌, ◌<◌, ◌≤◌, List, length, get_or}
use Rattle.std.proofs.Common.{sym, ◌∙◌, add-one, arith}
use Rattle.nodeset.specs.Sets.{singleton}
use Rattle.definition.proofs.ListLaws.{get_d_tabulate, length-tabulate}
use Rattle.definition.proofs.KeptLaws.{singleton_inj}
use Rattle.memo_index.specs.Index.{noted, Distinct, Kept}
use Rattle.memo_index.proofs.KeptLaws.{kept_next, kept_front}
use Rattle.passes.specs.LeafSets.{leaf_sets}

set_at : (n i : ℕ) → i < n → get_or (leaf_sets n) i 0 ≡ singleton i
set_at n i h = get_d_tabulate n singleton i 0 h

leaves_distinct : (n m : ℕ) → n ≤ 64 → m ≤ n → Distinct (leaf_sets n) m
leaves_distinct n m h w i j l k e =
    let q = singleton_inj i j (omega arith) (omega arith) (sym (set_at n i (omega arith)) ∙ e ∙ set_at n j (omega arith)) in
    omega arith

-- k leaves entered, and the next one, whose set is s
pub leaves_next : {index : List ℕ} {n k : ℕ} → Kept index (leaf_sets n) k → n ≤ 64 → k < n → (s : ℕ) → s ≡ singleton k
    → Kept (noted index s k) (leaf_sets n) (k + 1)
leaves_next {index} {n} {k} h w l s e =
    let m : suc k ≤ n = omega arith in
    let c = kept_next h (leaves_distinct n (suc k) w m) (omega (arith, length-tabulate n singleton)) in
    rw (add-one, e, ← set_at n k l) c

-- a memo that begins with the leaves' sets
pub leaves_kept : {index : List ℕ} {n : ℕ} → Kept index (leaf_sets n) n → (sets : List ℕ) → n ≤ length sets
    → ((k : ℕ) → k < n → get_or sets k 0 ≡ singleton k) → Kept index sets n
leaves_kept {index} {n} h sets w f = kept_front h sets w (λ k l. f k l ∙ sym (set_at n k l))
