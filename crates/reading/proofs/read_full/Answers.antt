-- The bytes of one more read stand behind those that were put before.
use Rattle.std.proofs.Common.{◌≡◌, ℕ, ◌+◌, ◌≤◌, List, ◌++◌, rules, length, take, drop, sym, ap, subst, ◌∙◌, le_refl, drop_at, length-take-le}
use Rattle.std.proofs.lemmas.Slice.{take-put_mid_below}
use Rattle.std.specs.Io.KnownBytes.{Consumes}
use Rattle.std.proofs.KnownBytes.{Consumes-trans}
use borrow.Rule.Slice.PartMut.{put_mid, post_of}
use lib.Seq.{take-add, take-append-le}
use Rattle.reading.proofs.read_full.Goals as goal

-- the front of the buffer after a read into what stood behind it
grown : (a room n : ℕ) (xs ys : List ℕ) → a ≤ length xs → n ≤ length ys → take (a + n) (put_mid a room xs ys) ≡ take a xs ++ take n ys
grown a room n xs ys within fits =
    let new = put_mid a room xs ys in
    let behind : take n (drop a new) ≡ take n ys =
    ap (take n) (drop_at (take a xs) (ys ++ post_of a room xs) a (length-take-le a xs within)) ∙ take-append-le n ys (post_of a room xs) fits in
    take-add a n new ∙ ap (λ l. l ++ take n (drop a new)) (take-put_mid_below _ _ _ _ _ (le_refl _) within) ∙ ap (λ l. take a xs ++ l) behind

pub loop-done-preserved : goal.loop-done-preserved
loop-done-preserved g c =
    record {
      within = search rules;
      given =
          subst
          (Consumes _ _)
          (sym (grown c.loop-done.done _ c.in_ok-n.n c.loop-done.buf c.read.new.buf c.loop-done.invariant.within c.in_ok-n.ensures.bound.0))
          (Consumes-trans _ _ _ _ _ c.loop-done.invariant.given c.in_ok-n.ensures.bytes.0);
    }
