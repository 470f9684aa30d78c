use Prim.Native.Nat.{◌*◌}
use mathlib.Core.Bool.{true, false, false≢true}
use mathlib.Core.Path.{◌≡◌, refl, sym, ◌∙◌}
use borrow.Author.Tests.{eq-eqb}
use lib.Ieee.{Float, nan, inf, fin, up, down, binary64, eq, to_bits}
use Rattle.records.proofs.lists.bits.Goals as goal

-- a NaN alone is not equal to itself
nan-bits : (x : Float) → eq x x ≡ false → 9221120237041090560 ≡ to_bits binary64 x
unfolding eq to_bits
nan-bits nan e = refl
nan-bits (inf true) e = absurd (false≢true (sym e))
nan-bits (inf false) e = absurd (false≢true (sym e))
nan-bits (fin true m k) e = absurd (false≢true (sym e ∙ rw (eq-eqb (m * up k * down k) (m * up k * down k) refl)))
nan-bits (fin false m k) e = absurd (false≢true (sym e ∙ rw (eq-eqb (m * up k * down k) (m * up k * down k) refl)))

pub returns-else-x : goal.returns-else-x
returns-else-x c = nan-bits c.args.x c.if-x.false
