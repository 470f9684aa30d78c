use Rattle.std.proofs.Common.{◌≤◌, ◌∙◌, arith}
use Rattle.memo_index.proofs.LookupLaws.{scanned, scanned_within, scanned_none}
use Rattle.memo_index.proofs.scan.Goals as goal

pub returns-then-n-le512 : goal.returns-then-n-le512
returns-then-n-le512 c = let a = c.args in scanned_none a.s a.mset.now a.n 512 c.if-n-le512.true

pub returns-in_err-i : goal.returns-in_err-i
returns-in_err-i c =
    let a = c.args in
    let h : 512 ≤ a.n = omega arith in
    c.from_residual.ensures ∙ (rw (c.in_err-i.was) at (scanned a.s a.mset.now a.n 512 h c.find.ensures))

pub overflow_add-result : goal.overflow_add-result
overflow_add-result c =
    let a = c.args in
    omega (arith, scanned_within a.s a.mset.now a.n 512 c.in_ok-i.i (omega arith) c.find.ensures c.in_ok-i.was)

pub returns : goal.returns
returns c =
    let a = c.args in
    let h : 512 ≤ a.n = omega arith in
    rw (c.in_ok-i.was) at (scanned a.s a.mset.now a.n 512 h c.find.ensures)
