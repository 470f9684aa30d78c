use Rattle.std.proofs.Common.{arith}
use Rattle.memo_index.specs.Index.{home}
use Rattle.memo_index.proofs.WalkLaws.{home_in, free_in}
use Rattle.memo_index.proofs.IndexLaws.{set_is_noted, none_noted}
use Rattle.memo_index.proofs.enter.Goals as goal

pub offset_bounds-index-q : goal.offset_bounds-index-q
offset_bounds-index-q c =
    let a = c.args in
    omega (arith, c.free_place-q.ensures, free_in a.index.now 1024 (home a.s) (home_in a.s))

pub bounds-index-q : goal.bounds-index-q
bounds-index-q c =
    let a = c.args in
    omega (arith, c.free_place-q.ensures, free_in a.index.now 1024 (home a.s) (home_in a.s))

pub returns-then-i-lt512 : goal.returns-then-i-lt512
returns-then-i-lt512 c =
    let a = c.args in
    set_is_noted a.index.now a.s a.i c.if-index-eq1024.true c.if-i-lt512.true c.free_place-q.ensures

pub returns-else-index-eq1024 : goal.returns-else-index-eq1024
returns-else-index-eq1024 c = let a = c.args in none_noted a.index.now a.s a.i c.else-index-eq1024.either
