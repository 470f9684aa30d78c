use Rattle.std.proofs.Common.{◌≡◌, ◌∙◌, ap, take, arith, length, replicate}
use Rattle.std.proofs.lemmas.List.{length-replicate}
use Rattle.reading.proofs.FrontLaws.{on_known, front_read}
use Rattle.reading.proofs.read_array.Goals as goal

pub returns-clause-value : goal.returns-clause-value
returns-clause-value g c =
    let n = g.row.N in
    let read = c.in_ok-got.ensures in
    let xs = c.read_full.new.buf in
    let size : length (replicate n 0) ≡ n = length-replicate n 0 in
    on_known _
    (λ bs h.
    front_read n c.in_ok-got.got xs bs (omega arith) read.bound.1 (h ∙ ap (λ k. take k bs) size) c.then_some.result
    (omega arith) c.then_some.ensures) read.front
