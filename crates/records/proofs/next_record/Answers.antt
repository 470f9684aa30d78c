use Rattle.std.proofs.Common.{◌≡◌, ◌∙◌, ◌-◌, length, take, length-take-le, arith}
use Rattle.reading.proofs.FrontLaws.{on_known}
use Rattle.records.proofs.ReadLaws.{first_word_is, on_both, on_rest, record_short, record_long, record_cut, record_read}
use Rattle.records.proofs.next_record.Goals as goal

pub returns-then-length-le4-clause-value : goal.returns-then-length-le4-clause-value
returns-then-length-le4-clause-value g c = on_known _ (λ bs e. record_short _ bs _ (e ∙ first_word_is bs) c.if-length-le4.true) c.in_ok-length.ensures.value

pub returns-then-buf-n-clause-value : goal.returns-then-buf-n-clause-value
returns-then-buf-n-clause-value g c = on_known _ (λ bs e. record_long _ bs _ (e ∙ first_word_is bs) c.if-buf-n.true) c.in_ok-length.ensures.value

pub returns-then-got-n-clause-value : goal.returns-then-got-n-clause-value
returns-then-got-n-clause-value g c =
    let head = c.in_ok-length.ensures in
    let read = c.in_ok-got.ensures in
    let w = c.in_ok-length.field-0 in
    let room : length (take (w - 4) c.args.buf.now) ≡ w - 4 = length-take-le (w - 4) c.args.buf.now (omega arith) in
    on_both _ head.value (on_rest _ _ _ 4 head.rest read.front)
    (λ bs e h. record_cut _ bs w (e ∙ first_word_is bs) c.in_ok-got.got (length (take (w - 4) c.args.buf.now)) c.read_full.new.buf h room (omega arith) read.bound.1)

pub returns-else-got-n-clause-value : goal.returns-else-got-n-clause-value
returns-else-got-n-clause-value g c =
    let head = c.in_ok-length.ensures in
    let read = c.in_ok-got.ensures in
    let w = c.in_ok-length.field-0 in
    let room : length (take (w - 4) c.args.buf.now) ≡ w - 4 = length-take-le (w - 4) c.args.buf.now (omega arith) in
    on_both _ head.value (on_rest _ _ _ 4 head.rest read.front)
    (λ bs e h. record_read (length c.args.buf.now) bs w (e ∙ first_word_is bs) c.in_ok-got.got
    (length (take (w - 4) c.args.buf.now)) c.read_full.new.buf h
    room (omega arith) (omega arith) (omega (arith, read.bound.0, room)) read.bound.1 _)
