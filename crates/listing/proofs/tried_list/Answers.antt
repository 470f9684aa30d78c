use Rattle.std.proofs.Common.{◌≡◌, ◌≤◌, ◌<◌, length, rules, arith}
use Rattle.definition.specs.TriedList.{tried_list}
use Rattle.listing.specs.Text.{pairs_of, written_in}
use Rattle.listing.specs.TextLaws.{text_length, no_room, room}
use Rattle.listing.proofs.tried_list.Goals as goal

short : (c : goal.Then-out-text_length)
    → length c.args.out.now < length (tried_list c.args.answer c.args.visits (pairs_of c.args.left.now c.args.right.now c.args.trials))
short c = let a = c.args in omega (arith, text_length a.left.now a.right.now a.answer a.visits a.trials)

pub returns-then-out-text_length-clause-result : goal.returns-then-out-text_length-clause-result
returns-then-out-text_length-clause-result c = (no_room _ c.args.out.now (short c)).0

pub returns-then-out-text_length-clause-text : goal.returns-then-out-text_length-clause-text
returns-then-out-text_length-clause-text c = (no_room _ c.args.out.now (short c)).1

pub returns-clause-result : goal.returns-clause-result
returns-clause-result c =
    let a = c.args in
    let fits : length (tried_list a.answer a.visits (pairs_of a.left.now a.right.now a.trials)) ≤ length a.out.now =
    omega (arith, text_length a.left.now a.right.now a.answer a.visits a.trials) in
    (room _ a.out.now fits c.put_list.ensures.puts).0

pub returns-clause-text : goal.returns-clause-text
returns-clause-text c =
    let a = c.args in
    let text = tried_list a.answer a.visits (pairs_of a.left.now a.right.now a.trials) in
    let fits : length text ≤ length a.out.now = omega (arith, text_length a.left.now a.right.now a.answer a.visits a.trials) in
    let e : c.put_list.new.self.out.now ≡ written_in text a.out.now = (room _ a.out.now fits c.put_list.ensures.puts).1 in
    search (rules, e)
