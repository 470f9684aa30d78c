use Rattle.std.proofs.Common.{◌≡◌, ◌∙◌, refl, arith}
use Rattle.listing.specs.TextLaws.{puts_lines_none, puts_lines_more, puts_text}
use Rattle.listing.proofs.text.Text.put_list.Goals as goal

pub loop-i-init : goal.loop-i-init
loop-i-init c = (refl, omega arith, puts_lines_none c.args.left.now c.args.right.now _ _)

pub loop-i-preserved : goal.loop-i-preserved
loop-i-preserved c =
    let so_far = c.loop-i.invariant in
    let more =
    puts_lines_more c.args.left.now c.args.right.now _ c.at.ensures c.at-in-loop-i.ensures so_far.2 c.put_line.ensures.puts in
    (c.put_line.ensures.same ∙ so_far.0, omega arith, more)

pub returns-clause-puts : goal.returns-clause-puts
returns-clause-puts c =
    let a = c.args in
    let e : c.loop-i.i ≡ a.trials = omega arith in
    puts_text a.left.now a.right.now a.answer a.visits a.trials (rw c.requires at c.put_header.ensures.puts) (rw e at c.loop-i.invariant.2)
