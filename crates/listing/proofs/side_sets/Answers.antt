use Rattle.std.proofs.Common.{◌≡◌, ◌∙◌, ◌-◌, arith}
use Rattle.listing.specs.TextLaws.{sides_none, sides_more}
use Rattle.listing.proofs.side_sets.Goals as goal

pub loop-k-init : goal.loop-k-init
loop-k-init c = (omega arith, sides_none c.args.pset.now c.args.pside.now c.args.side.now c.args.leaves)

pub loop-k-preserved : goal.loop-k-preserved
loop-k-preserved c =
    let more =
    sides_more c.args.pset.now c.args.pside.now c.args.side.now c.args.leaves (omega arith) c.loop-k.invariant.1 c.at.ensures c.at-in-loop-k.ensures in
    (omega arith, c.put.ensures ∙ more)

pub returns : goal.returns
returns c =
    let e : c.loop-k.k - c.args.leaves ≡ c.args.plans - c.args.leaves = omega arith in
    rw e at c.loop-k.invariant.1
