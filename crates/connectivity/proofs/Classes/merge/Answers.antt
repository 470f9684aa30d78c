use Rattle.connectivity.proofs.LeafLoops.{merging_start, merging_inside, merging_next, merging_less, merging_end}
use Rattle.connectivity.proofs.Classes.merge.Goals as goal

pub loop-left-init : goal.loop-left-init
loop-left-init c = merging_start c.args.s c.args.self.now.0 c.requires c.met-all.result c.met-all.ensures

pub bounds-self-leaf : goal.bounds-self-leaf
bounds-self-leaf c =
    let o = c.loop-left in
    rw c.nodeset_min-leaf.ensures (merging_inside c.args.s c.args.self.now.0 c.requires o.left o.self.0 o.invariant c.loop-left-test.true)

pub loop-left-smaller : goal.loop-left-smaller
loop-left-smaller c =
    let o = c.loop-left in
    rw (c.difference-left.ensures, c.nodeset_singleton.ensures, c.nodeset_min-leaf.ensures)
    (merging_less c.args.s c.args.self.now.0 c.requires o.left o.self.0 o.invariant c.loop-left-test.true)

pub loop-left-preserved : goal.loop-left-preserved
loop-left-preserved c =
    let o = c.loop-left in
    rw (c.difference-left.ensures, c.nodeset_singleton.ensures, c.nodeset_min-leaf.ensures)
    (merging_next c.args.s c.args.self.now.0 c.requires o.left o.self.0 o.invariant c.loop-left-test.true c.met-all.result c.met-all.ensures)

pub returns : goal.returns
returns c =
    let o = c.loop-left in
    merging_end c.args.s c.args.self.now.0 c.requires o.left o.self.0 o.invariant c.loop-left-test.false
