use Rattle.std.proofs.Math.Facts.{Fits-lt-pow}
use Rattle.connectivity.proofs.LeafLoops.{meeting_start, meeting_inside, meeting_next, meeting_less, meeting_end}
use Rattle.connectivity.proofs.Classes.met.Goals as goal

pub loop-left-init : goal.loop-left-init
loop-left-init c = meeting_start c.args.s c.args.self.now.0 c.ranges.s.fits

pub bounds-self-nodeset_min : goal.bounds-self-nodeset_min
bounds-self-nodeset_min c =
    let o = c.loop-left in
    rw c.nodeset_min.ensures (meeting_inside c.args.s c.args.self.now.0 c.requires o.left o.all o.invariant c.loop-left-test.true)

pub loop-left-smaller : goal.loop-left-smaller
loop-left-smaller c =
    let o = c.loop-left in
    rw (c.difference-left.ensures, c.nodeset_min.ensures) (meeting_less c.args.s c.args.self.now.0 c.requires o.left o.all o.invariant c.loop-left-test.true)

pub loop-left-preserved : goal.loop-left-preserved
loop-left-preserved c =
    let o = c.loop-left in
    rw (c.difference-left.ensures, c.nodeset_min.ensures) (meeting_next c.args.s c.args.self.now.0 c.requires o.left o.all o.invariant c.loop-left-test.true)

pub returns : goal.returns
returns c =
    let o = c.loop-left in
    meeting_end c.args.s c.args.self.now.0 c.requires o.left o.all o.invariant (Fits-lt-pow o.auto.all-fits) c.loop-left-test.false
