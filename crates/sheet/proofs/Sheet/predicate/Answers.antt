use Rattle.sheet.specs.Placing.{predicate_here}
use Rattle.sheet.proofs.Sheet.predicate.Goals as goal

pub returns : goal.returns
returns c =
    let s = c.args.self.now in
    predicate_here s.bytes.now s.sections s.placed c.args.p.0 c.requires c.word.ensures c.range.ensures
