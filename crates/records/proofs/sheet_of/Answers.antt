use Rattle.std.proofs.Common.{◌∙◌, ap, refl}
use Rattle.records.proofs.PartLaws.{sheet_part}
use Rattle.records.proofs.sheet_of.Goals as goal

pub returns : goal.returns
returns c = ap (λ r. r.now) c.unwrap_or.ensures ∙ sheet_part (λ r. r.now) c.args.bytes.now _ refl c.get.result c.word.result c.word.ensures c.get.ensures.lookup
