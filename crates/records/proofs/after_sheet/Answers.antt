use Rattle.std.proofs.Common.{◌∙◌, ap, refl}
use Rattle.records.proofs.PartLaws.{rest_part}
use Rattle.records.proofs.after_sheet.Goals as goal

pub returns : goal.returns
returns c = ap (λ r. r.now) c.unwrap_or.ensures ∙ rest_part (λ r. r.now) c.args.bytes.now _ refl c.get.result c.word.result c.word.ensures c.get.ensures.lookup
