use Rattle.std.proofs.Common.{◌≡◌, ℕ, Option, MatchOption, Some, take, drop, ap, ◌∙◌, rules}
use Rattle.std.specs.Option.{option_or}
use Rattle.store.specs.Memo.{spot}
use Rattle.memo_index.proofs.LookupLaws.{or_else_is}
use Rattle.memo_index.proofs.KeptLaws.{kept_searched, kept_found}
use Rattle.memo_index.proofs.find.Goals as goal

pub probe-requires : goal.probe-requires
probe-requires c = kept_searched c.requires c.if-index-ne1024.false

pub returns : goal.returns
returns c =
    let a = c.args in
    let past = spot 512 (drop 512 (take a.n a.mset.now)) a.s in
    let either : MatchOption c.probe.result (c.or_else.result ≡ past) (λ i. c.or_else.result ≡ Some i) = search rules in
    or_else_is c.probe.result past either ∙ ap (λ (o : Option ℕ). option_or o past) c.probe.ensures
    ∙ kept_found c.requires a.s c.if-index-ne1024.false
