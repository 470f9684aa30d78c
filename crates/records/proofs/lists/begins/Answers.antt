-- Each element is tested with its number, or the list is too short.
use Rattle.std.proofs.Common.{◌+◌, ◌*◌, ◌∙◌, take, ap, arith, rules}
use Rattle.std.proofs.lemmas.Bool.{lt-leb}
use Rattle.std.proofs.lemmas.Iterator.{YieldsList-from_slice}
use Rattle.std.proofs.lemmas.Iterator.Consumers.{YieldsList-from_enumerate}
use Rattle.std.proofs.lemmas.Iterator.Search.{all_from_yields_List}
use Rattle.records.specs.Listed.{begins}
use Rattle.records.specs.ListedLaws.{begins_short, begins_numbered}
use Rattle.records.proofs.lists.begins.Goals as goal

pub returns-then-list-n : goal.returns-then-list-n
returns-then-list-n g c =
    let a = c.args in
    let is = g.E.Element.recorded a.bytes.now in
    all_from_yields_List (λ p. is (a.at + a.step * p.0) p.1) _ _ _ c.all.ensures.ran
    (YieldsList-from_enumerate (YieldsList-from_slice (take a.n a.list.now) cc) cc) (λ x b q e. (search rules, search rules))
    ∙ begins_numbered is a.at a.step 0 a.n a.list.now (omega arith)
    ∙ ap (λ k. begins is k a.step a.n a.list.now) (omega arith)

pub returns-else-list-n : goal.returns-else-list-n
returns-else-list-n g c =
    let a = c.args in
    lt-leb _ _ c.if-list-n.false ∙ begins_short (g.E.Element.recorded a.bytes.now) a.at a.step a.n a.list.now (omega arith)
