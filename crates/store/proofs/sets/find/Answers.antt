use Rattle.std.proofs.Common.{◌≡◌, ◌≤◌, ◌+◌, ◌-◌, ◌∙◌, sym, ap, arith, take, drop, length, take_all, eqb, rules}
use borrow.Author.Tests.{tests}
use Rattle.std.specs.Option.{option_map}
use Rattle.std.proofs.lemmas.List.{length-drop}
use Rattle.std.proofs.lemmas.Iterator.{YieldsList-from_slice}
use Rattle.std.proofs.lemmas.Iterator.Search.{position_from_yields_List}
use Rattle.store.specs.Memo.{spot}
use Rattle.store.specs.Laws.{spot-position, take_min}
use Rattle.store.proofs.sets.find.Goals as goal

pub returns : goal.returns
returns c =
    let a = c.args in
    let l = a.mset.now in
    let from = c.skip_eights-from.result in
    let count = c.min.result in
    let more = c.skip_eights-from.ensures in
    let rest = c.iter.result.rest.now in
    let found = position_from_yields_List (λ x. eqb x a.s) _ _ _ c.position.ensures.ran (YieldsList-from_slice rest cc) (λ x b q k. search (rules, tests)) in
    let mapped : c.map.result ≡ option_map (λ k. from + k) c.position.result = search rules in
    let front = take count l in
    let whole : length (drop from front) ≤ length front - from = omega (arith, length-drop from front) in
    let part : drop from front ≡ rest = sym (take_all (length front - from) (drop from front) whole) ∙ sym c.iter.ensures.rest in
    let all : take count l ≡ take a.n l = ap (λ n. take n l) (omega (arith, c.min.ensures)) ∙ take_min a.n l in
    mapped ∙ ap (option_map (λ k. from + k)) found ∙ spot-position rest a.s from ∙ ap (λ k. spot from k a.s) (sym part)
    ∙ more.1 ∙ ap (λ k. spot 0 k a.s) all
