use Rattle.std.proofs.Common.{rules}
use Rattle.std.specs.Prelude.{map}
use Rattle.std.proofs.lemmas.List.{length-map}
use Rattle.cost.specs.View.{leaf_of}
use Rattle.candidate.specs.Lent.{given_of, lists_of}
use Rattle.search.specs.SearchLaws.{search_begins, search_is, stop_is, ends_is}
use Rattle.search.proofs.search.Goals as goal

pub solve-counts-requires : goal.solve-counts-requires
solve-counts-requires c =
    let a = c.args in
    search_begins (given_of a.g.now) (lists_of a.l.now) _ c.requires (map leaf_of a.leaves.now) (length-map a.leaves.now leaf_of) a.g.now.limit
    c.write_leaves.ensures.value

pub returns : goal.returns
returns c =
    let a = c.args in
    let g = given_of a.g.now in
    let h = lists_of a.l.now in
    let ls = map leaf_of a.leaves.now in
    let many = length-map a.leaves.now leaf_of in
    let limit = a.g.now.limit in
    let held = search_is g h _ c.requires ls many limit c.write_leaves.ensures.value c.solve-counts.ensures.value in
    record {
      same = search rules;
      held = held;
      stop = stop_is g h _ c.requires ls many limit held;
      ending = ends_is g h _ c.requires ls many limit held c.ended-ending.ensures;
    }
