use Rattle.std.proofs.Common.{◌∙◌, sym, length, arith, rules}
use borrow.Author.Tests.{tests}
use Rattle.std.specs.Prelude.{[]}
use Rattle.std.proofs.lemmas.Iterator.{YieldsList-from_slice, YieldsList-from_zip}
use Rattle.std.proofs.lemmas.Iterator.Search.{any_from_yields_List}
use Rattle.graph.specs.View.{edges_with, sides_connect}
use Rattle.graph.specs.Laws.{has_any}
use Rattle.graph.proofs.NeighborLaws.{has_edge_simple}
use Rattle.graph.proofs.has_edge.Goals as goal

pub returns-then-graph : goal.returns-then-graph
returns-then-graph c =
    let a = c.args in
    let g = a.graph.now in
    rw (c.is_disjoint.ensures, c.across.ensures) (has_edge_simple (edges_with g.edges) (sym g.tested ∙ c.if-graph.true) a.a a.b)

pub returns : goal.returns
returns c =
    let a = c.args in
    let e = a.graph.now.edges in
    let l = e.left.now in
    let r = e.right.now in
    any_from_yields_List (sides_connect a.a a.b) c.any.new.self _ _ c.any.ensures.ran
    (YieldsList-from_zip (YieldsList-from_slice l (cc)) (YieldsList-from_slice r (cc))) (λ x b q k. search (rules, tests))
    ∙ has_any (length l) l r [] [] [] a.a a.b (cc) e.same (length l) 0 (omega arith)
