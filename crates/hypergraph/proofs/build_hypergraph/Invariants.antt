use mathlib.Core.Path.{◌≡◌}
use lib.ListN.{length}
use Rattle.definition.specs.Edges.{empty_build}
use Rattle.builder.specs.Builds.{edge_lists_of, SameEdgeLists, build_of, Added}
use Rattle.hypergraph.specs.Walk.{Along}
use Rattle.hypergraph.specs.WalkLaws.{rest}
use Rattle.hypergraph.proofs.build_hypergraph.Given as goal

abbrev pub invariant-loop-k : goal.invariant-loop-k
invariant-loop-k l =
    let sheet = l.sheet.bytes.now in
    let now = edge_lists_of l.lists in
    record {
      same : SameEdgeLists l.initial.lists l.lists;
      along : Along sheet (length l.yielded) l.b now;
      built : rest sheet (length l.yielded) (build_of sheet l.b now) ≡ rest sheet 0 empty_build;
      added : Added 0 l.b.edges (edge_lists_of l.initial.lists) now;
    }
