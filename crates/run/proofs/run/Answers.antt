use Rattle.std.proofs.Common.{refl}
use Rattle.builder.specs.Builds.{edge_lists_of}
use Rattle.candidate.specs.Lent.{lists_of}
use Rattle.checks.specs.Answers.{rooms_of}
use Rattle.run.specs.Lent.{lent_of}
use Rattle.run.specs.RunLaws.{room, run_sound, edges_fit, run_longer, run_few, run_ready, run_answer, run-lists}
use Rattle.run.proofs.run.Goals as goal

pub build_hypergraph-n-requires : goal.build_hypergraph-n-requires
build_hypergraph-n-requires c =
    let a = c.args in
    let bs = a.q.now.sheet.bytes.now in
    let h = lent_of a.edges.now a.lists.now in
    (run_sound bs (rooms_of a.rooms) h c.requires, (room bs (rooms_of a.rooms) h c.requires).few, edges_fit bs (rooms_of a.rooms) h c.requires)

pub built-built-requires : goal.built-built-requires
built-built-requires c =
    let a = c.args in
    let bs = a.q.now.sheet.bytes.now in
    let h = lent_of a.edges.now a.lists.now in
    let e = c.build_hypergraph-n in
    let x = edge_lists_of e.new.lists in (
      run_longer bs (rooms_of a.rooms) h c.requires e.result x e.ensures.count e.ensures.lists,
      run_few bs (rooms_of a.rooms) h c.requires e.result x e.ensures.count e.ensures.lists,
    )

pub search_plans-r-requires : goal.search_plans-r-requires
search_plans-r-requires c =
    let a = c.args in
    let e = c.build_hypergraph-n in
    run_ready a.q.now.sheet.bytes.now (rooms_of a.rooms) (lent_of a.edges.now a.lists.now) c.requires e.result (edge_lists_of e.new.lists)
    e.ensures.count e.ensures.lists c.built-built.result c.built-built.ensures a.q.now.counted

pub returns : goal.returns
returns c =
    let a = c.args in
    let bs = a.q.now.sheet.bytes.now in
    let h = lent_of a.edges.now a.lists.now in
    let e = c.build_hypergraph-n in
    let x = edge_lists_of e.new.lists in
    let b = c.built-built in
    let r = c.search_plans-r in
    record {
      same_edges = e.ensures.same;
      same_lists = r.ensures.same;
      answer =
          run_answer bs (rooms_of a.rooms) h c.requires e.result x e.ensures.count e.ensures.lists b.result b.ensures a.limit (lists_of r.new.lists) r.result
          r.ensures.held r.ensures.ending _ refl refl refl refl refl;
      lists =
          run-lists bs (rooms_of a.rooms) h c.requires e.result x e.ensures.count e.ensures.lists b.result b.ensures a.limit (lists_of r.new.lists) r.result
          r.ensures.held r.ensures.ending;
    }
