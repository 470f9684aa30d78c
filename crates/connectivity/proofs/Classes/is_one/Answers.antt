use mathlib.Core.Path.{sym, ap, ◌∙◌}
use Prim.Native.Nat.{ℕ}
use native.Mathlib.Omega.{arith}
use lib.ListN.{get_or}
use Rattle.nodeset.specs.Sets.{within}
use Rattle.nodeset.specs.SetLaws.{lowest_of}
use Rattle.definition.specs.Connected.{one_class}
use Rattle.connectivity.proofs.Laws.{one_class_none}
use Rattle.connectivity.proofs.Classes.is_one.Goals as goal

pub returns-then-s-eq0 : goal.returns-then-s-eq0
returns-then-s-eq0 c = sym (one_class_none c.args.s c.args.self.now.0 c.if-s-eq0.true)

pub bounds-self-nodeset_min : goal.bounds-self-nodeset_min
bounds-self-nodeset_min c =
    let s = c.args.s in
    omega (arith, c.nodeset_min.ensures, (lowest_of s (omega (arith, c.if-s-eq0.false)) c.ranges.s.fits).inside)

pub returns : goal.returns
unfolding one_class
returns c = c.is_subset.ensures ∙ ap (λ (i : ℕ). within c.args.s (get_or c.args.self.now.0 i 0)) c.nodeset_min.ensures
