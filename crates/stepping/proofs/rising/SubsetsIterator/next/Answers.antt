use Rattle.std.proofs.Common.{rules, ◌∙◌, sym}
use Rattle.stepping.specs.Next.{subsets_left}
use Rattle.stepping.proofs.SetsLeft.{left_none, left_next, next_inside, taken}
use Rattle.stepping.proofs.rising.SubsetsIterator.next.Goals as goal

pub returns-then-next-eq0-clause-steps : goal.returns-then-next-eq0-clause-steps
returns-then-next-eq0-clause-steps c =
    let s = c.args.self.now in
    let e = left_none s.set s.last (search rules) s.inside (sym c.next_subset-next.ensures ∙ c.if-next-eq0.true) in
    (e, e)

pub invariant_of-self : goal.invariant_of-self
invariant_of-self c = record { inside = next_inside _ _ _ c.next_subset-next.ensures }

pub returns-clause-steps : goal.returns-clause-steps
returns-clause-steps c =
    let s = c.args.self.now in
    left_next s.set s.last (search rules) s.inside _ c.next_subset-next.ensures c.if-next-eq0.false

pub returns-clause-goes : goal.returns-clause-goes
returns-clause-goes c =
    let s = c.args.self.now in
    taken subsets_left _ _ _ (left_next s.set s.last (search rules) s.inside _ c.next_subset-next.ensures c.if-next-eq0.false)
