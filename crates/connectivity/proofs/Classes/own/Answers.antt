use native.Mathlib.Nat.{one-mul, mod-eq_of_lt}
use native.Mathlib.Omega.{arith}
use Rattle.std.specs.Prelude.{◌≡◌, ◌*◌, ◌%◌, ◌^◌, get_or}
use Rattle.std.proofs.Common.{sym, ◌∙◌, rules}
use Rattle.std.proofs.Math.Pow.{pow-lt}
use Rattle.std.proofs.Math.Seq.{take_all}
use Rattle.nodeset.specs.Sets.{singleton}
use Rattle.nodeset.specs.SetLaws.{singleton_is}
use Rattle.definition.proofs.ListLaws.{tabulate-take, tabulate_same}
use Rattle.connectivity.proofs.Classes.own.Goals as goal

pub returns : goal.returns
returns c =
    let r = c.from_fn.ensures.items in
    let l = c.from_fn.result in
    sym (take_all 64 l (omega (arith, r.long))) ∙ sym (tabulate-take 64 l (omega (arith, r.long)))
    ∙ tabulate_same 64 (λ i. get_or l i 0) singleton (λ i h.
    let x = r.at i 0 h in
    let e : get_or l i 0 ≡ 1 * 2 ^ i % 2 ^ 64 = search rules in
    rw (e, one-mul (2 ^ i), singleton_is i h) (mod-eq_of_lt (pow-lt h)))
