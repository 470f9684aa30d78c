use mathlib.Core.Path.{sym, ap, ◌∙◌}
use mathlib.Core.List.{List}
use Prim.Native.Nat.{ℕ, ◌+◌}
use native.Mathlib.Omega.{arith}
use lib.ListN.{get_or}
use lib.Bits.{bit_or}
use Rattle.definition.specs.Sheet.{question_of}
use Rattle.definition.proofs.SheetLaws.{length_columns}
use Rattle.definition.specs.Edges.{holder, holders}
use Rattle.ses.specs.View.{leaves_of}
use Rattle.ses.specs.Laws.{rest, rest_step, rest_end, holders_step, holders_done}
use Rattle.ses.proofs.Side.with_holders.Goals as goal

pub column-c-requires : goal.column-c-requires
column-c-requires c =
    let s = c.args.self.now.sheet in
    omega (arith, length_columns s.bytes.now, s.placed.columns_many, c.requires)

pub loop-i-preserved : goal.loop-i-preserved
loop-i-preserved c =
    let a = c.args in
    let l = c.loop-i in
    let cols = (question_of a.self.now.sheet.bytes.now).columns in
    let ls = leaves_of a.self.now.sheet.bytes.now a.self.now.leaves.now in
    ap (λ (h : ℕ). holders ls a.self.now.set (rest a.r.first a.r.count cols (l.i + 1)) (bit_or l.u h))
    (c.holder-u.ensures ∙ ap (holder 0 ls a.self.now.set) c.column-c.ensures)
    ∙ holders_step ls a.self.now.set (get_or cols (a.r.first + l.i) 0) (rest a.r.first a.r.count cols (l.i + 1)) l.u
    ∙ ap (λ (x : List ℕ). holders ls a.self.now.set x l.u) (sym (rest_step a.r.first a.r.count cols l.i 0 c.loop-i-test.true c.requires))
    ∙ l.invariant

pub returns : goal.returns
returns c =
    let a = c.args in
    let l = c.loop-i in
    holders_done (leaves_of a.self.now.sheet.bytes.now a.self.now.leaves.now) a.self.now.set _ l.u
    (rest_end a.r.first a.r.count (question_of a.self.now.sheet.bytes.now).columns l.i c.loop-i-test.false)
    ∙ l.invariant
