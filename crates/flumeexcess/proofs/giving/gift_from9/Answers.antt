-- `flumeexcess::giving::gift_from9`: a cell with no mark gives nothing. Assumes nothing.
use mathlib.Core.Path.{◌∙◌}
use Rattle.nine.specs.inner.Cells.{part_of9}
use Rattle.excess.proofs.Sent.{from-none, from_some}
use Rattle.excess.proofs.Readings.{told64}
use Rattle.flumeexcess.proofs.giving.gift_from9.Goals as goal

pub returns-then-m-eq0 : goal.returns-then-m-eq0
returns-then-m-eq0 c =
    let s = c in
    from-none s.args.flags.now s.args.fills.now (part_of9 s.args.parts.now) s.args.masses.now s.args.off.now s.args.low s.args.marks.now s.args.b s.args.i c.if-m-eq0.true

pub gift9-requires : goal.gift9-requires
gift9-requires c =
    let s = c in
    ((s.requires.2 c.if-m-eq0.false).0, s.requires.1, (s.requires.2 c.if-m-eq0.false).1)

pub returns : goal.returns
returns c =
    let s = c in
    told64 c.gift9.type_inv c.gift9.ensures
    ∙ from_some s.args.flags.now s.args.fills.now (part_of9 s.args.parts.now) s.args.masses.now s.args.off.now s.args.low s.args.marks.now s.args.b s.args.i c.if-m-eq0.false
