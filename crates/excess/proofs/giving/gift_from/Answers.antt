-- `excess::giving::gift_from`: a cell with no mark gives nothing. Assumes nothing.
use mathlib.Core.Path.{◌∙◌}
use Rattle.grid.specs.State.{part_of}
use Rattle.excess.proofs.Sent.{from-none, from_some}
use Rattle.excess.proofs.Readings.{told64}
use Rattle.excess.proofs.giving.gift_from.Goals as goal

pub returns-then-m-eq0 : goal.returns-then-m-eq0
returns-then-m-eq0 c =
    let s = c in
    from-none s.args.flags.now s.args.fills.now (part_of s.args.parts.now) s.args.masses.now s.args.off.now s.args.low s.args.marks.now s.args.b s.args.i c.if-m-eq0.true

pub gift-requires : goal.gift-requires
gift-requires c =
    let s = c in
    ((s.requires.2 c.if-m-eq0.false).0, s.requires.1, (s.requires.2 c.if-m-eq0.false).1)

pub returns : goal.returns
returns c =
    let s = c in
    told64 c.gift.type_inv c.gift.ensures
    ∙ from_some s.args.flags.now s.args.fills.now (part_of s.args.parts.now) s.args.masses.now s.args.off.now s.args.low s.args.marks.now s.args.b s.args.i c.if-m-eq0.false
