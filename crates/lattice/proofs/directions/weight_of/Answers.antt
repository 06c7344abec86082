-- `lattice::directions::weight_of` is the table's weight: one computed test over the nineteen rows. Assumes nothing.
use mathlib.Core.Path.{ap, sym}
use lib.IntN.{pos}
use Rattle.lattice.proofs.Table.{light, heavy}
use Rattle.lattice.proofs.directions.weight_of.Goals as goal

pub returns-then-i-lt7 : goal.returns-then-i-lt7
returns-then-i-lt7 c = ap pos (sym (heavy c.args.i c.requires.0 c.if-i-lt7.true))

pub returns : goal.returns
returns c = ap pos (sym (light c.args.i c.if-i-lt7.false c.requires.1))
