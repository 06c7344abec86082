-- `checks::fluid::first_open`: by the box's offsets, test 5's place. Assumes nothing.
use mathlib.Core.Path.{◌∙◌}
use Rattle.grid.proofs.Beside.{Offsets}
use Rattle.grid.proofs.Open.{open-box, embedded}
use Rattle.checks.proofs.fluid.first_open.Lts as lts
use Rattle.checks.proofs.fluid.first_open.Reads as reads
use Rattle.checks.proofs.fluid.first_open.Tie as tie
use Rattle.checks.proofs.fluid.first_open.Goals as goal

abbrev At-After-low_of-low : Type 0
At-After-low_of-low = lts.After-low_of tie.the-claims reads.Pre reads.Post

offs : (c : At-After-low_of-low) → Offsets c.args.s c.offsets-off.result c.low_of-low.result
offs c = record { table = c.offsets-off.ensures; lowest = c.low_of-low.ensures }

pub offsets-off-requires : goal.offsets-off-requires
offsets-off-requires c = c.requires.sides

pub low_of-low-requires : goal.low_of-low-requires
low_of-low-requires c = c.requires.sides

pub first_open_by-requires : goal.first_open_by-requires
first_open_by-requires c = embedded _ _ _ c.requires (offs c.before.before)

pub returns : goal.returns
returns c = c.first_open_by.ensures ∙ open-box _ _ _ c.requires (offs c.before.before.before)
