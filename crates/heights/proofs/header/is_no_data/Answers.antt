-- `heights::header::is_no_data`: below 0, and of that magnitude. Assumes nothing.
use mathlib.Core.Path.{ap, ◌∙◌}
use lib.IntN.{nat_abs}
use mir.Facts.{to_z-of_z}
use Rattle.heights.proofs.Headers.{not-below, below}
use Rattle.heights.proofs.header.is_no_data.Goals as goal

pub returns-then-v-ge0 : goal.returns-then-v-ge0
returns-then-v-ge0 c = not-below c.args.v (rw (to_z-of_z c.ranges.v) at c.if-v-ge0.true)

pub returns : goal.returns
returns c = below c.args.v c.magnitude.result (rw (to_z-of_z c.ranges.v) at c.if-v-ge0.false) (c.magnitude.ensures ∙ ap nat_abs (to_z-of_z c.ranges.v))
