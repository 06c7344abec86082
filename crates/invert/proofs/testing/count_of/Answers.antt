-- `invert::testing::count_of` is the magnitude, or 0 below 0. Assumes nothing.
use mathlib.Core.Path.{ap, ◌∙◌}
use lib.IntN.{nat_abs}
use mir.Facts.{to_z-of_z}
use Rattle.invert.proofs.Tested.{count-below, count-from}
use Rattle.invert.proofs.testing.count_of.Goals as goal

pub returns-then-v-lt0 : goal.returns-then-v-lt0
returns-then-v-lt0 c = count-below c.args.v (rw (to_z-of_z c.ranges.v) at c.if-v-lt0.true)

pub returns : goal.returns
returns c =
    c.magnitude.ensures
    ∙ ap nat_abs (to_z-of_z c.ranges.v)
    ∙ count-from c.args.v (rw (to_z-of_z c.ranges.v) at c.if-v-lt0.false)
