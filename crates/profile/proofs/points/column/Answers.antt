-- `profile::points::column`: the sides of a good grid are not 0. Assumes nothing.
use native.Mathlib.Omega.{arith}
use Rattle.grid.proofs.GoodSides.{good-sides}
use Rattle.profile.specs.Profile.{column_of}
use Rattle.profile.proofs.points.column.Goals as goal

pub nonzero_rem-c : goal.nonzero_rem-c
nonzero_rem-c c = omega (arith, (good-sides c.args.s c.requires).x.low)

pub nonzero_div-c : goal.nonzero_div-c
nonzero_div-c c = omega (arith, (good-sides c.args.s c.requires).x.low)

pub nonzero_rem-c-2 : goal.nonzero_rem-c-2
nonzero_rem-c-2 c = let g = good-sides c.args.s c.requires in omega (arith, g.x.low, g.y.low)

pub returns : goal.returns
unfolding column_of
returns c = c.column_depth.ensures
