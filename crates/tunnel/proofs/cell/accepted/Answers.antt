-- `tunnel::cell::accepted`: the coordinates of a cell below N are below 128, so their centres are exact. Assumes nothing.
use native.Mathlib.Omega.{arith}
use Rattle.grid.proofs.GoodSides.{good-sides}
use Rattle.tunnel.proofs.Cells.{Coordinates, coordinates}
use Rattle.tunnel.proofs.cell.accepted.Goals as goal

within : (c : goal.Start) → Coordinates c.args.s c.args.c
within c = coordinates c.args.s c.args.c c.requires.s_value c.requires.c_bound

pub nonzero_rem-c : goal.nonzero_rem-c
nonzero_rem-c c = omega (arith, (good-sides c.args.s c.requires.s_value).x.low)

pub centre-requires : goal.centre-requires
centre-requires c = (within c).x

pub nonzero_div-c : goal.nonzero_div-c
nonzero_div-c c = omega (arith, (good-sides c.args.s c.requires.s_value).x.low)

pub nonzero_rem-c-2 : goal.nonzero_rem-c-2
nonzero_rem-c-2 c = omega (arith, (good-sides c.args.s c.requires.s_value).y.low)

pub centre-requires-2 : goal.centre-requires-2
centre-requires-2 c = (within c.before).y

pub overflow_mul-nx : goal.overflow_mul-nx
overflow_mul-nx c = record { fits = omega (arith, (within c.before.before).plane) }

pub nonzero_div-c-2 : goal.nonzero_div-c-2
nonzero_div-c-2 c = (within c.before.before).some

pub centre-requires-3 : goal.centre-requires-3
centre-requires-3 c = (within c.before.before).z
