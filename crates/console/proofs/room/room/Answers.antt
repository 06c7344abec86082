-- `console::room::room` finds the room by three bytes. Assumes nothing.
use native.Mathlib.Omega.{arith}
use Rattle.console.specs.Room.{low_cells}
use Rattle.console.proofs.Rooms.{room-over, room-enough}
use Rattle.console.proofs.room.room.Goals as goal

pub returns-then-n-most : goal.returns-then-n-most
unfolding low_cells
returns-then-n-most c = record { value = room-over _ _ c.product-n.result (omega arith) c.product-n.ensures c.if-n-most.true; upper_bound = omega arith }

pub returns : goal.returns
unfolding low_cells
returns c = record { value = room-enough _ _ c.product-n.result (omega arith) c.product-n.ensures (omega arith); upper_bound = omega arith }
