-- `pools::flood::drain`: each marked cell was looked around or stands in the queue from `at` on. Assumes nothing.
use Prim.Native.Nat.{◌-◌, ◌≤◌}
use Rattle.grid.specs.Grid.{cells_of}
use Rattle.pools.specs.inner.Flood.{Behind, Grown}
use Rattle.pools.proofs.flood.drain.Given as goal

abbrev pub invariant-loop-at : goal.invariant-loop-at
invariant-loop-at l = Behind l.s l.flags l.marks l.work l.at l.end × (l.at ≤ l.end) × Grown l.initial.marks l.initial.work l.tail l.marks l.work l.end

abbrev pub decreases-loop-at : goal.decreases-loop-at
decreases-loop-at l = cells_of l.s - l.at
