-- `flumegrid::neighbours::low_of` is the cell at (1, 1). Assumes nothing.
use native.Mathlib.Omega.{arith}
use Rattle.flume.specs.inner.Offsets.{flume_low}
use Rattle.flumegrid.proofs.neighbours.low_of.Goals as goal

pub returns : goal.returns
unfolding flume_low
returns c = omega (arith, c.cell_at.ensures)
