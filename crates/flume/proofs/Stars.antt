-- The table of the flume's worked figures holds: every figure marked with a star is what the definitions give. Assumes nothing.
use lib.Dec.{T}
use Rattle.whole.specs.Fold.{open-fold}
use Rattle.lattice.specs.Lattice.{open-lattice}
use Rattle.lattice.specs.Cell.{open-cell}
use Rattle.lattice.specs.Body.{open-body}
use Rattle.turbulence.specs.Root.{open-root}
use Rattle.turbulence.specs.Turbulence.{open-turbulence}
use Rattle.grid.specs.Grid.{open-grid}
use Rattle.grid.specs.State.{open-state}
use Rattle.grid.specs.Step.{open_step}
use Rattle.grid.specs.Mode.{open-mode}
use Rattle.grid.specs.Good.{open-good}
use Rattle.grid.specs.Outcome as grid
use Rattle.flume.specs.Flume.{open-flume}
use Rattle.flume.specs.Outcome.{open-outcome}
use Rattle.flume.specs.Table.{figures, hold}

pub flume-stars : T (hold figures)
unfolding open-fold open-lattice open-cell open-body open-grid open-state open_step open-mode open-root open-turbulence open-good grid.open-outcome open-flume open-outcome
flume-stars = tt
