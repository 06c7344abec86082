-- The figures of P10 that go through a whole step hold. Assumes nothing.
use lib.Dec.{T}
use Rattle.whole.specs.Fold.{open-fold}
use Rattle.lattice.specs.Lattice.{open-lattice}
use Rattle.lattice.specs.Cell.{open-cell}
use Rattle.lattice.specs.Body.{open-body}
use Rattle.turbulence.specs.Root.{open-root}
use Rattle.turbulence.specs.Turbulence.{open-turbulence}
use Rattle.grid.specs.Grid.{open-grid}
use Rattle.grid.specs.State.{open-state}
use Rattle.grid.specs.Step.{open_step}
use Rattle.grid.specs.Mode.{open-mode}
use Rattle.grid.specs.Good.{open-good}
use Rattle.grid.specs.Outcome.{open-outcome}
use Rattle.figures.specs.Table.{hold}
use Rattle.figures.specs.Turbulent.{turbulent_figures}

pub turbulent-hold : T (hold turbulent_figures)
unfolding open-fold open-lattice open-cell open-body open-root open-turbulence open-grid open-state open_step open-mode open-good open-outcome
turbulent-hold = tt
