-- The table of worked figures holds: every figure marked with a star is what the definitions give. Assumes nothing.
use mathlib.Core.List.{◌++◌}
use lib.Dec.{T}
use Rattle.whole.specs.Fold.{open-fold}
use Rattle.lattice.specs.Lattice.{open-lattice}
use Rattle.lattice.specs.Cell.{open-cell}
use Rattle.lattice.specs.Body.{open-body}
use Rattle.grid.specs.Grid.{open-grid}
use Rattle.grid.specs.State.{open-state}
use Rattle.grid.specs.Step.{open_step}
use Rattle.grid.specs.Good.{open-good}
use Rattle.grid.specs.Outcome.{open-outcome}
use Rattle.grid.specs.Demands as grid
use Rattle.pumps.specs.Three.{open-three}
use Rattle.pumps.specs.Acts.{open-acts}
use Rattle.pumps.specs.Demands.{open-demands}
use Rattle.index.specs.Index.{open-index}
use Rattle.index.specs.Outcome as index
use Rattle.tunnel.specs.Place.{open-place}
use Rattle.tunnel.specs.Depth.{open-depth}
use Rattle.profile.specs.Profile.{open-profile}
use Rattle.profile.specs.Outcome.{open-answer}
use Rattle.figures.specs.Designers.{designer_figures}
use Rattle.figures.specs.Lakes.{pool_figures}
use Rattle.figures.specs.Table.{figures, hold}
use Rattle.figures.specs.Turbulent.{turbulent_figures}
use Rattle.figures.proofs.Designers.{designers-hold}
use Rattle.figures.proofs.Lakes.{lakes-hold, hold-both}
use Rattle.figures.proofs.Turbulent.{turbulent-hold}

computed : T (hold figures)
unfolding open-fold open-lattice open-cell open-body open-grid open-state open_step open-good open-outcome grid.open-demands open-three open-acts open-demands open-index index.open-outcome open-place open-depth open-profile open-answer
computed = tt

pub stars : T (hold (figures ++ (turbulent_figures ++ (pool_figures ++ designer_figures))))
stars =
    hold-both figures (turbulent_figures ++ (pool_figures ++ designer_figures)) computed
    (hold-both turbulent_figures (pool_figures ++ designer_figures) turbulent-hold (hold-both pool_figures designer_figures lakes-hold designers-hold))
