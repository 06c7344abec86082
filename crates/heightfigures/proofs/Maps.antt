-- The figures of the depth map hold: each is computed from the definitions. Assumes nothing.
use lib.Dec.{T}
use Rattle.whole.specs.Fold.{open-fold}
use Rattle.lattice.specs.Lattice.{open-lattice}
use Rattle.lattice.specs.Cell.{open-cell}
use Rattle.lattice.specs.Body.{open-body}
use Rattle.grid.specs.Grid.{open-grid}
use Rattle.grid.specs.State.{open-state}
use Rattle.grid.specs.Step.{open_step}
use Rattle.grid.specs.Good.{open-good}
use Rattle.grid.specs.Outcome.{open-outcome}
use Rattle.pumps.specs.Three.{open-three}
use Rattle.tunnel.specs.Depth.{open-depth}
use Rattle.spelling.specs.Spelling.{open-spelling}
use Rattle.depths.specs.Map.{open-map}
use Rattle.depths.specs.Outcome as depths
use Rattle.heightfigures.specs.Texts.{hold}
use Rattle.heightfigures.specs.Maps.{maps}

pub maps-hold : T (hold maps)
unfolding open-fold open-lattice open-cell open-body open-grid open-state open_step open-good open-outcome open-three open-depth open-spelling open-map depths.open-outcome
maps-hold = tt
