-- The flume of document 02: its sides, grid, lent sets and settings. The lattice is d2q9, with directions and weights as P3 lists them; flags, liquid, cut,
-- density, fill, the rules of a good state and the seven stages are the box's definitions, which are over any lattice and grid. Assumes nothing.
use Rattle.std.specs.Prelude.{ℕ, ◌*◌, Bool, ◌&&◌, leb, pos}
use Rattle.lattice.specs.Lattice.{d2q9}
use Rattle.lattice.specs.declared.Settings.{Settings}
use Rattle.grid.specs.Grid.{Grid, flume}
use Rattle.grid.specs.State.{Lent}
use Rattle.grid.specs.Outcome.{lengths_fit}
use Rattle.grid.specs.Ground.{Ground}
use Rattle.flume.specs.declared.FlumeSides.{FlumeSides}
use Rattle.flume.specs.declared.FlumeSettings.{FlumeSettings}

-- sides nx, nz are 3 to 512
abbrev pub flume_side_good : ℕ → Bool
flume_side_good n = leb 3 n && leb n 512

unfoldable pub flume_sides_good : FlumeSides → Bool
flume_sides_good s = flume_side_good s.nx && flume_side_good s.nz

-- N = nx·nz
unfoldable pub flume_cells : FlumeSides → ℕ
flume_cells s = s.nx * s.nz

-- cell number c = x + nx·z; the outer layer is x or z at 0 or at the last
unfoldable pub flume_grid : FlumeSides → Grid
flume_grid s = flume d2q9 s.nx s.nz

-- a lent set is N flags, 9N parts (part k of cell c at 9c + k), N masses, N fills and the carry as a list of one
unfoldable pub flume_lengths : ℕ → Lent → Bool
flume_lengths n a = lengths_fit 9 n a

-- p, gx, gz: the box's settings with gy = 0, so that (gx, gz) is allowed exactly when (gx, 0, gz) is in the box
abbrev pub level_settings : FlumeSettings → Settings
level_settings g = record { p = g.p; gx = g.gx; gy = pos 0; gz = g.gz; turbulent = g.turbulent }

-- what its outcomes stand on
abbrev pub flume_ground : FlumeSides → Ground
flume_ground s = record { lat = d2q9; grid = flume_grid s; fits = flume_sides_good s; directions = 8; cells = flume_cells s }

-- names every definition of this file: whoever unfolds this computes with all of them
unfoldable pub open-flume : Unit {0}
unfolding flume_sides_good flume_cells flume_grid flume_lengths
open-flume = tt
