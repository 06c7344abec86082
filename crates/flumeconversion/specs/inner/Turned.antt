-- Stages 5 and 6 of the flume: what the conversion asks, and that it is made, over the step's scene among the nineteen places. Assumes nothing.
use Rattle.std.specs.Prelude.{◌≡◌, Bool, false, List, ℕ, ◌*◌, ℤ, pos, length}
use Rattle.lattice.specs.declared.Settings.{Settings}
use Rattle.grid.specs.State.{Lent}
use Rattle.passes.specs.inner.Flowed.{MovedTo}
use Rattle.conversion.specs.inner.Turned.{TurnedTo}
use Rattle.flume.specs.declared.FlumeSides.{FlumeSides}
use Rattle.flume.specs.Flume.{flume_cells}
use Rattle.nine.specs.inner.Cells.{part_of9}
use Rattle.flumegrid.specs.inner.Ready.{FlumeReady}
use Rattle.flumepasses.specs.inner.Flowed.{wide_scene}

-- what the conversion asks: a set that is ready under settings with gy = 0, stages 1 to 4 made, and room for flags and carry
pub record FlumeTurning (s : FlumeSides) (g : Settings) (a : Lent) (flags : List ℕ) (parts masses carry : List ℤ) (marks : List ℕ) (calm : Bool) : Type 0 where
  pub ready : FlumeReady s (record { p = g.p; gx = g.gx; gz = g.gz; turbulent = g.turbulent }) a
  pub level : g.gy ≡ pos 0
  pub moved : MovedTo (wide_scene s g a) (flume_cells s) (part_of9 parts) masses marks false calm
  pub flags-room : length flags ≡ flume_cells s
  pub parts-room : length parts ≡ 9 * flume_cells s
  pub carry-room : length carry ≡ 1

-- the conversion is made: flags, parts, masses and carry are the next state's, and no mark is left
pub record FlumeTurned (s : FlumeSides) (g : Settings) (a : Lent) (flags : List ℕ) (parts masses carry : List ℤ) (marks : List ℕ) (fair : Bool) : Type 0 where
  pub parts-there : length parts ≡ 9 * flume_cells s
  pub turned : TurnedTo (wide_scene s g a) (flume_cells s) flags (part_of9 parts) masses carry marks fair
