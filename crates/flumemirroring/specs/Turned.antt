-- A flume's lent set reflected as the call has it: the box's definition, on the flume's reflection. Assumes nothing.
use Rattle.std.specs.Prelude.{ℕ}
use Rattle.grid.specs.State.{Lent}
use Rattle.flume.specs.declared.FlumeSides.{FlumeSides}
use Rattle.flume.specs.Flume.{flume_cells}
use Rattle.mirror.specs.Mirror.{flume_mirror}
use Rattle.mirroring.specs.Turned.{turned_set, axes_of}

-- nine parts a cell; the carry to itself
unfoldable pub flume_turned : FlumeSides → ℕ → Lent → Lent
flume_turned s axis a = turned_set (flume_mirror (axes_of axis) s.nx s.nz) 8 (flume_cells s) a
