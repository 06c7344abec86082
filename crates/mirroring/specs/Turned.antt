-- A lent set reflected as the call has it: cells with all that they hold as P13's reflection takes them, the totals to themselves. Over any lattice and grid,
-- and in document 01's grid by the number of an axis. Assumes nothing.
use Rattle.std.specs.Prelude.{ℕ, eqb}
use Rattle.grid.specs.declared.Sides.{Sides}
use Rattle.grid.specs.Grid.{cells_of}
use Rattle.grid.specs.State.{Lent, lent}
use Rattle.mirror.specs.Mirror.{Axes, Mirror, mirror_of, mirrored_set}

-- n cells of q + 1 parts, and as many totals as there are
unfoldable pub turned_set : Mirror → ℕ → ℕ → Lent → Lent
turned_set M q n a =
    lent (mirrored_set M q n a).flags (mirrored_set M q n a).parts (mirrored_set M q n a).masses (mirrored_set M q n a).fills a.carry

-- an axis by its number: 0 is x, 1 is y, 2 is z
unfoldable pub axes_of : ℕ → Axes
axes_of axis = record { x = eqb axis 0; y = eqb axis 1; z = eqb axis 2 }

-- document 01's: a set with its three totals reflected in an axis
unfoldable pub turned : Sides → ℕ → Lent → Lent
turned s axis a = turned_set (mirror_of s (axes_of axis)) 18 (cells_of s) a
