-- Where the neighbours of a flume's cell lie among the nineteen places: neighbour i of cell c is (c − low) + offset i, and an idle one is c itself. Assumes nothing.
use Rattle.std.specs.Prelude.{ℕ, ◌+◌}
use Rattle.flume.specs.declared.FlumeSides.{FlumeSides}
use Rattle.flume.specs.Flume.{flume_grid}
use Rattle.flume.specs.inner.Spread.{spread_grid}

-- the lowest cell that is not in the outer layer
unfoldable pub flume_low : FlumeSides → ℕ
flume_low s = 1 + s.nx

-- the neighbours of that cell
unfoldable pub flume_offset : FlumeSides → ℕ → ℕ
flume_offset s i = (spread_grid (flume_grid s)).near (flume_low s) i
