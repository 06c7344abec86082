-- `grid::neighbours::low_of` is the cell at (1, 1, 1). Assumes nothing.
use Rattle.grid.specs.inner.Passes.{low_of}
use Rattle.grid.proofs.neighbours.low_of.Goals as goal

pub returns : goal.returns
unfolding low_of
returns c = c.cell_at.ensures
