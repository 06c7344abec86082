-- `flumegrid::neighbours::offsets` lists the table. Assumes nothing.
use Rattle.flumegrid.proofs.Offsets.{table}
use Rattle.flumegrid.proofs.neighbours.offsets.Goals as goal

pub returns : goal.returns
returns c =
    table _ _ _ _ _ _ _ _ _ _
    c.cell_at-low.ensures
    c.cell_at.ensures
    c.cell_at-2.ensures
    c.cell_at-3.ensures
    c.cell_at-4.ensures
    c.cell_at-5.ensures
    c.cell_at-6.ensures
    c.cell_at-7.ensures
    c.cell_at-8.ensures
