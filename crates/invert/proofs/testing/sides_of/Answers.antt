-- `invert::testing::sides_of` takes columns and rows as counts. Assumes nothing.
use mir.Syntax.{w64}
use mir.Facts.{to_z-of_z}
use Rattle.invert.proofs.Tested.{sides-by}
use Rattle.invert.proofs.testing.sides_of.Goals as goal

pub returns : goal.returns
returns c =
    let t = c.struct_told-2-1.given in
    sides-by c.args.f (rw (to_z-of_z {w = w64} (record { sfits = t.0.1 })) at c.count_of-nx.ensures) (rw (to_z-of_z {w = w64} (record { sfits = t.1.0.1 })) at c.count_of-ny.ensures)
