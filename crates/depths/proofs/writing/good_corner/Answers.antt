-- `depths::writing::good_corner` joins the tests of edge and corner. Assumes nothing.
use mathlib.Core.Path.{ap₂}
use mathlib.Core.Bool.{◌&&◌}
use mir.Syntax.{w64}
use mir.Facts.{to_z-of_z}
use Rattle.depths.specs.Outcome.{corner_good}
use Rattle.depths.proofs.writing.good_corner.Goals as goal

pub returns : goal.returns
unfolding corner_good
returns c =
    let t = c.struct_told-3-1.given in
    let edge = rw (to_z-of_z {w = w64} (record { sfits = t.0.1 })) at c.good_edge.ensures in
    let x = rw (to_z-of_z {w = w64} (record { sfits = t.1.0.1 })) at c.good_coordinate.ensures in
    let y = rw (to_z-of_z {w = w64} (record { sfits = t.1.1.0.1 })) at c.good_coordinate-2.ensures in
    ap₂ ◌&&◌ (ap₂ ◌&&◌ edge x) y
