-- `lattice::limits::good_settings`: its two tests are the definition's, of fields that fit. Assumes nothing.
use mathlib.Core.Path.{ap₂}
use mathlib.Core.Bool.{◌&&◌}
use mir.Syntax.{w64}
use mir.Facts.{to_z-of_z}
use Rattle.lattice.proofs.limits.good_settings.Goals as goal

pub returns : goal.returns
returns c =
    let t = c.struct_told-4-1.given in
    ap₂ ◌&&◌
    (rw (to_z-of_z {w = w64} (record { sfits = t.0.1 })) at c.good_relaxation.ensures)
    (rw (to_z-of_z {w = w64} (record { sfits = t.1.0.1 }), to_z-of_z {w = w64} (record { sfits = t.1.1.0.1 }), to_z-of_z {w = w64} (record { sfits = t.1.1.1.0.1 })) at c.good_gravity.ensures)
