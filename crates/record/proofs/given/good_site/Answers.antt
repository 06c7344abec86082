-- `record::given::good_site` joins the tests of settings, edge and origin. Assumes nothing.
use mathlib.Core.Path.{ap₂}
use mir.Syntax.{w64}
use mathlib.Core.Bool.{◌&&◌}
use mir.Facts.{to_z-of_z}
use Rattle.record.specs.Layout.{site_good}
use Rattle.grid.specs.Outcome.{settings_good}
use Rattle.record.proofs.given.good_site.Goals as goal

pub returns : goal.returns
unfolding site_good settings_good
returns c =
    let t = c.struct_told-4-1.given in
    let edge = rw (to_z-of_z {w = w64} (record { sfits = t.0.1 })) at c.good_edge.ensures in
    let x = rw (to_z-of_z {w = w64} (record { sfits = t.1.0.1 })) at c.good_coordinate.ensures in
    let y = rw (to_z-of_z {w = w64} (record { sfits = t.1.1.0.1 })) at c.good_coordinate-2.ensures in
    let z = rw (to_z-of_z {w = w64} (record { sfits = t.1.1.1.0.1 })) at c.good_coordinate-3.ensures in
    ap₂ ◌&&◌ (ap₂ ◌&&◌ (ap₂ ◌&&◌ (ap₂ ◌&&◌ c.good_settings.ensures edge) x) y) z
