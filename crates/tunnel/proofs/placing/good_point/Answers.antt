-- `tunnel::placing::good_point`: each coordinate by itself. Assumes nothing.
use mir.Syntax.{w64}
use mir.ValLaws.{to_z-of_z}
use Rattle.tunnel.specs.Place.{point_good}
use Rattle.tunnel.proofs.placing.good_point.Goals as goal

pub returns : goal.returns
unfolding point_good
returns c =
    let p = c.args.p in
    let fits = c.struct_told-3-1.given in
    let x = rw (to_z-of_z w64 p.x (record { sfits = fits.0.1 })) at c.good_coordinate.ensures in
    let y = rw (to_z-of_z w64 p.y (record { sfits = fits.1.0.1 })) at c.good_coordinate-2.ensures in
    let z = rw (to_z-of_z w64 p.z (record { sfits = fits.1.1.0.1 })) at c.good_coordinate-3.ensures in
    simp (x, y, z)
