-- What the code promises of a value with several fields, part by part. Assumes nothing.
use Rattle.std.specs.Prelude.{◌≡◌, ◌+ℤ◌}
use Rattle.lattice.specs.declared.Flow.{Flow}
use Rattle.lattice.specs.declared.Settings.{Settings}
use Rattle.lattice.specs.Cell.{pull}

-- stage 3: gravity is added to each component, and to nothing else
pub record Pulled (v : Flow) (g : Settings) (r : Flow) : Type 0 where
  pub rho : r.rho ≡ v.rho
  pub x : r.x ≡ v.x +ℤ pull v.rho g.gx
  pub y : r.y ≡ v.y +ℤ pull v.rho g.gy
  pub z : r.z ≡ v.z +ℤ pull v.rho g.gz
