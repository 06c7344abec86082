-- A flow so far below the limit of speed that its collision cannot reach it, and how far a collision may take it. Assumes nothing.
use Rattle.std.specs.Prelude.{◌≡◌, Bool, List, ◌*◌, ◌≤◌, ℤ, pos, nat_abs, ◌-ℤ◌, ◌*ℤ◌}
use Rattle.std.specs.Int.Signed.{le_z}
use Rattle.lattice.specs.declared.Flow.{Flow}
use Rattle.lattice.specs.Lattice.{dot, d3q19, density, momentum}
use Rattle.lattice.specs.inner.Held.{parts_of, vec}

-- 10·|j|² ≤ ρ², where the rule is 9·|j|² ≤ ρ²
unfoldable pub gentle : Flow → Bool
gentle v = le_z (pos 10 *ℤ dot (vec v) (vec v)) (v.rho *ℤ v.rho)

-- parts that have the density of flow v, and its momentum but for a 128th of the density along each axis
pub record Follows (v : Flow) (f : List ℤ) : Type 0 where
  pub rho : density d3q19 (parts_of f) ≡ v.rho
  pub x : 128 * nat_abs ((momentum d3q19 (parts_of f)).x -ℤ v.x) ≤ nat_abs v.rho
  pub y : 128 * nat_abs ((momentum d3q19 (parts_of f)).y -ℤ v.y) ≤ nat_abs v.rho
  pub z : 128 * nat_abs ((momentum d3q19 (parts_of f)).z -ℤ v.z) ≤ nat_abs v.rho
