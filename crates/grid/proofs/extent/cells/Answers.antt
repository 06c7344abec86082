-- `grid::extent::cells` is N: the products of good sides fit. Assumes nothing.
use mathlib.Core.Path.{refl}
use Prim.Native.Nat.{◌*◌, ◌≤◌}
use native.Mathlib.Nat.{mul-le-mul}
use native.Mathlib.Omega.{arith}
use Rattle.grid.specs.Grid.{cells_of}
use Rattle.grid.proofs.GoodSides.{good-sides}
use Rattle.grid.proofs.extent.cells.Goals as goal

pub overflow_mul-result : goal.overflow_mul-result
overflow_mul-result c =
    let s = c.args.s in
    let h : s.ny * s.nz ≤ 128 * 128 = mul-le-mul (good-sides s c.requires).y.high (good-sides s c.requires).z.high in
    record { fits = omega arith }

pub overflow_mul-result-2 : goal.overflow_mul-result-2
overflow_mul-result-2 c = record { fits = omega (arith, (good-sides c.args.s c.requires).all) }

pub returns : goal.returns
unfolding cells_of
returns c = refl
