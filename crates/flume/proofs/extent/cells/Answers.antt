-- `flume::extent::cells` is N: the product of good sides fits. Assumes nothing.
use mathlib.Core.Path.{refl}
use Prim.Native.Nat.{◌*◌, ◌≤◌}
use native.Mathlib.Nat.{mul-le-mul}
use native.Mathlib.Omega.{arith}
use borrow.Author.Tests.{leb-true}
use lib.Dec.{leb}
use Rattle.whole.specs.laws.Bools.{and_left, and_right}
use Rattle.flume.specs.Flume.{flume_side_good, flume_sides_good, flume_cells}
use Rattle.flume.proofs.extent.cells.Goals as goal

pub overflow_mul-result : goal.overflow_mul-result
unfolding flume_sides_good
overflow_mul-result c =
    let s = c.args.s in
    let x = and_left (flume_side_good s.nx) (flume_side_good s.nz) c.requires in
    let z = and_right (flume_side_good s.nx) (flume_side_good s.nz) c.requires in
    let h : s.nx * s.nz ≤ 512 * 512 = mul-le-mul (leb-true s.nx 512 (and_right (leb 3 s.nx) (leb s.nx 512) x)) (leb-true s.nz 512 (and_right (leb 3 s.nz) (leb s.nz 512) z)) in
    record { fits = omega arith }

pub returns : goal.returns
unfolding flume_cells
returns c = refl
