-- `flumegrid::neighbours::cell_at` is the cell number: with good sides the product is small. Assumes nothing.
use Prim.Native.Nat.{◌*◌, ◌≤◌}
use native.Mathlib.Nat.{mul-le-mul}
use native.Mathlib.Omega.{arith}
use Rattle.flumegrid.proofs.GoodSides.{good-sides}
use Rattle.flumegrid.proofs.neighbours.cell_at.Lts as lts
use Rattle.flumegrid.proofs.neighbours.cell_at.Reads as reads
use Rattle.flumegrid.proofs.neighbours.cell_at.Goals as goal

abbrev At-Start : Type 0
At-Start = lts.Start reads.Pre reads.Post

rows : (c : At-Start) → c.args.s.nx * c.args.z ≤ 512 * 2
rows c = mul-le-mul (good-sides c.args.s c.requires.0).x.high c.requires.2

pub overflow_mul-result : goal.overflow_mul-result
overflow_mul-result c = record { fits = omega (arith, rows c.before) }

pub overflow_add-result : goal.overflow_add-result
overflow_add-result c = record { fits = omega (arith, rows c.before) }
