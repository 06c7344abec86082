-- `grid::neighbours::cell_at` is the cell number: with good sides no product is large. Assumes nothing.
use Prim.Native.Nat.{◌+◌, ◌*◌, ◌≤◌}
use native.Mathlib.Nat.{mul-le-mul}
use native.Mathlib.Omega.{arith}
use Rattle.grid.proofs.GoodSides.{good-sides}
use Rattle.grid.proofs.neighbours.cell_at.Lts as lts
use Rattle.grid.proofs.neighbours.cell_at.Reads as reads
use Rattle.grid.proofs.neighbours.cell_at.Goals as goal

abbrev At-Start : Type 0
At-Start = lts.Start reads.Pre reads.Post

rows : (c : At-Start) → c.args.s.ny * c.args.z ≤ 128 * 2
rows c = mul-le-mul (good-sides c.args.s c.requires.0).y.high c.requires.3

planes : (c : At-Start) → c.args.s.nx * (c.args.y + c.args.s.ny * c.args.z) ≤ 128 * (2 + 256)
planes c =
    let h : c.args.y + c.args.s.ny * c.args.z ≤ 2 + 256 = omega (arith, c.requires.2, rows c) in
    mul-le-mul (good-sides c.args.s c.requires.0).x.high h

pub overflow_mul-result : goal.overflow_mul-result
overflow_mul-result c = record { fits = omega (arith, rows c.before) }

pub overflow_add-result : goal.overflow_add-result
overflow_add-result c = record { fits = omega (arith, rows c.before) }

pub overflow_mul-result-2 : goal.overflow_mul-result-2
overflow_mul-result-2 c = record { fits = omega (arith, planes c.before.before) }

pub overflow_add-result-2 : goal.overflow_add-result-2
overflow_add-result-2 c = record { fits = omega (arith, planes c.before.before) }
