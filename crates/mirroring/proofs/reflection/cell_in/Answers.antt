-- `mirroring::reflection::cell_in` is the reflected cell: each coordinate by itself, and the number of the three. Assumes nothing.
use mathlib.Core.Path.{◌≡◌, sym, subst}
use Prim.Native.Nat.{ℕ, ◌+◌, ◌*◌, ◌≤◌, ◌<◌}
use native.Mathlib.Omega.{arith}
use Rattle.grid.specs.Grid.{cells_of}
use Rattle.mirroring.specs.inner.Between.{cell_in}
use Rattle.mirroring.proofs.Reflected.{number_is, column-low, row_low, plane-low, cell-low, on-the-way}
use Rattle.mirroring.proofs.reflection.cell_in.Lts as lts
use Rattle.mirroring.proofs.reflection.cell_in.Reads as reads
use Rattle.mirroring.proofs.reflection.cell_in.Tie as tie
use Rattle.mirroring.proofs.reflection.cell_in.Goals as goal

abbrev At-Start : Type 0
At-Start = lts.Start tie.the-claims reads.Pre reads.Post

abbrev At-After-flipped-z : Type 0
At-After-flipped-z = lts.After-flipped3 tie.the-claims reads.Pre reads.Post

-- where there is a cell there is a column, a row and a plane
some-x : (w : At-Start) → 1 ≤ w.args.s.nx
some-x w = omega (arith, column-low w.args.s w.args.axis w.args.c w.requires.1)

some-y : (w : At-Start) → 1 ≤ w.args.s.ny
some-y w = omega (arith, row_low w.args.s w.args.axis w.args.c w.requires.1)

-- all three coordinates are known
module _ (c : At-After-flipped-z) where
  abbrev w : At-Start
  w = c.before.before.before.before.before.before.before

  abbrev number : ℕ
  number = c.flipped-x.result + w.args.s.nx * (c.flipped-y.result + w.args.s.ny * c.flipped-z.result)

  is : number ≡ cell_in w.args.s w.args.axis w.args.c
  is = number_is w.args.s w.args.axis w.args.c c.flipped-x.ensures c.flipped-y.ensures c.flipped-z.ensures

  low : number < cells_of w.args.s
  low = subst (λ (m : ℕ). m < cells_of w.args.s) (sym is) (cell-low w.args.s w.args.axis w.args.c w.requires.1)

  small : number < 262144 + 1
  small = omega (arith, low, w.requires.0)

  ways : (w.args.s.ny * c.flipped-z.result < 262144 + 1) × (c.flipped-y.result + w.args.s.ny * c.flipped-z.result < 262144 + 1)
      × (w.args.s.nx * (c.flipped-y.result + w.args.s.ny * c.flipped-z.result) < 262144 + 1)
  ways = on-the-way w.args.s.nx w.args.s.ny c.flipped-x.result c.flipped-y.result c.flipped-z.result (262144 + 1) (some-x w) small

pub nonzero_div-row : goal.nonzero_div-row
nonzero_div-row c = omega (arith, some-x c.before)

pub nonzero_rem-c : goal.nonzero_rem-c
nonzero_rem-c c = omega (arith, some-x c.before.before)

pub flipped-x-requires : goal.flipped-x-requires
flipped-x-requires c = let w = c in column-low w.args.s w.args.axis w.args.c w.requires.1

pub nonzero_rem-row : goal.nonzero_rem-row
nonzero_rem-row c = omega (arith, some-y c.before.before.before.before)

pub flipped-y-requires : goal.flipped-y-requires
flipped-y-requires c = let w = c in row_low w.args.s w.args.axis w.args.c w.requires.1

pub nonzero_div-row-2 : goal.nonzero_div-row-2
nonzero_div-row-2 c = omega (arith, some-y c.before.before.before.before.before.before)

pub flipped-z-requires : goal.flipped-z-requires
flipped-z-requires c = let w = c in plane-low w.args.s w.args.axis w.args.c w.requires.1

pub overflow_mul-result : goal.overflow_mul-result
overflow_mul-result c = record { fits = omega (arith, (ways c.before).0) }

pub overflow_add-result : goal.overflow_add-result
overflow_add-result c = record { fits = omega (arith, (ways c.before).1) }

pub overflow_mul-result-2 : goal.overflow_mul-result-2
overflow_mul-result-2 c = record { fits = omega (arith, (ways c.before.before).2) }

pub overflow_add-result-2 : goal.overflow_add-result-2
overflow_add-result-2 c = record { fits = omega (arith, small c.before.before) }

pub returns : goal.returns
returns c = (is c.before.before, low c.before.before)
