-- `flumegrid::fill::interface_fill9`: lattice's fill, by the density of the cell's own nine parts. Assumes nothing.
use mathlib.Core.Path.{◌≡◌, ◌∙◌, ap₂}
use Prim.Native.Nat.{◌≤◌}
use native.Mathlib.Omega.{arith}
use lib.IntN.{nat_abs}
use lib.Signed.{nat_abs-le}
use mir.Syntax.{w32, w64}
use mir.Val.{to_z, of_z}
use mir.Facts.{to_z-of_z}
use Rattle.lattice.specs.Lattice.{d3q19, density}
use Rattle.lattice.specs.Cell.{fill_of}
use Rattle.nine.specs.inner.Cells.{part_of9}
use Rattle.grid.proofs.Arrays.{density-is, bounded-is}
use Rattle.flumegrid.proofs.fill.interface_fill9.Lts as lts
use Rattle.flumegrid.proofs.fill.interface_fill9.Reads as reads
use Rattle.flumegrid.proofs.fill.interface_fill9.Tie as tie
use Rattle.flumegrid.proofs.fill.interface_fill9.Goals as goal

abbrev At-After-wide : Type 0
At-After-wide = lts.After-wide tie.the-claims reads.Pre reads.Post

abbrev At-After-density : Type 0
At-After-density = lts.After-density tie.the-claims reads.Pre reads.Post

-- the code's density
sum_of : (c : At-After-density) → let s = c in c.density.result ≡ density d3q19 (part_of9 s.args.parts.now s.args.c)
unfolding part_of9
sum_of c =
    let s = c in
    c.density.ensures ∙ density-is c.own9.result (part_of9 s.args.parts.now s.args.c) c.own9.ensures

density-of : (c : At-After-wide) → to_z w64 (of_z w64 c.wide.result) ≡ c.density.result
density-of c =
    to_z-of_z {w = w64} {z = c.wide.result} (record { sfits = c.wide.type_inv }) ∙ c.wide.ensures
    ∙ to_z-of_z {w = w32} {z = c.density.result} (record { sfits = c.density.type_inv })

pub density-requires : goal.density-requires
unfolding part_of9
density-requires c =
    let s = c in
    bounded-is c.own9.result (part_of9 s.args.parts.now s.args.c) c.own9.ensures s.requires.1.rest s.requires.1.each

pub part_fill-requires : goal.part_fill-requires
part_fill-requires c =
    let s = c in
    let few : nat_abs c.density.result ≤ 2147483648 = nat_abs-le c.density.result c.density.type_inv in
    (rw (density-of c, sum_of c.before) s.requires.1.some, rw (density-of c) (record { abs = omega arith }))

pub returns : goal.returns
returns c =
    let s = c in
    c.part_fill.ensures ∙ ap₂ fill_of (to_z-of_z s.ranges.m) (density-of c.before ∙ sum_of c.before.before)
