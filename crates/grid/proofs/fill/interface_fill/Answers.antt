-- `grid::fill::interface_fill`: lattice's fill, by the density of the cell's own parts. Assumes nothing.
use mathlib.Core.Path.{◌≡◌, ◌∙◌, ap₂}
use Prim.Native.Nat.{◌≤◌}
use native.Mathlib.Omega.{arith}
use lib.IntN.{nat_abs}
use lib.Signed.{nat_abs-le}
use mir.Syntax.{w32, w64}
use mir.Val.{to_z, of_z}
use mir.Facts.{to_z-of_z}
use Rattle.lattice.specs.Lattice.{d3q19, density}
use Rattle.lattice.specs.Cell.{fill_of}
use Rattle.grid.specs.State.{part_of}
use Rattle.grid.proofs.Arrays.{density-is, bounded-is}
use Rattle.grid.proofs.fill.interface_fill.Lts as lts
use Rattle.grid.proofs.fill.interface_fill.Reads as reads
use Rattle.grid.proofs.fill.interface_fill.Tie as tie
use Rattle.grid.proofs.fill.interface_fill.Goals as goal

abbrev At-After-density : Type 0
At-After-density = lts.After-density tie.the-claims reads.Pre reads.Post

-- the code's density
sum_of : (c : At-After-density) → let s = c.before.before in c.density.result ≡ density d3q19 (part_of s.args.parts.now s.args.c)
sum_of c =
    let s = c.before.before in
    c.density.ensures ∙ density-is c.own.result (part_of s.args.parts.now s.args.c) c.own.ensures

density-of : (c : goal.After-wide) → to_z w64 (of_z w64 c.wide.result) ≡ c.density.result
density-of c =
    to_z-of_z {w = w64} {z = c.wide.result} (record { sfits = c.wide.type_inv }) ∙ c.wide.ensures
    ∙ to_z-of_z {w = w32} {z = c.density.result} (record { sfits = c.density.type_inv })

pub density-requires : goal.density-requires
density-requires c =
    let s = c.before in
    bounded-is c.own.result (part_of s.args.parts.now s.args.c) c.own.ensures s.requires.1.rest s.requires.1.each

pub part_fill-requires : goal.part_fill-requires
part_fill-requires c =
    let s = c.before.before.before in
    let few : nat_abs c.density.result ≤ 2147483648 = nat_abs-le c.density.result c.density.type_inv in
    (rw (density-of c, sum_of c.before) s.requires.1.some, rw (density-of c) (record { abs = omega arith }))

pub returns : goal.returns
returns c =
    let s = c.before.before.before.before in
    c.part_fill.ensures ∙ ap₂ fill_of (to_z-of_z s.ranges.m) (density-of c.before ∙ sum_of c.before.before)
