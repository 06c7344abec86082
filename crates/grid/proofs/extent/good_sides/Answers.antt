-- `grid::extent::good_sides` is test 1: each side by itself, then the product, which fits by then. Assumes nothing.
use borrow.Author.Tests.{not-true, not-false}
use mathlib.Core.Path.{◌≡◌, sym, ◌∙◌}
use mathlib.Core.Bool.{true}
use Prim.Native.Nat.{◌*◌, ◌≤◌}
use native.Mathlib.Nat.{mul-le-mul}
use native.Mathlib.Omega.{arith}
use Rattle.grid.specs.Grid.{side_good, sides_good, cells_of}
use Rattle.grid.proofs.GoodSides.{side}
use Rattle.grid.proofs.extent.good_sides.Lts as lts
use Rattle.grid.proofs.extent.good_sides.Reads as reads
use Rattle.grid.proofs.extent.good_sides.Tie as tie
use Rattle.grid.proofs.extent.good_sides.Goals as goal

abbrev At-Else-not-good_side : Type 0
At-Else-not-good_side = lts.Else1 tie.the-claims reads.Pre reads.Post

abbrev At-Else-not-good_side-2 : Type 0
At-Else-not-good_side-2 = lts.Else2 tie.the-claims reads.Pre reads.Post

abbrev At-Else-not-good_side-3 : Type 0
At-Else-not-good_side-3 = lts.Else3 tie.the-claims reads.Pre reads.Post

-- what each test that held has shown
x-good : (c : At-Else-not-good_side) → side_good c.args.s.nx ≡ true
x-good c = sym c.good_side.ensures ∙ not-false _ c.if-not-good_side.false-raw

y-good : (c : At-Else-not-good_side-2) → side_good c.args.s.ny ≡ true
y-good c = sym c.good_side-2.ensures ∙ not-false _ c.if-not-good_side-2.false-raw

z-good : (c : At-Else-not-good_side-3) → side_good c.args.s.nz ≡ true
z-good c = sym c.good_side-3.ensures ∙ not-false _ c.if-not-good_side-3.false-raw

pub returns-then-not-good_side : goal.returns-then-not-good_side
unfolding sides_good
returns-then-not-good_side c = simp (sym c.good_side.ensures ∙ not-true _ c.if-not-good_side.true-raw)

pub returns-then-not-good_side-2 : goal.returns-then-not-good_side-2
unfolding sides_good
returns-then-not-good_side-2 c = simp (x-good c.before.before, sym c.good_side-2.ensures ∙ not-true _ c.if-not-good_side-2.true-raw)

pub returns-then-not-good_side-3 : goal.returns-then-not-good_side-3
unfolding sides_good
returns-then-not-good_side-3 c =
    simp (x-good c.before.before.before.before, y-good c.before.before, sym c.good_side-3.ensures ∙ not-true _ c.if-not-good_side-3.true-raw)

pub overflow_mul-result : goal.overflow_mul-result
overflow_mul-result c =
    let s = c.args.s in
    let h : s.ny * s.nz ≤ 128 * 128 = mul-le-mul (side s.ny (y-good c.before.before.before)).high (side s.nz (z-good c.before)).high in
    record { fits = omega arith }

pub overflow_mul-result-2 : goal.overflow_mul-result-2
overflow_mul-result-2 c =
    let d = c.before.before in
    let s = d.args.s in
    let h : s.ny * s.nz ≤ 128 * 128 = mul-le-mul (side s.ny (y-good d.before.before)).high (side s.nz (z-good d)).high in
    let k : s.nx * (s.ny * s.nz) ≤ 128 * 16384 = mul-le-mul (side s.nx (x-good d.before.before.before.before)).high h in
    record { fits = omega arith }

pub returns : goal.returns
unfolding sides_good cells_of
returns c =
    let d = c.before.before in
    simp (x-good d.before.before.before.before, y-good d.before.before, z-good d)
