-- `solids::walls::cell_wall`: outer on one of three axes, or among the column's walls. Assumes nothing.
use mathlib.Core.Path.{◌≡◌, sym, ◌∙◌}
use mathlib.Core.Bool.{true, false}
use Prim.Native.Nat.{◌*◌, ◌/◌, ◌%◌}
use native.Mathlib.Nat.{mod-le, div-le_self}
use native.Mathlib.Omega.{arith}
use borrow.Author.Tests.{lt-ltb, le-ltb}
use Rattle.grid.specs.Grid.{at_end}
use Rattle.solids.proofs.Spread.{plane, wall-x, wall-y, wall-z, wall-k}
use Rattle.solids.proofs.walls.cell_wall.Lts as lts
use Rattle.solids.proofs.walls.cell_wall.Reads as reads
use Rattle.solids.proofs.walls.cell_wall.Tie as tie
use Rattle.solids.proofs.walls.cell_wall.Goals as goal

abbrev At-Else-at_end : Type 0
At-Else-at_end = lts.Else1 tie.the-claims reads.Pre reads.Post tie.handed_clauses

abbrev At-Else-at_end-2 : Type 0
At-Else-at_end-2 = lts.Else2 tie.the-claims reads.Pre reads.Post tie.handed_clauses

-- what each test showed
inner-x : (c : At-Else-at_end) → at_end c.args.s.nx (c.args.c % c.args.s.nx) ≡ false
inner-x c = sym c.at_end.ensures ∙ c.if-at_end.false

inner-y : (c : At-Else-at_end-2) → at_end c.args.s.ny (c.args.c / c.args.s.nx % c.args.s.ny) ≡ false
inner-y c = sym c.at_end-2.ensures ∙ c.if-at_end-2.false

pub overflow_mul-z : goal.overflow_mul-z
overflow_mul-z c = omega (arith, (plane c.args.s c.requires.s_value).few)

pub nonzero_div-z : goal.nonzero_div-z
nonzero_div-z c = omega (arith, (plane c.args.s c.requires.s_value).some)

pub nonzero_rem-c : goal.nonzero_rem-c
nonzero_rem-c c = omega (arith, (plane c.args.s c.requires.s_value).x)

pub at_end-requires : goal.at_end-requires
at_end-requires c = omega (arith, mod-le c.args.c c.args.s.nx, c.requires.c_bound)

pub returns-then-at_end : goal.returns-then-at_end
returns-then-at_end c = wall-x _ _ _ (sym c.at_end.ensures ∙ c.if-at_end.true)

pub nonzero_div-c : goal.nonzero_div-c
nonzero_div-c c = omega (arith, (plane c.args.s c.requires.s_value).x)

pub nonzero_rem-c-2 : goal.nonzero_rem-c-2
nonzero_rem-c-2 c = omega (arith, (plane c.args.s c.requires.s_value).y)

pub at_end-requires-2 : goal.at_end-requires-2
at_end-requires-2 c =
    let a = c.args in
    omega (arith, mod-le (a.c / a.s.nx) a.s.ny, div-le_self a.c a.s.nx, c.requires.c_bound)

pub returns-then-at_end-2 : goal.returns-then-at_end-2
returns-then-at_end-2 c = wall-y _ _ _ (inner-x c.before.before) (sym c.at_end-2.ensures ∙ c.if-at_end-2.true)

pub at_end-requires-3 : goal.at_end-requires-3
at_end-requires-3 c =
    let a = c.args in
    omega (arith, div-le_self a.c (a.s.nx * a.s.ny), c.requires.c_bound)

pub returns-then-at_end-3 : goal.returns-then-at_end-3
returns-then-at_end-3 c = wall-z _ _ _ (inner-x c.before.before.before.before) (inner-y c.before.before) (sym c.at_end-3.ensures ∙ c.if-at_end-3.true)

pub returns-then-z-k : goal.returns-then-z-k
returns-then-z-k c = wall-k _ _ _ true (inner-x c.before.before.before.before.before) (inner-y c.before.before.before) (sym c.at_end-3.ensures ∙ c.if-at_end-3.false) (lt-ltb _ _ c.if-z-k.true)

pub returns : goal.returns
returns c = wall-k _ _ _ false (inner-x c.before.before.before.before.before) (inner-y c.before.before.before) (sym c.at_end-3.ensures ∙ c.if-at_end-3.false) (le-ltb _ _ c.if-z-k.false)
