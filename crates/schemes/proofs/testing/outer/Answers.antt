-- `schemes::testing::outer`: a coordinate at either end of its side. Assumes nothing.
use mathlib.Core.Path.{◌≡◌}
use mathlib.Core.Bool.{true}
use Prim.Native.Nat.{◌*◌, ◌/◌, ◌≤◌}
use native.Mathlib.Nat.{mod-le, div-le_self, mul-le-mul}
use native.Mathlib.Numerals.{add-one}
use native.Mathlib.Omega.{arith}
use Rattle.grid.specs.declared.Sides.{Sides}
use Rattle.grid.specs.Grid.{grid_of, box, sides_good, cells_of}
use Rattle.grid.proofs.GoodSides.{GoodSides, good-sides}
use Rattle.schemes.proofs.testing.outer.Goals as goal

plane : (s : Sides) → GoodSides s → 3 * 3 ≤ s.nx * s.ny
plane s g = mul-le-mul g.x.low g.y.low

wide : (s : Sides) → GoodSides s → s.nx * s.ny ≤ 128 * 128
wide s g = mul-le-mul g.x.high g.y.high

few : (s : Sides) → sides_good s ≡ true → cells_of s ≤ 262144
unfolding cells_of
few s e = (good-sides s e).all

pub nonzero_rem-x : goal.nonzero_rem-x
nonzero_rem-x c = let g = good-sides c.args.s c.requires.0 in omega (arith, g.x.low)

pub nonzero_div-y : goal.nonzero_div-y
nonzero_div-y c = let g = good-sides c.args.s c.requires.0 in omega (arith, g.x.low)

pub nonzero_rem-y : goal.nonzero_rem-y
nonzero_rem-y c = let g = good-sides c.args.s c.requires.0 in omega (arith, g.y.low)

pub overflow_mul-z : goal.overflow_mul-z
overflow_mul-z c = let s = c.args.s in let g = good-sides s c.requires.0 in record { fits = omega (arith, wide s g) }

pub nonzero_div-z : goal.nonzero_div-z
nonzero_div-z c = let s = c.args.s in let g = good-sides s c.requires.0 in omega (arith, plane s g)

pub overflow_add-result : goal.overflow_add-result
overflow_add-result c = let w = c in record { fits = omega (arith, mod-le w.args.c w.args.s.nx, few w.args.s w.requires.0, w.requires.1) }

pub overflow_add-result-2 : goal.overflow_add-result-2
overflow_add-result-2 c = let w = c in record { fits = omega (arith, mod-le (w.args.c / w.args.s.nx) w.args.s.ny, div-le_self w.args.c w.args.s.nx, few w.args.s w.requires.0, w.requires.1) }

pub overflow_add-result-3 : goal.overflow_add-result-3
overflow_add-result-3 c = let w = c in record { fits = omega (arith, div-le_self w.args.c (w.args.s.nx * w.args.s.ny), few w.args.s w.requires.0, w.requires.1) }

pub returns : goal.returns
unfolding grid_of box
returns c = simp add-one
