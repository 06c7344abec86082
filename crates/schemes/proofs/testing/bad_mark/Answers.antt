-- `schemes::testing::bad_mark` is the negation of test 4's rule. Assumes nothing.
use mathlib.Core.Path.{◌∙◌}
use native.Mathlib.Omega.{arith}
use Rattle.grid.specs.Grid.{grid_of}
use Rattle.schemes.proofs.Passing.{high-map, high-own, at-wall, by-layer}
use Rattle.schemes.proofs.testing.bad_mark.Goals as goal

pub returns-then-m-gt1 : goal.returns-then-m-gt1
returns-then-m-gt1 c = let w = c.args in high-map w.m w.f ((grid_of w.s).outer w.c) (omega (arith, c.if-m-gt1.true))

pub returns-then-f-gt2 : goal.returns-then-f-gt2
returns-then-f-gt2 c = let w = c.args in high-own w.m w.f ((grid_of w.s).outer w.c) (omega (arith, c.if-m-gt1.false)) (omega (arith, c.if-f-gt2.true))

pub returns-then-m-eq1 : goal.returns-then-m-eq1
returns-then-m-eq1 c = let w = c.args in at-wall w.m w.f ((grid_of w.s).outer w.c) c.if-m-eq1.true (omega arith)

pub returns : goal.returns
returns c = let w = c.args in c.outer.ensures ∙ by-layer w.m w.f ((grid_of w.s).outer w.c) (omega arith) (omega arith) c.if-m-eq1.false
