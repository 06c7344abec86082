-- `schemes::testing::open_at` is test 5's rule at one cell of the joined grid. Assumes nothing.
use mathlib.Core.Path.{◌∙◌}
use native.Mathlib.Omega.{arith}
use Rattle.schemes.proofs.Passing.{not-fluid, is-wall, above, within, fluid-open}
use Rattle.schemes.proofs.testing.open_at.Goals as goal

pub bounds-own-c : goal.bounds-own-c
bounds-own-c c = let w = c in omega (arith, w.requires.1, w.requires.0.marked.measured.own-size)

pub returns-then-own-c-ne2 : goal.returns-then-own-c-ne2
returns-then-own-c-ne2 c = let w = c in not-fluid w.requires.0 w.args.c w.requires.1 c.if-own-c-ne2.true

pub bounds-map-c : goal.bounds-map-c
bounds-map-c c = let w = c in omega (arith, w.requires.1, w.requires.0.marked.measured.map-size)

pub returns-then-map-c-eq1 : goal.returns-then-map-c-eq1
returns-then-map-c-eq1 c = let w = c in is-wall w.requires.0 w.args.c w.requires.1 c.if-map-c-eq1.true

pub overflow_sub-c : goal.overflow_sub-c
overflow_sub-c c = let w = c in above w.requires.0 w.args.c w.requires.1 c.if-own-c-ne2.false c.if-map-c-eq1.false

pub empty_beside-requires : goal.empty_beside-requires
empty_beside-requires c = let w = c in within w.requires.0 w.args.c w.requires.1 c.if-own-c-ne2.false c.if-map-c-eq1.false

pub returns : goal.returns
returns c = let w = c in c.empty_beside.ensures ∙ fluid-open w.requires.0 w.args.c w.requires.1 c.if-own-c-ne2.false c.if-map-c-eq1.false
