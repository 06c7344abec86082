-- `invert::testing::given` tests sides, lengths and site, in this order. Assumes nothing.
use mathlib.Core.Path.{◌≡◌, sym, ◌∙◌, subst}
use mathlib.Core.Bool.{true}
use Prim.Native.Nat.{ℕ, ◌≤◌}
use borrow.Author.Tests.{not-true, not-false}
use Rattle.grid.specs.Grid.{sides_good, cells_of}
use Rattle.grid.proofs.GoodSides.{good-sides}
use Rattle.invert.specs.Outcome.{set_fits}
use Rattle.invert.proofs.Tested.{sides-bad, fits-bad, site-bad, given-good, fits-at}
use Rattle.invert.proofs.testing.given.Lts as lts
use Rattle.invert.proofs.testing.given.Reads as reads
use Rattle.invert.proofs.testing.given.Tie as tie
use Rattle.invert.proofs.testing.given.Goals as goal

abbrev At-Else-not-good_sides : Type 0
At-Else-not-good_sides = lts.Else1 tie.the-claims reads.Pre reads.Post

abbrev At-Else-not-set_fits : Type 0
At-Else-not-set_fits = lts.Else2 tie.the-claims reads.Pre reads.Post

sides-good : (c : At-Else-not-good_sides) → sides_good c.args.s ≡ true
sides-good c = sym c.good_sides.ensures ∙ not-false _ c.if-not-good_sides.false-raw

fits-good : (c : At-Else-not-set_fits) → let a = c.args in set_fits (cells_of a.s) a.l ≡ true
fits-good c =
    let a = c.args in
    fits-at a.s a.g a.t a.l c.cells.ensures c.set_fits.ensures (not-false _ c.if-not-set_fits.false-raw)

pub returns-then-not-good_sides : goal.returns-then-not-good_sides
returns-then-not-good_sides c =
    let a = c.args in
    sides-bad a.s a.g a.t a.l (sym c.good_sides.ensures ∙ not-true _ c.if-not-good_sides.true-raw)

pub cells-requires : goal.cells-requires
cells-requires c = sides-good c

pub set_fits-requires : goal.set_fits-requires
unfolding cells_of
set_fits-requires c =
    subst (λ (n : ℕ). n ≤ 262144) (sym c.cells.ensures) (good-sides c.args.s (sides-good c.before)).all

pub returns-then-not-set_fits : goal.returns-then-not-set_fits
returns-then-not-set_fits c =
    let a = c.args in
    fits-bad a.s a.g a.t a.l (sides-good c.before.before.before)
    (fits-at a.s a.g a.t a.l c.cells.ensures c.set_fits.ensures (not-true _ c.if-not-set_fits.true-raw))

pub returns-then-not-good_site : goal.returns-then-not-good_site
returns-then-not-good_site c =
    let a = c.args in
    site-bad a.s a.g a.t a.l (sides-good c.before.before.before.before.before) (fits-good c.before.before) (sym c.good_site.ensures ∙ not-true _ c.if-not-good_site.true-raw)

pub returns : goal.returns
returns c =
    let a = c.args in
    given-good a.s a.g a.t a.l (sides-good c.before.before.before.before.before) (fits-good c.before.before) (sym c.good_site.ensures ∙ not-false _ c.if-not-good_site.false-raw)
