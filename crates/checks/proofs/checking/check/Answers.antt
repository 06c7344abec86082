-- `checks::checking::check` is the whole check: sides, lengths, then tests 4 to 6. Assumes nothing.
use borrow.Author.Tests.{not-true, not-false}
use mathlib.Core.Path.{◌≡◌, sym, ◌∙◌}
use mathlib.Core.Bool.{true}
use native.Mathlib.Omega.{arith}
use Rattle.grid.specs.Grid.{sides_good, cells_of}
use Rattle.grid.specs.State.{Lent, lent}
use Rattle.grid.proofs.GoodSides.{good-sides}
use Rattle.grid.proofs.Checks.{refuses-sides, refuses-lengths, lengths-good, then-checked}
use Rattle.checks.proofs.checking.check.Lts as lts
use Rattle.checks.proofs.checking.check.Reads as reads
use Rattle.checks.proofs.checking.check.Tie as tie
use Rattle.checks.proofs.checking.check.Goals as goal

abbrev At-Start : Type 0
At-Start = lts.Start tie.the-claims reads.Pre reads.Post

abbrev At-Else-not-good_sides : Type 0
At-Else-not-good_sides = lts.Else1 tie.the-claims reads.Pre reads.Post

abbrev own : At-Start → Lent
own c = lent c.args.flags.now c.args.parts.now c.args.masses.now c.args.fills.now c.args.carry.now

sides-good : (c : At-Else-not-good_sides) → sides_good c.args.s ≡ true
sides-good c = sym c.good_sides.ensures ∙ not-false _ c.if-not-good_sides.false-raw

pub returns-then-not-good_sides : goal.returns-then-not-good_sides
returns-then-not-good_sides c = refuses-sides _ (own c.before.before.before.before.before) (sym c.good_sides.ensures ∙ not-true _ c.if-not-good_sides.true-raw)

pub cells-n-requires : goal.cells-n-requires
cells-n-requires c = sides-good c.before

pub good_lengths-requires : goal.good_lengths-requires
unfolding cells_of
good_lengths-requires c = omega (arith, c.cells-n.ensures, (good-sides _ (sides-good c.before.before)).all)

pub returns-then-not-good_lengths : goal.returns-then-not-good_lengths
returns-then-not-good_lengths c =
    refuses-lengths _ (own c.before.before.before.before.before.before.before.before) (sides-good c.before.before.before.before) _ c.cells-n.ensures (sym c.good_lengths.ensures ∙ not-true _ c.if-not-good_lengths.true-raw)

pub checked-requires : goal.checked-requires
checked-requires c =
    (sides-good c.before.before.before.before, lengths-good _ (own c.before.before.before.before.before.before.before.before) (sides-good c.before.before.before.before) _ c.cells-n.ensures (sym c.good_lengths.ensures ∙ not-false _ c.if-not-good_lengths.false-raw))

pub returns : goal.returns
returns c =
    let d = c in
    c.checked.ensures ∙ then-checked _ (own d.before.before.before.before.before.before.before.before.before) (sides-good d.before.before.before.before.before) _ d.cells-n.ensures (sym d.good_lengths.ensures ∙ not-false _ d.if-not-good_lengths.false-raw)
