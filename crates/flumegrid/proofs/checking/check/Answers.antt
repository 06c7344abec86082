-- `flumegrid::checking::check` is the whole check of a flume: sides, lengths, then tests 4 to 6. Assumes nothing.
use borrow.Author.Tests.{not-true, not-false}
use mathlib.Core.Path.{◌≡◌, sym, ◌∙◌}
use mathlib.Core.Bool.{true}
use native.Mathlib.Omega.{arith}
use Rattle.flume.specs.Flume.{flume_sides_good, flume_cells, flume_lengths}
use Rattle.grid.specs.State.{Lent, lent}
use Rattle.flumegrid.proofs.GoodSides.{few}
use Rattle.flumegrid.proofs.Checks.{refuses-sides, refuses-lengths, lengths-are, sized, then-checked}
use Rattle.flumegrid.proofs.checking.check.Lts as lts
use Rattle.flumegrid.proofs.checking.check.Reads as reads
use Rattle.flumegrid.proofs.checking.check.Tie as tie
use Rattle.flumegrid.proofs.checking.check.Goals as goal

abbrev At-Start : Type 0
At-Start = lts.Start tie.the-claims reads.Pre reads.Post

abbrev At-Else-not-good_sides : Type 0
At-Else-not-good_sides = lts.Else1 tie.the-claims reads.Pre reads.Post

abbrev At-After-good_lengths9 : Type 0
At-After-good_lengths9 = lts.After-good_lengths9 tie.the-claims reads.Pre reads.Post

abbrev own : At-Start → Lent
own c = lent c.args.flags.now c.args.parts.now c.args.masses.now c.args.fills.now c.args.carry.now

sides-good : (c : At-Else-not-good_sides) → flume_sides_good c.args.s ≡ true
sides-good c = sym c.good_sides.ensures ∙ not-false _ c.if-not-good_sides.false-raw

-- the code's test of the lengths
told : (c : At-After-good_lengths9) → let t = c in c.good_lengths9.result ≡ flume_lengths (flume_cells t.args.s) (own t.before.before.before.before.before.before)
told c = lengths-are _ (own c.before.before.before.before.before.before) c.cells-n.ensures c.good_lengths9.ensures

pub returns-then-not-good_sides : goal.returns-then-not-good_sides
returns-then-not-good_sides c = refuses-sides _ (own c.before.before.before.before.before) (sym c.good_sides.ensures ∙ not-true _ c.if-not-good_sides.true-raw)

pub cells-n-requires : goal.cells-n-requires
cells-n-requires c = sides-good c.before

pub good_lengths9-requires : goal.good_lengths9-requires
good_lengths9-requires c = omega (arith, c.cells-n.ensures, few _ (sides-good c.before.before))

pub returns-then-not-good_lengths9 : goal.returns-then-not-good_lengths9
returns-then-not-good_lengths9 c = refuses-lengths _ (own c.before.before.before.before.before.before.before.before) (sides-good c.before.before.before.before) (sym (told c.before.before) ∙ not-true _ c.if-not-good_lengths9.true-raw)

pub checked9-requires : goal.checked9-requires
checked9-requires c = (sides-good c.before.before.before.before, sized _ (own c.before.before.before.before.before.before.before.before) (sym (told c.before.before) ∙ not-false _ c.if-not-good_lengths9.false-raw))

pub returns : goal.returns
returns c =
    let d = c in
    c.checked9.ensures ∙ then-checked _ (own d.before.before.before.before.before.before.before.before.before) (sides-good d.before.before.before.before.before) (sym (told d.before.before.before) ∙ not-false _ d.if-not-good_lengths9.false-raw)
