-- `pumps::entry::check`: tests 1 and 2, and then 4 to 6. Assumes nothing.
use borrow.Author.Tests.{not-true, not-false}
use mathlib.Core.Path.{◌≡◌, sym, ◌∙◌}
use mathlib.Core.Bool.{true}
use native.Mathlib.Omega.{arith}
use Rattle.grid.specs.Grid.{sides_good, cells_of}
use Rattle.grid.specs.State.{Lent, lent}
use Rattle.grid.proofs.GoodSides.{good-sides}
use Rattle.pumps.specs.Three.{three_lengths}
use Rattle.pumps.proofs.Checked.{lengths-told, refuses-sides, refuses-lengths, then-checked}
use Rattle.pumps.proofs.entry.check.Lts as lts
use Rattle.pumps.proofs.entry.check.Reads as reads
use Rattle.pumps.proofs.entry.check.Tie as tie
use Rattle.pumps.proofs.entry.check.Goals as goal

abbrev At-Start : Type 0
At-Start = lts.Start tie.the-claims reads.Pre reads.Post

abbrev At-Else-not-good_sides : Type 0
At-Else-not-good_sides = lts.Else1 tie.the-claims reads.Pre reads.Post

abbrev At-Else-not-three_lengths : Type 0
At-Else-not-three_lengths = lts.Else2 tie.the-claims reads.Pre reads.Post

abbrev set : At-Start → Lent
set w = lent w.args.flags.now w.args.parts.now w.args.masses.now w.args.fills.now w.args.carry.now

-- ---- what each test that held has shown
abbrev first : At-Else-not-good_sides → At-Start
first c = c.before.before.before.before

sides : (c : At-Else-not-good_sides) → sides_good (first c).args.s ≡ true
sides c = sym c.good_sides.ensures ∙ not-false _ c.if-not-good_sides.false-raw

abbrev second : At-Else-not-three_lengths → At-Start
second c = first c.before.before.before

lengths : (c : At-Else-not-three_lengths) → three_lengths (cells_of (second c).args.s) (set (second c)) ≡ true
lengths c = lengths-told (second c).args.s (set (second c)) c.cells-n.ensures c.three_lengths.ensures (not-false _ c.if-not-three_lengths.false-raw)

pub returns-then-not-good_sides : goal.returns-then-not-good_sides
returns-then-not-good_sides c = let s = c in refuses-sides s.args.s (set s.before.before.before.before.before) (sym c.good_sides.ensures ∙ not-true _ c.if-not-good_sides.true-raw)

pub cells-n-requires : goal.cells-n-requires
cells-n-requires c = sides c.before

pub three_lengths-requires : goal.three_lengths-requires
unfolding cells_of
three_lengths-requires c = omega (arith, c.cells-n.ensures, (good-sides _ (sides c.before.before)).all)

pub returns-then-not-three_lengths : goal.returns-then-not-three_lengths
returns-then-not-three_lengths c =
    let e = c in
    let s = first e.before.before.before.before in
    refuses-lengths s.args.s (set s) (sides e.before.before.before.before)
    (lengths-told s.args.s (set s) c.cells-n.ensures c.three_lengths.ensures (not-true _ c.if-not-three_lengths.true-raw))

pub checked-requires : goal.checked-requires
checked-requires c = (sides c.before.before.before.before, lengths c.before)

pub returns : goal.returns
returns c = let d = c in c.checked.ensures ∙ then-checked (second d.before.before).args.s (set (second d.before.before)) (sides d.before.before.before.before.before) (lengths d.before.before)
