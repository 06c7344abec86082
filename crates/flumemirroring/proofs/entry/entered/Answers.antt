-- `flumemirroring::entry::entered`: the outcome's chain of tests, whatever is lent. Assumes nothing.
use borrow.Author.Tests.{not-true, not-false}
use mathlib.Core.Path.{◌≡◌, sym, ◌∙◌}
use mathlib.Core.Bool.{true, ◌&&◌}
use native.Mathlib.Omega.{arith}
use Rattle.grid.specs.State.{Lent, lent}
use Rattle.flume.specs.Flume.{flume_sides_good}
use Rattle.flumegrid.proofs.GoodSides.{few}
use Rattle.flumemirroring.proofs.Answers.{lengths, sides-refused, lengths-told, lengths-refused, axis-refused, then-tested, first_good}
use Rattle.flumemirroring.proofs.entry.entered.Lts as lts
use Rattle.flumemirroring.proofs.entry.entered.Reads as reads
use Rattle.flumemirroring.proofs.entry.entered.Tie as tie
use Rattle.flumemirroring.proofs.entry.entered.Goals as goal

abbrev At-Start : Type 0
At-Start = lts.Start tie.the-claims reads.Pre reads.Post

abbrev At-Else-not-good_sides : Type 0
At-Else-not-good_sides = lts.Else1 tie.the-claims reads.Pre reads.Post

abbrev At-Else-not-first-second : Type 0
At-Else-not-first-second = lts.Else2 tie.the-claims reads.Pre reads.Post

abbrev first : At-Start → Lent
first w = lent w.args.flags.now w.args.parts.now w.args.masses.now w.args.fills.now w.args.carry.now

abbrev second : At-Start → Lent
second w = lent w.args.flags2.now w.args.parts2.now w.args.masses2.now w.args.fills2.now w.args.carry2.now

-- test 1 has passed
sides-good : (d : At-Else-not-good_sides) → flume_sides_good d.args.s ≡ true
sides-good d = sym d.good_sides.ensures ∙ not-false _ d.if-not-good_sides.false-raw

-- test 2 has passed
module _ (d : At-Else-not-first-second) where
  abbrev w : At-Start
  w = d.before.before.before.before.before.before.before.before.before.before

  sides : flume_sides_good w.args.s ≡ true
  sides = sides-good d.before.before.before.before

  lengths-good : lengths w.args.s w.args.axis (first w) (second w) ≡ true
  lengths-good =
      let both : (d.good_lengths9-first.result && d.good_lengths9-second.result) ≡ true = search in
      sym (lengths-told w.args.s w.args.axis (first w) (second w) d.cells-n.ensures d.good_lengths9-first.ensures d.good_lengths9-second.ensures) ∙ both

pub returns-then-not-good_sides : goal.returns-then-not-good_sides
returns-then-not-good_sides c = let t = c in sides-refused t.args.s t.args.axis (first t.before.before.before.before.before.before.before) (second t.before.before.before.before.before.before.before) (sym c.good_sides.ensures ∙ not-true _ c.if-not-good_sides.true-raw)

pub cells-n-requires : goal.cells-n-requires
cells-n-requires c = sides-good c.before

pub good_lengths9-first-requires : goal.good_lengths9-first-requires
good_lengths9-first-requires c = omega (arith, c.cells-n.ensures, few _ (sides-good c.before.before))

pub good_lengths9-second-requires : goal.good_lengths9-second-requires
good_lengths9-second-requires c = omega (arith, c.cells-n.ensures, few _ (sides-good c.before.before.before))

pub returns-then-not-first-second : goal.returns-then-not-first-second
returns-then-not-first-second c =
    let t = c in
    lengths-refused t.args.s t.args.axis (first t.before.before.before.before.before.before.before.before.before.before.before) (second t.before.before.before.before.before.before.before.before.before.before.before) (sides-good c.before.before.before.before.before)
    (sym (lengths-told t.args.s t.args.axis (first t.before.before.before.before.before.before.before.before.before.before.before) (second t.before.before.before.before.before.before.before.before.before.before.before) c.cells-n.ensures c.good_lengths9-first.ensures c.good_lengths9-second.ensures)
    ∙ not-true _ c.if-not-first-second.true-raw)

pub returns-then-not-good_axis : goal.returns-then-not-good_axis
returns-then-not-good_axis c =
    let d = c in
    let t = w d.before.before.before in
    axis-refused t.args.s t.args.axis (first t) (second t) (sides d.before.before.before) (lengths-good d.before.before.before) (sym c.good_axis.ensures ∙ not-true _ c.if-not-good_axis.true-raw)

pub checked9-requires : goal.checked9-requires
checked9-requires c =
    let d = c in
    let t = w d.before.before.before in
    (sides d.before.before.before, first_good t.args.s t.args.axis (first t) (second t) (sides d.before.before.before) (lengths-good d.before.before.before))

pub returns : goal.returns
returns c =
    let d = c in
    let t = w d.before.before.before.before in
    c.checked9.ensures
    ∙ then-tested t.args.s t.args.axis (first t) (second t) (sides d.before.before.before.before) (lengths-good d.before.before.before.before) (sym c.good_axis.ensures ∙ not-false _ c.if-not-good_axis.false-raw)
