-- `flumegrid::entry::entered`: tests 1 to 6 in the outcome's order. Assumes nothing.
use borrow.Author.Tests.{not-true, not-false}
use mathlib.Core.Path.{◌≡◌, sym, ◌∙◌}
use mathlib.Core.Bool.{true}
use native.Mathlib.Omega.{arith}
use Rattle.grid.specs.State.{Lent, lent}
use Rattle.grid.specs.Outcome.{settings_good}
use Rattle.flume.specs.Flume.{flume_sides_good, level_settings}
use Rattle.flumegrid.proofs.GoodSides.{few}
use Rattle.flumegrid.proofs.Entrance.{lengths, lengths-told, refuses-sides, refuses-lengths, refuses-settings, first_good, then-good}
use Rattle.flumegrid.proofs.entry.entered.Lts as lts
use Rattle.flumegrid.proofs.entry.entered.Reads as reads
use Rattle.flumegrid.proofs.entry.entered.Tie as tie
use Rattle.flumegrid.proofs.entry.entered.Goals as goal

abbrev At-Start : Type 0
At-Start = lts.Start tie.the-claims reads.Pre reads.Post

abbrev At-Else-not-good_sides : Type 0
At-Else-not-good_sides = lts.Else1 tie.the-claims reads.Pre reads.Post

abbrev At-Else-not-first-second : Type 0
At-Else-not-first-second = lts.Else2 tie.the-claims reads.Pre reads.Post

abbrev At-Else-not-good_settings : Type 0
At-Else-not-good_settings = lts.Else3 tie.the-claims reads.Pre reads.Post

abbrev first : At-Start → Lent
first w = lent w.args.flags.now w.args.parts.now w.args.masses.now w.args.fills.now w.args.carry.now

abbrev second : At-Start → Lent
second w = lent w.args.flags2.now w.args.parts2.now w.args.masses2.now w.args.fills2.now w.args.carry2.now

sides-good : (d : At-Else-not-good_sides) → flume_sides_good d.args.s ≡ true
sides-good d = sym d.good_sides.ensures ∙ not-false _ d.if-not-good_sides.false-raw

-- test 2 has passed
module _ (d : At-Else-not-first-second) where
  abbrev w : At-Start
  w = d.before.before.before.before.before.before.before.before.before.before.before

  lengths-good : lengths w.args.s w.args.g (first w) (second w) w.args.marks.now ≡ true
  lengths-good =
      sym (lengths-told w.args.s w.args.g (first w) (second w) w.args.marks.now d.cells-n.ensures d.good_lengths9-first.ensures d.good_lengths9-second.ensures)
      ∙ not-false _ (search)

settings-good : (d : At-Else-not-good_settings) → settings_good (level_settings d.args.g) ≡ true
settings-good d = sym d.good_settings.ensures ∙ not-false _ d.if-not-good_settings.false-raw

pub returns-then-not-good_sides : goal.returns-then-not-good_sides
returns-then-not-good_sides c = let t = c in refuses-sides t.args.s t.args.g (first t.before.before.before.before.before.before.before.before) (second t.before.before.before.before.before.before.before.before) t.args.marks.now (sym c.good_sides.ensures ∙ not-true _ c.if-not-good_sides.true-raw)

pub cells-n-requires : goal.cells-n-requires
cells-n-requires c = sides-good c.before

pub good_lengths9-first-requires : goal.good_lengths9-first-requires
good_lengths9-first-requires c = omega (arith, c.cells-n.ensures, few _ (sides-good c.before.before))

pub good_lengths9-second-requires : goal.good_lengths9-second-requires
good_lengths9-second-requires c = omega (arith, c.cells-n.ensures, few _ (sides-good c.before.before.before))

pub returns-then-not-first-second : goal.returns-then-not-first-second
returns-then-not-first-second c =
    let t = c in
    refuses-lengths t.args.s t.args.g (first t.before.before.before.before.before.before.before.before.before.before.before.before) (second t.before.before.before.before.before.before.before.before.before.before.before.before) t.args.marks.now (sides-good c.before.before.before.before.before)
    (sym (lengths-told t.args.s t.args.g (first t.before.before.before.before.before.before.before.before.before.before.before.before) (second t.before.before.before.before.before.before.before.before.before.before.before.before) t.args.marks.now c.cells-n.ensures c.good_lengths9-first.ensures c.good_lengths9-second.ensures)
    ∙ not-true _ c.if-not-first-second.true-raw)

pub returns-then-not-good_settings : goal.returns-then-not-good_settings
returns-then-not-good_settings c =
    let t = c in
    refuses-settings t.args.s t.args.g (first t.before.before.before.before.before.before.before.before.before.before.before.before.before.before) (second t.before.before.before.before.before.before.before.before.before.before.before.before.before.before) t.args.marks.now (sides-good c.before.before.before.before.before.before.before) (lengths-good c.before.before.before)
    (sym c.good_settings.ensures ∙ not-true _ c.if-not-good_settings.true-raw)

pub checked9-requires : goal.checked9-requires
checked9-requires c =
    let t = c in
    (sides-good c.before.before.before.before.before.before.before, first_good t.args.s t.args.g (first t.before.before.before.before.before.before.before.before.before.before.before.before.before.before) (second t.before.before.before.before.before.before.before.before.before.before.before.before.before.before) t.args.marks.now (sides-good c.before.before.before.before.before.before.before) (lengths-good c.before.before.before))

pub returns : goal.returns
returns c =
    let t = c in
    c.checked9.ensures
    ∙ then-good t.args.s t.args.g (first t.before.before.before.before.before.before.before.before.before.before.before.before.before.before.before) (second t.before.before.before.before.before.before.before.before.before.before.before.before.before.before.before) t.args.marks.now (sides-good c.before.before.before.before.before.before.before.before) (lengths-good c.before.before.before.before) (settings-good c.before.before)
