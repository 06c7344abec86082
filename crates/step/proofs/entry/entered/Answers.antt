-- `step::entry::entered`: tests 1 to 6 in the outcome's order. Assumes nothing.
use borrow.Author.Tests.{not-true, not-false}
use mathlib.Core.Path.{◌≡◌, sym, ◌∙◌}
use mathlib.Core.Bool.{true, ◌&&◌}
use native.Mathlib.Omega.{arith}
use lib.Dec.{eqb}
use lib.ListN.{length}
use Rattle.grid.specs.Grid.{sides_good, cells_of}
use Rattle.grid.specs.State.{Lent, lent}
use Rattle.grid.specs.Outcome.{lengths_good, settings_good}
use Rattle.step.proofs.Entrance.{lengths-told, settings-told, refuses-sides, refuses-lengths, refuses-settings, first_good, then-good}
use Rattle.grid.proofs.Inside.{few}
use Rattle.step.proofs.entry.entered.Lts as lts
use Rattle.step.proofs.entry.entered.Reads as reads
use Rattle.step.proofs.entry.entered.Tie as tie
use Rattle.step.proofs.entry.entered.Goals as goal

abbrev At-Start : Type 0
At-Start = lts.Start tie.the-claims reads.Pre reads.Post

abbrev At-Else-not-good_sides : Type 0
At-Else-not-good_sides = lts.Else1 tie.the-claims reads.Pre reads.Post

abbrev At-After-good_sides : Type 0
At-After-good_sides = lts.After-good_sides tie.the-claims reads.Pre reads.Post

abbrev At-Else-not-first-second : Type 0
At-Else-not-first-second = lts.Else2 tie.the-claims reads.Pre reads.Post

abbrev At-After-good_lengths-second : Type 0
At-After-good_lengths-second = lts.After-good_lengths2 tie.the-claims reads.Pre reads.Post

abbrev At-After-good_lengths-first : Type 0
At-After-good_lengths-first = lts.After-good_lengths tie.the-claims reads.Pre reads.Post

abbrev At-After-cells-n : Type 0
At-After-cells-n = lts.After-cells tie.the-claims reads.Pre reads.Post

abbrev At-Else-not-good_settings : Type 0
At-Else-not-good_settings = lts.Else3 tie.the-claims reads.Pre reads.Post

abbrev At-After-good_settings : Type 0
At-After-good_settings = lts.After-good_settings tie.the-claims reads.Pre reads.Post

abbrev first : At-Start → Lent
first w = lent w.args.flags.now w.args.parts.now w.args.masses.now w.args.fills.now w.args.carry.now

abbrev second : At-Start → Lent
second w = lent w.args.flags2.now w.args.parts2.now w.args.masses2.now w.args.fills2.now w.args.carry2.now

sides-good : (d : At-Else-not-good_sides) → sides_good d.args.s ≡ true
sides-good d = let after-good-sides : At-After-good_sides = search in sym after-good-sides.good_sides.ensures ∙ not-false _ d.if-not-good_sides.false-raw

-- test 2 has passed
module _ (d : At-Else-not-first-second) where
  abbrev w : At-Start
  w = search

  lengths-good : (lengths_good (cells_of w.args.s) (first w) && lengths_good (cells_of w.args.s) (second w) && eqb (length w.args.marks.now) (cells_of w.args.s)) ≡ true
  lengths-good =
      let after-good-lengths2 : At-After-good_lengths-second = search in let after-good-lengths : At-After-good_lengths-first = search in let after-cells : At-After-cells-n = search in
      sym (lengths-told w.args.s w.args.g (first w) (second w) w.args.marks.now after-cells.cells-n.ensures after-good-lengths.good_lengths-first.ensures after-good-lengths2.good_lengths-second.ensures)
      ∙ not-false _ d.if-not-first-second.false-raw

settings-good : (d : At-Else-not-good_settings) → settings_good d.args.g ≡ true
settings-good d =
    let after-good-settings : At-After-good_settings = search in
    let t = w (search) in sym (settings-told t.args.s t.args.g (first t) (second t) t.args.marks.now after-good-settings.good_settings.ensures) ∙ not-false _ d.if-not-good_settings.false-raw

pub returns-then-not-good_sides : goal.returns-then-not-good_sides
returns-then-not-good_sides c =
    let after-good-sides : At-After-good_sides = search in
    let t : At-Start = search in refuses-sides t.args.s t.args.g (first t) (second t) t.args.marks.now (sym after-good-sides.good_sides.ensures ∙ not-true _ c.if-not-good_sides.true-raw)

pub cells-n-requires : goal.cells-n-requires
cells-n-requires c = sides-good c.before

pub good_lengths-first-requires : goal.good_lengths-first-requires
good_lengths-first-requires c = omega (arith, c.cells-n.ensures, few _ (sides-good (search)))

pub good_lengths-second-requires : goal.good_lengths-second-requires
good_lengths-second-requires c = let after-cells : At-After-cells-n = search in omega (arith, after-cells.cells-n.ensures, few _ (sides-good (search)))

pub returns-then-not-first-second : goal.returns-then-not-first-second
returns-then-not-first-second c =
    let after-good-lengths2 : At-After-good_lengths-second = search in let after-good-lengths : At-After-good_lengths-first = search in let after-cells : At-After-cells-n = search in let t : At-Start = search in
    refuses-lengths t.args.s t.args.g (first t) (second t) t.args.marks.now (sides-good (search))
    (sym (lengths-told t.args.s t.args.g (first t) (second t) t.args.marks.now after-cells.cells-n.ensures after-good-lengths.good_lengths-first.ensures after-good-lengths2.good_lengths-second.ensures)
    ∙ not-true _ c.if-not-first-second.true-raw)

pub returns-then-not-good_settings : goal.returns-then-not-good_settings
returns-then-not-good_settings c =
    let after-good-settings : At-After-good_settings = search in let t : At-Start = search in
    refuses-settings t.args.s t.args.g (first t) (second t) t.args.marks.now (sides-good (search)) (lengths-good (search))
    (sym (settings-told t.args.s t.args.g (first t) (second t) t.args.marks.now after-good-settings.good_settings.ensures) ∙ not-true _ c.if-not-good_settings.true-raw)

pub checked-requires : goal.checked-requires
checked-requires c =
    let t : At-Start = search in
    (sides-good (search), first_good t.args.s t.args.g (first t) (second t) t.args.marks.now (sides-good (search)) (lengths-good (search)))

pub returns : goal.returns
returns c =
    let t : At-Start = search in
    c.checked.ensures
    ∙ then-good t.args.s t.args.g (first t) (second t) t.args.marks.now (sides-good (search)) (lengths-good (search)) (settings-good (search))
