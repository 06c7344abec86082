-- `mirroring::entry::entered`: the outcome's chain of tests, whatever is lent. Assumes nothing.
use borrow.Author.Tests.{le-leb, lt-leb}
use Rattle.std.proofs.Common.{sym, ◌∙◌, arith}
use Rattle.grid.proofs.Inside.{few}
use Rattle.mirroring.proofs.Answers.{sides-refused, lengths-told, lengths-refused, axis-refused, then-tested, first_three}
use Rattle.mirroring.proofs.entry.entered.Goals as goal

pub returns-then-not-good_sides : goal.returns-then-not-good_sides
returns-then-not-good_sides c = sides-refused _ _ _ _ (sym c.if-not-good_sides.ensures)

pub three_lengths-first-requires : goal.three_lengths-first-requires
three_lengths-first-requires c = omega (arith, c.cells-n.ensures, few _ (sym c.if-not-good_sides.ensures))

pub three_lengths-second-requires : goal.three_lengths-second-requires
three_lengths-second-requires c = omega (arith, c.cells-n.ensures, few _ (sym c.if-not-good_sides.ensures))

pub good_lengths-beside-requires : goal.good_lengths-beside-requires
good_lengths-beside-requires c = omega (arith, c.cells-n.ensures, few _ (sym c.if-not-good_sides.ensures))

pub returns-then-not-first-second : goal.returns-then-not-first-second
returns-then-not-first-second c =
    lengths-refused _ _ _ _ (sym c.if-not-good_sides.ensures)
    (sym (lengths-told _ c.args.axis _ _ c.cells-n.ensures c.three_lengths-first.ensures c.three_lengths-second.ensures c.good_lengths-beside.ensures) ∙ c.if-not-first-second.true)

pub returns-then-axis-gt2 : goal.returns-then-axis-gt2
returns-then-axis-gt2 c =
    axis-refused _ _ _ _ (sym c.if-not-good_sides.ensures)
    (sym (lengths-told _ c.args.axis _ _ c.cells-n.ensures c.three_lengths-first.ensures c.three_lengths-second.ensures c.good_lengths-beside.ensures) ∙ c.if-not-first-second.false)
    (lt-leb _ _ c.if-axis-gt2.true)

pub checked-requires : goal.checked-requires
checked-requires c =
    let g = sym c.if-not-good_sides.ensures in
    (g, first_three _ c.args.axis _ _ g (sym (lengths-told _ c.args.axis _ _ c.cells-n.ensures c.three_lengths-first.ensures c.three_lengths-second.ensures c.good_lengths-beside.ensures) ∙ c.if-not-first-second.false))

pub returns : goal.returns
returns c =
    c.checked.ensures
    ∙ then-tested _ _ _ _ (sym c.if-not-good_sides.ensures)
    (sym (lengths-told _ c.args.axis _ _ c.cells-n.ensures c.three_lengths-first.ensures c.three_lengths-second.ensures c.good_lengths-beside.ensures) ∙ c.if-not-first-second.false)
    (le-leb _ _ (omega arith))
