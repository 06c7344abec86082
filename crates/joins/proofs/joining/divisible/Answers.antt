-- `joins::joining::divisible`: tests 1, 2 and 4 of a grid's flags. Assumes nothing.
use Rattle.std.proofs.Common.{sym}
use Rattle.schemes.proofs.Answers.{part-sides, part-lengths, part-sized, part-flag, part-through}
use Rattle.joins.proofs.joining.divisible.Goals as goal

pub returns-then-not-good_sides : goal.returns-then-not-good_sides
returns-then-not-good_sides c = part-sides _ _ _ (sym c.if-not-good_sides.ensures)

pub returns-then-not-grid-n : goal.returns-then-not-grid-n
returns-then-not-grid-n c = part-lengths _ _ _ (sym c.if-not-good_sides.ensures) c.cells-n.ensures c.if-not-grid-n.true

pub first_bad_flag-bad-requires : goal.first_bad_flag-bad-requires
first_bad_flag-bad-requires c =
    let g = sym c.if-not-good_sides.ensures in
    (g, (part-sized _ _ c.args.own.now g c.cells-n.ensures c.if-not-grid-n.false).0)

pub returns-then-bad-n : goal.returns-then-bad-n
returns-then-bad-n c = part-flag _ _ _ (sym c.if-not-good_sides.ensures) c.cells-n.ensures c.if-not-grid-n.false c.first_bad_flag-bad.ensures c.if-bad-n.true

pub returns : goal.returns
returns c = part-through _ _ _ (sym c.if-not-good_sides.ensures) c.cells-n.ensures c.if-not-grid-n.false c.first_bad_flag-bad.ensures c.if-bad-n.false
