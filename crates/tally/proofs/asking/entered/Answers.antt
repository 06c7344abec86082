-- `tally::asking::entered`: tests 1, 2, 4, 5 and 6 in the outcome's order. Assumes nothing.
use Rattle.std.proofs.Common.{sym, ◌∙◌, arith}
use Rattle.grid.proofs.Inside.{few}
use Rattle.pools.proofs.Tested.{lengths-told, refuses-sides, refuses-lengths, then-tested, set-lengths}
use Rattle.tally.proofs.asking.entered.Goals as goal

pub returns-then-not-good_sides : goal.returns-then-not-good_sides
returns-then-not-good_sides c = refuses-sides _ _ _ (sym c.if-not-good_sides.ensures)

pub three_lengths-set-requires : goal.three_lengths-set-requires
three_lengths-set-requires c = omega (arith, c.cells-n.ensures, few _ (sym c.if-not-good_sides.ensures))

pub returns-then-not-set-marks : goal.returns-then-not-set-marks
returns-then-not-set-marks c =
    refuses-lengths _ _ _ (sym c.if-not-good_sides.ensures) (sym (lengths-told _ _ _ c.cells-n.ensures c.three_lengths-set.ensures) ∙ c.if-not-set-marks.true)

pub checked-requires : goal.checked-requires
checked-requires c = (sym c.if-not-good_sides.ensures, set-lengths _ _ _ (sym (lengths-told _ _ _ c.cells-n.ensures c.three_lengths-set.ensures) ∙ c.if-not-set-marks.false))

pub returns : goal.returns
returns c =
    c.checked.ensures ∙ then-tested _ _ _ (sym c.if-not-good_sides.ensures) (sym (lengths-told _ _ _ c.cells-n.ensures c.three_lengths-set.ensures) ∙ c.if-not-set-marks.false)
