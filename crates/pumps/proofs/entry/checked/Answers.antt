-- `pumps::entry::checked`: the base's tests 4 to 6 of the carry alone, and then the totals. Assumes nothing.
use borrow.Author.Rules.{sfits_of}
use mir.Syntax.{w64}
use mir.Facts.{to_z-of_z}
use Rattle.std.proofs.Common.{sym, ◌∙◌, arith}
use Rattle.grid.proofs.Handed.{handed-on}
use Rattle.pumps.proofs.Checked.{head-length, carry-three, head-sized, refuses-good, refuses-totals, accepts-totals}
use Rattle.pumps.proofs.entry.checked.Goals as goal

pub slice_bounds-checked-end : goal.slice_bounds-checked-end
slice_bounds-checked-end c = sym (head-length _ (carry-three _ _ c.requires.1))

pub checked-requires : goal.checked-requires
checked-requires c = (c.requires.0, head-sized _ _ c.requires.1)

pub returns-in_err-checked : goal.returns-in_err-checked
returns-in_err-checked c = handed-on c.from_residual.result c.from_residual.ensures.1 ∙ refuses-good _ _ _ c.in_err-checked.ensures

pub bounds-carry-1 : goal.bounds-carry-1
bounds-carry-1 c = omega (arith, carry-three _ _ c.requires.1)

pub bounds-carry-2 : goal.bounds-carry-2
bounds-carry-2 c = omega (arith, carry-three _ _ c.requires.1)

pub returns-then-not-good_totals : goal.returns-then-not-good_totals
returns-then-not-good_totals c =
    refuses-totals _ _ _ (sym c.in_ok-checked.ensures) (head-sized _ _ c.requires.1).flags
    (sym (rw (to_z-of_z (sfits_of {w = w64} c.good_totals-arg-1.given), to_z-of_z (sfits_of {w = w64} c.good_totals-arg-2-1.given)) at c.if-not-good_totals.ensures))

pub returns : goal.returns
returns c =
    accepts-totals _ _ _ (sym c.in_ok-checked.ensures)
    (sym (rw (to_z-of_z (sfits_of {w = w64} c.good_totals-arg-1.given), to_z-of_z (sfits_of {w = w64} c.good_totals-arg-2-1.given)) at c.if-not-good_totals.ensures))
