-- `calls::entry::entered`: sides, the indexes' lengths and the totals' number, the base's tests of the heads, the totals, then 14, as the outcome's chain has
-- them. Assumes nothing.
use borrow.Author.Rules.{sfits_of}
use mir.Syntax.{w64}
use mir.Facts.{to_z-of_z}
use Rattle.std.proofs.Common.{sym, ◌∙◌, arith}
use Rattle.grid.specs.State.{lent}
use Rattle.index.specs.Index.{index}
use Rattle.index.specs.Held.{held}
use Rattle.grid.proofs.Handed.{handed-on}
use Rattle.grid.proofs.Inside.{few as few-cells}
use Rattle.calls.proofs.Entrance.{lengths-told, refuses-sides, refuses-lengths, refuses-set, refuses-totals, asked, refuses-untrue, accepts}
use Rattle.calls.proofs.entry.entered.Goals as goal

pub returns-then-not-good_sides : goal.returns-then-not-good_sides
returns-then-not-good_sides c = refuses-sides _ _ _ _ _ (sym c.if-not-good_sides.ensures)

pub good_lengths-first-requires : goal.good_lengths-first-requires
good_lengths-first-requires c = omega (arith, c.cells-n.ensures, few-cells c.args.s (sym c.if-not-good_sides.ensures))

pub good_lengths-second-requires : goal.good_lengths-second-requires
good_lengths-second-requires c = omega (arith, c.cells-n.ensures, few-cells c.args.s (sym c.if-not-good_sides.ensures))

pub returns-then-not-three-first : goal.returns-then-not-three-first
returns-then-not-three-first c =
    let a = (held (lent c.args.flags.now c.args.parts.now c.args.masses.now c.args.fills.now c.args.carry.now) (index c.args.words.now c.args.count.now)) in
    let b = (held (lent c.args.flags2.now c.args.parts2.now c.args.masses2.now c.args.fills2.now c.args.carry2.now) (index c.args.words2.now c.args.count2.now)) in
    let sized = lengths-told c.args.s c.args.g a b c.args.marks.now c.cells-n.ensures c.good_lengths-first.ensures c.good_lengths-second.ensures c.if-not-three-first.true in
    refuses-lengths _ _ _ _ _ (sym c.if-not-good_sides.ensures) sized

pub returns-in_err-entered : goal.returns-in_err-entered
returns-in_err-entered c =
    let a = (held (lent c.args.flags.now c.args.parts.now c.args.masses.now c.args.fills.now c.args.carry.now) (index c.args.words.now c.args.count.now)) in
    let b = (held (lent c.args.flags2.now c.args.parts2.now c.args.masses2.now c.args.fills2.now c.args.carry2.now) (index c.args.words2.now c.args.count2.now)) in
    let sized = lengths-told c.args.s c.args.g a b c.args.marks.now c.cells-n.ensures c.good_lengths-first.ensures c.good_lengths-second.ensures c.if-not-three-first.false in
    handed-on c.from_residual.result c.from_residual.ensures.1
    ∙ refuses-set _ _ _ _ _ sized c.in_err-entered.ensures

pub returns-then-not-good_totals : goal.returns-then-not-good_totals
returns-then-not-good_totals c =
    let a = (held (lent c.args.flags.now c.args.parts.now c.args.masses.now c.args.fills.now c.args.carry.now) (index c.args.words.now c.args.count.now)) in
    let b = (held (lent c.args.flags2.now c.args.parts2.now c.args.masses2.now c.args.fills2.now c.args.carry2.now) (index c.args.words2.now c.args.count2.now)) in
    let sized = lengths-told c.args.s c.args.g a b c.args.marks.now c.cells-n.ensures c.good_lengths-first.ensures c.good_lengths-second.ensures c.if-not-three-first.false in
    refuses-totals _ _ _ _ _ sized (sym c.in_ok-entered.ensures) c.cells-n.ensures
    (sym (rw (to_z-of_z (sfits_of {w = w64} c.good_totals-arg-1.given), to_z-of_z (sfits_of {w = w64} c.good_totals-arg-2-1.given)) at c.if-not-good_totals.ensures))

pub agrees-requires : goal.agrees-requires
agrees-requires c =
    let a = (held (lent c.args.flags.now c.args.parts.now c.args.masses.now c.args.fills.now c.args.carry.now) (index c.args.words.now c.args.count.now)) in
    let b = (held (lent c.args.flags2.now c.args.parts2.now c.args.masses2.now c.args.fills2.now c.args.carry2.now) (index c.args.words2.now c.args.count2.now)) in
    let sized = lengths-told c.args.s c.args.g a b c.args.marks.now c.cells-n.ensures c.good_lengths-first.ensures c.good_lengths-second.ensures c.if-not-three-first.false in
    asked _ _ _ _ _ sized (sym c.in_ok-entered.ensures)

pub returns-then-not-agrees : goal.returns-then-not-agrees
returns-then-not-agrees c =
    let a = (held (lent c.args.flags.now c.args.parts.now c.args.masses.now c.args.fills.now c.args.carry.now) (index c.args.words.now c.args.count.now)) in
    let b = (held (lent c.args.flags2.now c.args.parts2.now c.args.masses2.now c.args.fills2.now c.args.carry2.now) (index c.args.words2.now c.args.count2.now)) in
    let sized = lengths-told c.args.s c.args.g a b c.args.marks.now c.cells-n.ensures c.good_lengths-first.ensures c.good_lengths-second.ensures c.if-not-three-first.false in
    refuses-untrue _ _ _ _ _ sized (sym c.in_ok-entered.ensures)
    (sym (rw (to_z-of_z (sfits_of {w = w64} c.good_totals-arg-1.given), to_z-of_z (sfits_of {w = w64} c.good_totals-arg-2-1.given)) at c.if-not-good_totals.ensures))
    (sym c.if-not-agrees.ensures)

pub returns : goal.returns
returns c =
    let a = (held (lent c.args.flags.now c.args.parts.now c.args.masses.now c.args.fills.now c.args.carry.now) (index c.args.words.now c.args.count.now)) in
    let b = (held (lent c.args.flags2.now c.args.parts2.now c.args.masses2.now c.args.fills2.now c.args.carry2.now) (index c.args.words2.now c.args.count2.now)) in
    let sized = lengths-told c.args.s c.args.g a b c.args.marks.now c.cells-n.ensures c.good_lengths-first.ensures c.good_lengths-second.ensures c.if-not-three-first.false in
    accepts _ _ _ _ _ sized (sym c.in_ok-entered.ensures)
    (sym (rw (to_z-of_z (sfits_of {w = w64} c.good_totals-arg-1.given), to_z-of_z (sfits_of {w = w64} c.good_totals-arg-2-1.given)) at c.if-not-good_totals.ensures))
    (sym c.if-not-agrees.ensures)
