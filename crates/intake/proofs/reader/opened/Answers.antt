-- `intake::reader::opened`: the record's own opening, then the index's lengths. Assumes nothing.
use Rattle.std.proofs.Common.{sym, ap, ◌∙◌, subst, ℕ, ◌≤◌}
use Rattle.grid.specs.Grid.{sides_good, cells_of}
use Rattle.grid.specs.Outcome.{accepted}
use Rattle.grid.proofs.Handed.{handed-on}
use Rattle.grid.proofs.Inside.{few as few-cells}
use Rattle.record.proofs.Shaped.{opened}
use Rattle.index.specs.Index.{index}
use Rattle.intake.proofs.Readings.{stops, wrong-index, opens-all, fits_told}
use Rattle.intake.proofs.reader.opened.Goals as goal

pub returns-in_err-opening : goal.returns-in_err-opening
returns-in_err-opening c = handed-on c.from_residual.result c.from_residual.ensures.1 ∙ stops _ _ _ _ _ _ c.in_err-opening.ensures

pub sides_in-requires : goal.sides_in-requires
sides_in-requires c = (opened _ _ _ _ _ (ap accepted (sym c.in_ok-opening.ensures))).0.inside

pub cells-requires : goal.cells-requires
cells-requires c = ap sides_good c.sides_in.ensures ∙ (opened _ _ _ _ _ (ap accepted (sym c.in_ok-opening.ensures))).1

pub good_lengths-requires : goal.good_lengths-requires
good_lengths-requires c =
    let good = (opened _ _ _ _ _ (ap accepted (sym c.in_ok-opening.ensures))).1 in
    subst (λ (n : ℕ). n ≤ 262144) (sym (c.cells.ensures ∙ ap cells_of c.sides_in.ensures)) (few-cells _ good)

pub returns-then-not-good_lengths : goal.returns-then-not-good_lengths
returns-then-not-good_lengths c =
    let a = c.args in
    let fits = fits_told a.rec.now a.parts a.masses a.fills a.carry (index a.words.now a.count.now) c.sides_in.ensures c.cells.ensures c.if-not-good_lengths.ensures in
    wrong-index _ _ _ _ _ _ (ap accepted (sym c.in_ok-opening.ensures)) (sym fits)

pub returns : goal.returns
returns c =
    let a = c.args in
    let fits = fits_told a.rec.now a.parts a.masses a.fills a.carry (index a.words.now a.count.now) c.sides_in.ensures c.cells.ensures c.if-not-good_lengths.ensures in
    opens-all _ _ _ _ _ _ (ap accepted (sym c.in_ok-opening.ensures)) (sym fits)
