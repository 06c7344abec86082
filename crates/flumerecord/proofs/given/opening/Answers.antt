-- `flumerecord::given::opening` tests section 1, the sides, and the slices against them. Assumes nothing.
use Rattle.std.proofs.Common.{sym, ap, ◌∙◌, subst, ℕ, ◌≤◌}
use Rattle.flume.specs.Flume.{flume_sides_good, flume_cells}
use Rattle.grid.proofs.Handed.{handed-on}
use Rattle.flumerecord.specs.Reading.{flume_cells_in, flume_slices_fit}
use Rattle.record.proofs.Answers.{stopped, went_on, holds, or-pass, or-fail}
use Rattle.flumegrid.proofs.GoodSides.{few}
use Rattle.flumerecord.proofs.given.opening.Goals as goal

pub returns-in_err-section : goal.returns-in_err-section
returns-in_err-section c = handed-on c.from_residual.result c.from_residual.ensures.1 ∙ stopped _ _ _ _ _ _ c.in_err-section.ensures

pub sides_in-s-requires : goal.sides_in-s-requires
sides_in-s-requires c = (holds _ _ _ _ _ c.in_ok-section.ensures).inside

pub returns-then-not-good_sides : goal.returns-then-not-good_sides
returns-then-not-good_sides c =
    sym (or-fail _ _ (sym (c.if-not-good_sides.ensures ∙ ap flume_sides_good c.sides_in-s.ensures))) ∙ sym (went_on _ _ _ _ _ _ c.in_ok-section.ensures)

pub slices_fit-requires-clause-n_bound : goal.slices_fit-requires-clause-n_bound
slices_fit-requires-clause-n_bound c = subst (λ (n : ℕ). n ≤ 262144) (sym c.cells.ensures) (few _ (sym c.if-not-good_sides.ensures))

pub returns-then-not-slices_fit : goal.returns-then-not-slices_fit
unfolding flume_slices_fit flume_cells_in
returns-then-not-slices_fit c =
    let a = c.args in
    let n = c.cells.ensures ∙ ap flume_cells c.sides_in-s.ensures in
    sym (or-fail _ _ (sym (c.if-not-slices_fit.ensures ∙ ap (λ (n : ℕ). flume_slices_fit n a.parts a.masses a.fills a.carry) n)))
    ∙ sym (or-pass _ _ (sym (c.if-not-good_sides.ensures ∙ ap flume_sides_good c.sides_in-s.ensures))) ∙ sym (went_on _ _ _ _ _ _ c.in_ok-section.ensures)

pub returns : goal.returns
unfolding flume_slices_fit flume_cells_in
returns c =
    let a = c.args in
    let n = c.cells.ensures ∙ ap flume_cells c.sides_in-s.ensures in
    sym (or-pass _ _ (sym (c.if-not-slices_fit.ensures ∙ ap (λ (n : ℕ). flume_slices_fit n a.parts a.masses a.fills a.carry) n)))
    ∙ sym (or-pass _ _ (sym (c.if-not-good_sides.ensures ∙ ap flume_sides_good c.sides_in-s.ensures))) ∙ sym (went_on _ _ _ _ _ _ c.in_ok-section.ensures)
