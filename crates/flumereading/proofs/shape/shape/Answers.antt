-- `flumereading::shape::shape` goes through the four groups of sections. Assumes nothing.
use Rattle.std.proofs.Common.{sym, ap, ◌∙◌, subst, ℕ, ◌≤◌, arith}
use Rattle.grid.specs.Answer.{Done}
use Rattle.flume.specs.Flume.{flume_sides_good, flume_cells}
use Rattle.grid.specs.Outcome.{accepted}
use Rattle.grid.proofs.Handed.{handed-on}
use Rattle.flumegrid.proofs.GoodSides.{few}
use Rattle.record.specs.Reading.{fronts_on}
use Rattle.record.proofs.Answers.{chain-stops, chain-on}
use Rattle.record.proofs.Sections.{opened-on, fronted-on}
use Rattle.flumerecord.specs.Layout.{flume_counts}
use Rattle.flumerecord.specs.Reading.{flume_cells_in}
use Rattle.flumerecord.proofs.Shaped.{chain-opens, chain-fronts, shape_is}
use Rattle.flumereading.proofs.shape.shape.Goals as goal

pub returns-in_err-opening : goal.returns-in_err-opening
returns-in_err-opening c =
    let a = c.args in
    handed-on c.from_residual.result c.from_residual.ensures.1
    ∙ chain-stops _ (chain-opens a.rec.now a.parts a.masses a.fills a.carry) _ c.in_err-opening.ensures
    ∙ sym (shape_is a.rec.now a.parts a.masses a.fills a.carry Done)

pub sides_in-s-requires : goal.sides_in-s-requires
sides_in-s-requires c = (opened-on _ flume_counts _ _ (ap accepted (sym c.in_ok-opening.ensures))).0.inside

pub cells-requires : goal.cells-requires
cells-requires c = ap flume_sides_good c.sides_in-s.ensures ∙ (opened-on _ flume_counts _ _ (ap accepted (sym c.in_ok-opening.ensures))).1

pub sections_behind-requires-clause-n_bound : goal.sections_behind-requires-clause-n_bound
sections_behind-requires-clause-n_bound c =
    let good = (opened-on _ flume_counts _ _ (ap accepted (sym c.in_ok-opening.ensures))).1 in
    subst (λ (n : ℕ). n ≤ 262144) (sym (c.cells.ensures ∙ ap flume_cells c.sides_in-s.ensures)) (few _ good)

pub returns-in_err-sections_behind : goal.returns-in_err-sections_behind
unfolding flume_cells_in
returns-in_err-sections_behind c =
    let a = c.args in
    let r = a.rec.now in
    handed-on c.from_residual-in_err-sections_behind.result c.from_residual-in_err-sections_behind.ensures.1
    ∙ chain-stops _ (chain-fronts r (flume_cells_in r)) _ (c.in_err-sections_behind.ensures ∙ ap (λ (n : ℕ). fronts_on r flume_counts 1 n Done) (c.cells.ensures ∙ ap flume_cells c.sides_in-s.ensures))
    ∙ sym (chain-on _ (chain-opens r a.parts a.masses a.fills a.carry) _ c.in_ok-opening.ensures)
    ∙ sym (shape_is r a.parts a.masses a.fills a.carry Done)

pub behind-requires-clause-s_value_2 : goal.behind-requires-clause-s_value_2
behind-requires-clause-s_value_2 c = ap flume_sides_good c.sides_in-s.ensures ∙ (opened-on _ flume_counts _ _ (ap accepted (sym c.in_ok-opening.ensures))).1

pub behind-requires-clause-rec_in_bounds : goal.behind-requires-clause-rec_in_bounds
unfolding flume_cells_in
behind-requires-clause-rec_in_bounds c =
    let r = c.args.rec.now in
    let front = c.in_ok-sections_behind.ensures ∙ ap (λ (n : ℕ). fronts_on r flume_counts 1 n Done) (c.cells.ensures ∙ ap flume_cells c.sides_in-s.ensures) in
    omega (arith, (fronted-on r flume_counts 1 (flume_cells_in r) (ap accepted (sym front))).3.inside)

pub returns : goal.returns
unfolding flume_cells_in
returns c =
    let a = c.args in
    let r = a.rec.now in
    let front = c.in_ok-sections_behind.ensures ∙ ap (λ (n : ℕ). fronts_on r flume_counts 1 n Done) (c.cells.ensures ∙ ap flume_cells c.sides_in-s.ensures) in
    c.behind.ensures
    ∙ sym (chain-on _ (chain-fronts r (flume_cells_in r)) _ front)
    ∙ sym (chain-on _ (chain-opens r a.parts a.masses a.fills a.carry) _ c.in_ok-opening.ensures)
    ∙ sym (shape_is r a.parts a.masses a.fills a.carry Done)
