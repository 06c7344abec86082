-- `reading::shape::shape` goes through the four groups of sections. Assumes nothing.
use Rattle.std.proofs.Common.{sym, ap, ◌∙◌, subst, ℕ, ◌≤◌, arith}
use Rattle.grid.specs.Answer.{Done}
use Rattle.grid.specs.Grid.{sides_good, cells_of}
use Rattle.grid.specs.Outcome.{accepted}
use Rattle.grid.proofs.GoodSides.{good-sides}
use Rattle.grid.proofs.Handed.{handed-on}
use Rattle.record.specs.Reading.{cells_in}
use Rattle.record.proofs.Answers.{chain-stops, chain-on}
use Rattle.record.proofs.Shaped.{fronts, chain-opens, chain-fronts, opened, fronted, shape_is}
use Rattle.reading.proofs.shape.shape.Goals as goal

pub returns-in_err-opening : goal.returns-in_err-opening
returns-in_err-opening c =
    let a = c.args in
    handed-on c.from_residual.result c.from_residual.ensures.1
    ∙ chain-stops _ (chain-opens a.rec.now a.parts a.masses a.fills a.carry) _ c.in_err-opening.ensures
    ∙ sym (shape_is a.rec.now a.parts a.masses a.fills a.carry Done)

pub sides_in-s-requires : goal.sides_in-s-requires
sides_in-s-requires c = (opened _ _ _ _ _ (ap accepted (sym c.in_ok-opening.ensures))).0.inside

pub cells-requires : goal.cells-requires
cells-requires c = ap sides_good c.sides_in-s.ensures ∙ (opened _ _ _ _ _ (ap accepted (sym c.in_ok-opening.ensures))).1

pub front_sections-requires : goal.front_sections-requires
unfolding cells_of
front_sections-requires c =
    let good = (opened _ _ _ _ _ (ap accepted (sym c.in_ok-opening.ensures))).1 in
    subst (λ (n : ℕ). n ≤ 262144) (sym (c.cells.ensures ∙ ap cells_of c.sides_in-s.ensures)) (good-sides _ good).all

pub returns-in_err-front_sections : goal.returns-in_err-front_sections
unfolding cells_in
returns-in_err-front_sections c =
    let a = c.args in
    let r = a.rec.now in
    handed-on c.from_residual-in_err-front_sections.result c.from_residual-in_err-front_sections.ensures.1
    ∙ chain-stops _ (chain-fronts r (cells_in r)) _ (c.in_err-front_sections.ensures ∙ ap (λ (n : ℕ). fronts r n Done) (c.cells.ensures ∙ ap cells_of c.sides_in-s.ensures))
    ∙ sym (chain-on _ (chain-opens r a.parts a.masses a.fills a.carry) _ c.in_ok-opening.ensures)
    ∙ sym (shape_is r a.parts a.masses a.fills a.carry Done)

pub behind-requires-clause-s_value_2 : goal.behind-requires-clause-s_value_2
behind-requires-clause-s_value_2 c = ap sides_good c.sides_in-s.ensures ∙ (opened _ _ _ _ _ (ap accepted (sym c.in_ok-opening.ensures))).1

pub behind-requires-clause-rec_in_bounds : goal.behind-requires-clause-rec_in_bounds
unfolding cells_in
behind-requires-clause-rec_in_bounds c =
    let r = c.args.rec.now in
    let front = c.in_ok-front_sections.ensures ∙ ap (λ (n : ℕ). fronts r n Done) (c.cells.ensures ∙ ap cells_of c.sides_in-s.ensures) in
    omega (arith, (fronted r (cells_in r) (ap accepted (sym front))).3.inside)

pub returns : goal.returns
unfolding cells_in
returns c =
    let a = c.args in
    let r = a.rec.now in
    let front = c.in_ok-front_sections.ensures ∙ ap (λ (n : ℕ). fronts r n Done) (c.cells.ensures ∙ ap cells_of c.sides_in-s.ensures) in
    c.behind.ensures
    ∙ sym (chain-on _ (chain-fronts r (cells_in r)) _ front)
    ∙ sym (chain-on _ (chain-opens r a.parts a.masses a.fills a.carry) _ c.in_ok-opening.ensures)
    ∙ sym (shape_is r a.parts a.masses a.fills a.carry Done)
