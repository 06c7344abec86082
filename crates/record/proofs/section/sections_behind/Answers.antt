-- `record::section::sections_behind`: a section that is refused answers, else the next one is tested. Assumes nothing.
use Rattle.std.proofs.Common.{sym, ◌∙◌}
use Rattle.grid.proofs.Handed.{handed-on}
use Rattle.record.proofs.Answers.{stopped, went_on}
use Rattle.record.proofs.section.sections_behind.Goals as goal

pub returns-in_err-section : goal.returns-in_err-section
returns-in_err-section c = handed-on c.from_residual.result c.from_residual.ensures.1 ∙ stopped _ _ _ _ _ _ c.in_err-section.ensures

pub returns-in_err-section-2 : goal.returns-in_err-section-2
returns-in_err-section-2 c =
    handed-on c.from_residual-in_err-section-2.result c.from_residual-in_err-section-2.ensures.1 ∙ stopped _ _ _ _ _ _ c.in_err-section-2.ensures ∙ sym (went_on _ _ _ _ _ _ c.in_ok-section.ensures)

pub returns-in_err-section-3 : goal.returns-in_err-section-3
returns-in_err-section-3 c =
    handed-on c.from_residual-in_err-section-3.result c.from_residual-in_err-section-3.ensures.1 ∙ stopped _ _ _ _ _ _ c.in_err-section-3.ensures
    ∙ sym (went_on _ _ _ _ _ _ c.in_ok-section-2.ensures) ∙ sym (went_on _ _ _ _ _ _ c.in_ok-section.ensures)

pub returns : goal.returns
returns c =
    c.section-4.ensures ∙ sym (went_on _ _ _ _ _ _ c.in_ok-section-3.ensures)
    ∙ sym (went_on _ _ _ _ _ _ c.in_ok-section-2.ensures) ∙ sym (went_on _ _ _ _ _ _ c.in_ok-section.ensures)
