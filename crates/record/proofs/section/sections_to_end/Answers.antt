-- `record::section::sections_to_end`: a section that is refused answers, else the next one, and last the end of the record. Assumes nothing.
use borrow.Author.Tests.{le-leb, lt-leb}
use Rattle.std.proofs.Common.{sym, ◌∙◌}
use Rattle.grid.proofs.Handed.{handed-on}
use Rattle.record.proofs.Answers.{stopped, went_on, or-pass, or-fail}
use Rattle.record.proofs.section.sections_to_end.Goals as goal

pub returns-in_err-section : goal.returns-in_err-section
returns-in_err-section c = handed-on c.from_residual.result c.from_residual.ensures.1 ∙ stopped _ _ _ _ _ _ c.in_err-section.ensures

pub returns-in_err-section-2 : goal.returns-in_err-section-2
returns-in_err-section-2 c =
    handed-on c.from_residual-in_err-section-2.result c.from_residual-in_err-section-2.ensures.1 ∙ stopped _ _ _ _ _ _ c.in_err-section-2.ensures ∙ sym (went_on _ _ _ _ _ _ c.in_ok-section.ensures)

pub returns-then-rec-end : goal.returns-then-rec-end
returns-then-rec-end c =
    sym (or-fail _ _ (lt-leb _ _ c.if-rec-end.true)) ∙ sym (went_on _ _ _ _ _ _ c.in_ok-section-2.ensures) ∙ sym (went_on _ _ _ _ _ _ c.in_ok-section.ensures)

pub returns : goal.returns
returns c =
    sym (or-pass _ _ (le-leb _ _ c.if-rec-end.false)) ∙ sym (went_on _ _ _ _ _ _ c.in_ok-section-2.ensures) ∙ sym (went_on _ _ _ _ _ _ c.in_ok-section.ensures)
