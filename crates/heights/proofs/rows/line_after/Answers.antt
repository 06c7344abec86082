-- `heights::rows::line_after`: one more at LF. Assumes nothing.
use borrow.Author.Tests.{eq-eqb, ne_eqb}
use Rattle.heights.proofs.rows.line_after.Goals as goal

pub returns-then-b-eq10 : goal.returns-then-b-eq10
returns-then-b-eq10 c = simp (eq-eqb _ _ c.if-b-eq10.true)

pub returns : goal.returns
returns c = simp (ne_eqb _ _ c.if-b-eq10.false)
