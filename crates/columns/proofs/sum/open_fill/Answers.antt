-- `columns::sum::open_fill`: by the one test. Assumes nothing.
use borrow.Author.Tests.{eq-eqb, ne_eqb}
use Rattle.columns.proofs.sum.open_fill.Goals as goal

pub returns-then-flag-eq3 : goal.returns-then-flag-eq3
returns-then-flag-eq3 c = simp (eq-eqb _ _ c.if-flag-eq3.true)

pub returns : goal.returns
returns c = simp (ne_eqb _ _ c.if-flag-eq3.false)
