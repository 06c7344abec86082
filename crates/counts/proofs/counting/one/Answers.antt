-- `counts::counting::one` is 1 at a cell of the kind. Assumes nothing.
use borrow.Author.Tests.{eq-eqb, ne_eqb}
use Rattle.counts.proofs.counting.one.Goals as goal

pub returns-then-flag-wanted : goal.returns-then-flag-wanted
returns-then-flag-wanted c = simp (eq-eqb _ _ c.if-flag-wanted.true)

pub returns : goal.returns
returns c = simp (ne_eqb _ _ c.if-flag-wanted.false)
