-- `solids::walls::at_end`: the first or the last. Assumes nothing.
use borrow.Author.Tests.{eq-eqb}
use Rattle.solids.proofs.Spread.{end_is}
use Rattle.solids.proofs.walls.at_end.Goals as goal

pub returns-then-x-eq0 : goal.returns-then-x-eq0
returns-then-x-eq0 c = simp (eq-eqb _ _ c.if-x-eq0.true)

pub returns : goal.returns
returns c = end_is _ _ c.if-x-eq0.false
