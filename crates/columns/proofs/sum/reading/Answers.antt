-- `columns::sum::reading`: solid, dry, or the exact share of the sum. Assumes nothing.
use borrow.Author.Tests.{eq-eqb, ne_eqb}
use Rattle.tunnel.specs.Depth.{reading_of, is-solid, is-dry, is-deep}
use Rattle.columns.proofs.sum.reading.Goals as goal

pub returns-then-solid : goal.returns-then-solid
unfolding reading_of
returns-then-solid c = simp c.if-solid.true is-solid

pub returns-then-sum-eq0 : goal.returns-then-sum-eq0
unfolding reading_of
returns-then-sum-eq0 c = simp (c.if-solid.false, eq-eqb _ _ c.if-sum-eq0.true) is-dry

pub returns : goal.returns
unfolding reading_of
returns c = simp (c.if-solid.false, ne_eqb _ _ c.if-sum-eq0.false) (is-deep c.share.ensures)
