-- `profiled::writing::better`: by the test of the two depths. Assumes nothing.
use borrow.Author.Tests.{lt-ltb, le-ltb}
use Rattle.profile.specs.inner.Lines.{best_of}
use Rattle.profiled.proofs.writing.better.Goals as goal

pub returns-then-b-sum : goal.returns-then-b-sum
unfolding best_of
returns-then-b-sum c = simp (lt-ltb _ _ c.if-b-sum.true)

pub returns : goal.returns
unfolding best_of
returns c = simp (le-ltb _ _ c.if-b-sum.false)
