-- `checks::layer::after` is the next place: along the row, then to the next row, then to the next plane. Assumes nothing.
use borrow.Author.Tests.{lt-ltb, le-ltb}
use Rattle.grid.specs.inner.Passes.{place_after}
use Rattle.checks.proofs.layer.after.Goals as goal

pub returns-then-p-s : goal.returns-then-p-s
unfolding place_after
returns-then-p-s c = simp (lt-ltb _ _ c.if-p-s.true)

pub returns-then-p-s-2 : goal.returns-then-p-s-2
unfolding place_after
returns-then-p-s-2 c = simp (le-ltb _ _ c.if-p-s.false, lt-ltb _ _ c.if-p-s-2.true)

pub returns : goal.returns
unfolding place_after
returns c = simp (le-ltb _ _ c.if-p-s.false, le-ltb _ _ c.if-p-s-2.false)
