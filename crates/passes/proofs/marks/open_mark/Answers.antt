-- `passes::marks::open_mark` is 1 at a fluid cell with no wall beside it. Assumes nothing.
use Rattle.whole.specs.laws.Bools.{cond_yes, cond_no}
use mathlib.Core.Path.{sym}
use Rattle.passes.proofs.marks.open_mark.Goals as goal

pub returns-then-f-walled : goal.returns-then-f-walled
returns-then-f-walled c = sym (cond_yes 1 0 c.if-f-walled.true)

pub returns : goal.returns
returns c = sym (cond_no 1 0 c.if-f-walled.false)
