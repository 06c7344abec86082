use native.Mathlib.Omega.{arith}
use Rattle.spelling.proofs.Putting.{narrow-begin, narrow-room, narrow-more, narrow-end}
use Rattle.spelling.proofs.spell.width.Goals as goal

pub loop-m-init : goal.loop-m-init
loop-m-init c = narrow-begin _ (omega arith)

pub overflow_add-w : goal.overflow_add-w
overflow_add-w c = omega (arith, narrow-room c.loop-m.invariant c.loop-m-test.true)

pub loop-m-smaller : goal.loop-m-smaller
loop-m-smaller c = omega arith

pub loop-m-preserved : goal.loop-m-preserved
loop-m-preserved c = narrow-more c.loop-m.invariant c.loop-m-test.true

pub returns : goal.returns
returns c = narrow-end c.loop-m.invariant c.loop-m-test.false
