use Rattle.std.proofs.Common.{arith}
use Rattle.solids.proofs.Heights.{stack-begin, stack-more, stack-end}
use Rattle.solids.proofs.walls.layer.Goals as goal

pub loop-i-init : goal.loop-i-init
loop-i-init c = stack-begin _ _ _ _ _ _ _ c.requires.at_in_bounds

pub loop-i-preserved : goal.loop-i-preserved
loop-i-preserved c = stack-more _ (omega arith) c.loop-i.invariant c.row_walls.ensures c.next_line-p.ensures

pub returns : goal.returns
returns c = stack-end _ c.loop-i-test.false c.loop-i.invariant
