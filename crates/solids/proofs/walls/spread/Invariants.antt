-- `solids::walls::spread`: from the last cell down. Assumes nothing.
use Rattle.solids.proofs.Spread.{Spreading}
use Rattle.solids.proofs.walls.spread.Given as goal

abbrev pub invariant-loop-i : goal.invariant-loop-i
invariant-loop-i l = Spreading l.s l.initial.flags l.flags l.i
