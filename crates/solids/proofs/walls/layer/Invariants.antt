-- `solids::walls::layer`: row by row, the highest first. Assumes nothing.
use Rattle.solids.proofs.Heights.{Stacking}
use Rattle.solids.proofs.walls.layer.Given as goal

abbrev pub invariant-loop-i : goal.invariant-loop-i
invariant-loop-i l = Stacking l.s l.at l.initial.flags l.flags l.n l.m l.edge l.nz l.p l.i
