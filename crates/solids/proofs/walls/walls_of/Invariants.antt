-- `solids::walls::walls_of`: the lowest cell that is not wall. Assumes nothing.
use Rattle.solids.proofs.Heights.{Rising}
use Rattle.solids.proofs.walls.walls_of.Given as goal

abbrev pub invariant-loop-z : goal.invariant-loop-z
invariant-loop-z l = Rising l.v l.edge l.nz l.z
