-- `solids::walls::row_walls`: column by column. Assumes nothing.
use Rattle.solids.proofs.Heights.{Laying}
use Rattle.solids.proofs.walls.row_walls.Given as goal

abbrev pub invariant-loop-i : goal.invariant-loop-i
invariant-loop-i l = Laying l.s l.at l.initial.flags l.flags l.base l.n l.edge l.nz l.p l.i
