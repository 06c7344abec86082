-- `heights::rows::tail`: byte by byte, with the line. Assumes nothing.
use Rattle.heights.proofs.Rowing.{Tailing}
use Rattle.heights.proofs.rows.tail.Given as goal

abbrev pub invariant-loop-p : goal.invariant-loop-p
invariant-loop-p l = Tailing l.s l.at l.line l.p l.i
