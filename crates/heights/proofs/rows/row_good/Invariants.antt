-- `heights::rows::row_good`: word by word. Assumes nothing.
use Rattle.heights.proofs.Rowing.{Rowing}
use Rattle.heights.proofs.rows.row_good.Given as goal

abbrev pub invariant-loop : goal.invariant-loop
invariant-loop l = Rowing l.s l.at l.n l.p l.counter
