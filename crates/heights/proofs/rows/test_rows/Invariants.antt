-- `heights::rows::test_rows`: row by row, then what is behind them. Assumes nothing.
use Rattle.heights.proofs.Rowing.{Passing}
use Rattle.heights.proofs.rows.test_rows.Given as goal

abbrev pub invariant-loop-i : goal.invariant-loop-i
invariant-loop-i l = Passing l.s l.at l.line l.n l.m l.p l.i
