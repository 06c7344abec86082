-- `depths::long::rows_length`: what is counted, and the rows south of it, are the whole. Assumes nothing.
use Rattle.std.proofs.Common.{◌≡◌, ◌+◌, length}
use Rattle.depths.specs.Map.{depth_at, rows_text}
use Rattle.depths.proofs.long.rows_length.Given as goal

abbrev pub invariant-loop-y : goal.invariant-loop-y
invariant-loop-y l = l.long + length (rows_text (depth_at l.s l.edge l.flags l.fills) l.s.nx l.y) ≡ length (rows_text (depth_at l.s l.edge l.flags l.fills) l.s.nx l.s.ny)
