-- `depths::put::put_rows`: what is stored, and the rows south of it, are the whole. Assumes nothing.
use Rattle.depths.specs.Map.{depth_at, rows_text}
use Rattle.depths.proofs.Storing.{Under}
use Rattle.depths.proofs.put.put_rows.Given as goal

abbrev pub invariant-loop-y : goal.invariant-loop-y
invariant-loop-y l = Under (rows_text (depth_at l.s l.edge l.flags l.fills) l.s.nx l.s.ny) l.initial.room l.at (rows_text (depth_at l.s l.edge l.flags l.fills) l.s.nx l.y) l.room l.p
