use Rattle.std.proofs.Common.{ℕ, ◌-◌}
use Rattle.depths.specs.Map.{depth_at, row_text, rows_text}
use Rattle.depths.proofs.Texts.{rows_step, rows_none}
use Rattle.depths.proofs.Storing.{under-begin, under_more, under-end, under-room}
use Rattle.depths.proofs.put.put_rows.Goals as goal

pub loop-y-init : goal.loop-y-init
loop-y-init c = under-begin

pub put_row-p-requires-clause-nx_in_bounds : goal.put_row-p-requires-clause-nx_in_bounds
put_row-p-requires-clause-nx_in_bounds c =
    let a = c.args in
    let v = depth_at a.s a.edge a.flags.now a.fills.now in
    let y = c.loop-y.y in
    under-room (row_text (λ (x : ℕ). v x (y - 1)) 0 a.s.nx) (rows_text v a.s.nx (y - 1)) c.loop-y.invariant (rows_step v a.s.nx y c.loop-y-test.true) c.requires.ny_in_bounds

pub loop-y-preserved : goal.loop-y-preserved
loop-y-preserved c =
    let a = c.args in
    under_more c.loop-y.invariant (rows_step (depth_at a.s a.edge a.flags.now a.fills.now) a.s.nx c.loop-y.y c.loop-y-test.true) c.put_row-p.ensures

pub returns : goal.returns
returns c =
    let a = c.args in
    under-end c.loop-y.invariant (rows_none (depth_at a.s a.edge a.flags.now a.fills.now) a.s.nx c.loop-y.y c.loop-y-test.false)
