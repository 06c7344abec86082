use Rattle.std.proofs.Common.{ap, length, arith}
use Rattle.grid.proofs.GoodSides.{good-sides}
use Rattle.depths.specs.Map.{depth_at}
use Rattle.depths.proofs.Texts.{rows-step-long, rows_none, rows-most}
use Rattle.depths.proofs.long.rows_length.Goals as goal

pub overflow_add-long : goal.overflow_add-long
overflow_add-long c =
    let a = c.args in
    let v = depth_at a.s a.edge a.flags.now a.fills.now in
    let g = good-sides a.s c.requires.good in
    record { fits = omega (arith, rows-step-long v a.s.nx c.loop-y.y c.loop-y-test.true, c.row_length-long.ensures, c.loop-y.invariant, rows-most v a.s.nx a.s.ny g.x.high, g.y.high) }

pub loop-y-preserved : goal.loop-y-preserved
loop-y-preserved c =
    let a = c.args in
    omega (arith, rows-step-long (depth_at a.s a.edge a.flags.now a.fills.now) a.s.nx c.loop-y.y c.loop-y-test.true, c.row_length-long.ensures, c.loop-y.invariant)

pub returns : goal.returns
returns c =
    let a = c.args in
    omega (arith, c.loop-y.invariant, ap length (rows_none (depth_at a.s a.edge a.flags.now a.fills.now) a.s.nx c.loop-y.y c.loop-y-test.false))
