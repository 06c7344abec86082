use Rattle.std.proofs.Common.{arith}
use Rattle.solids.proofs.Spread.{plane, cells-few, spread-more, spread_end}
use Rattle.solids.proofs.walls.spread.Goals as goal

pub overflow_mul-plane : goal.overflow_mul-plane
overflow_mul-plane c = omega (arith, (plane c.args.s c.requires.s_value).few)

pub nonzero_rem-k : goal.nonzero_rem-k
nonzero_rem-k c = omega (arith, (plane c.args.s c.requires.s_value).some)

pub cell_wall-requires-clause-c_bound : goal.cell_wall-requires-clause-c_bound
cell_wall-requires-clause-c_bound c = omega (arith, c.loop-i.invariant.few, cells-few c.args.s _ c.requires.s_value c.requires.flags_len)

pub loop-i-preserved : goal.loop-i-preserved
loop-i-preserved c = spread-more _ c.loop-i-test.true c.loop-i.invariant c.cell_wall.ensures

pub returns : goal.returns
returns c = spread_end _ c.loop-i-test.false c.loop-i.invariant c.requires.flags_len
