use Rattle.numerals.proofs.Words.{found}
use Rattle.solids.proofs.Heights.{lay-more, lay-end}
use Rattle.solids.proofs.walls.row_walls.Goals as goal

pub walls_at-k-requires-clause-to_in_bounds : goal.walls_at-k-requires-clause-to_in_bounds
walls_at-k-requires-clause-to_in_bounds c = (found c.loop-i.invariant.inside c.next_word-w.ensures).inside

pub loop-i-preserved : goal.loop-i-preserved
loop-i-preserved c = lay-more c.loop-i.invariant c.loop-i-test.true (found c.loop-i.invariant.inside c.next_word-w.ensures) c.walls_at-k.ensures.value

pub returns : goal.returns
returns c = lay-end c.loop-i.invariant c.loop-i-test.false
