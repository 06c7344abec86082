-- `collision::gravity::pull`: the product fits, and its cut quotient by 2^20 is small. Assumes nothing.
use lib.Dec.{lit<}
use Rattle.whole.specs.laws.Machine.{same, does-fit, reads_as}
use Rattle.lattice.specs.Cell.{pull}
use Rattle.lattice.proofs.Reading.{reading}
use Rattle.collision.proofs.gravity.pull.Goals as goal

pub overflow_mul-result : goal.overflow_mul-result
overflow_mul-result c = let r = same c.wide.ensures (search reading depth 20) in does-fit (search reading depth 20) tt

pub nonzero_div-result : goal.nonzero_div-result
nonzero_div-result c = (lit< tt, (let r = same c.wide.ensures (search reading depth 20) in does-fit (search reading depth 20) tt))

pub overflow_cast-result : goal.overflow_cast-result
overflow_cast-result c = let r = same c.wide.ensures (search reading depth 20) in does-fit (search reading depth 20) tt

pub returns : goal.returns
unfolding pull
returns c = let r = same c.wide.ensures (search reading depth 20) in reads_as (search reading depth 20) tt
