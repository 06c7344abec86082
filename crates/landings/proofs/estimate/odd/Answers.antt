-- `landings::estimate::odd`: the product fits, and the shift is the floor. Assumes nothing.
use Rattle.whole.specs.laws.Machine.{Val, same, v32, does-fit, reads_as}
use Rattle.lattice.proofs.Reading.{inside}
use Rattle.landings.proofs.Loss.{shifting}
use Rattle.landings.proofs.estimate.odd.Goals as goal

abbrev wide_is : (c : goal.After-wide) → Val c.wide.result
wide_is c = same c.wide.ensures (v32 (inside c.requires.0))

pub overflow_mul-result : goal.overflow_mul-result
overflow_mul-result c = let x = wide_is c in let h = c.requires.1 in does-fit (search shifting depth 20) tt

pub returns : goal.returns
returns c = let x = wide_is c in let h = c.requires.1 in reads_as (search shifting depth 20) tt
