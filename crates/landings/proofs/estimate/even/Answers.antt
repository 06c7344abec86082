-- `landings::estimate::even`: every product fits. Assumes nothing.
use native.Mathlib.Omega.{arith}
use Rattle.whole.specs.laws.Machine.{Val, same, v32, does-fit, reads_as}
use Rattle.lattice.proofs.Reading.{inside}
use Rattle.landings.proofs.Loss.{shifting}
use Rattle.landings.proofs.estimate.even.Goals as goal

abbrev wide_is : (c : goal.After-wide) → Val c.wide.result
wide_is c = same c.wide.ensures (v32 (inside c.requires.1))

pub overflow_mul-result : goal.overflow_mul-result
overflow_mul-result c = let r = wide_is c in let p = c.requires.0 in does-fit (search shifting depth 20) tt

pub overflow_mul-result-2 : goal.overflow_mul-result-2
overflow_mul-result-2 c = let r = wide_is c in let s = c.requires in does-fit (search shifting depth 20) tt

pub overflow_mul-result-3 : goal.overflow_mul-result-3
overflow_mul-result-3 c = let s = c.requires in does-fit (search shifting depth 20) tt

pub overflow_sub-result : goal.overflow_sub-result
overflow_sub-result c = let r = wide_is c in let s = c.requires in does-fit (search shifting depth 20) tt

pub nonzero_div-result : goal.nonzero_div-result
nonzero_div-result c = let r = wide_is c in let s = c.requires in (omega arith, does-fit (search shifting depth 20) tt)

pub returns : goal.returns
returns c = let r = wide_is c in let s = c.requires in reads_as (search shifting depth 20) tt
