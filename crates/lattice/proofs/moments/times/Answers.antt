-- `lattice::moments::times`: a product of two numbers of 32 bits fits 64. Assumes nothing.
use Rattle.whole.specs.laws.Machine.{machine, same, does-fit, reads_as}
use Rattle.lattice.proofs.Reading.{whole32}
use Rattle.lattice.proofs.moments.times.Goals as goal

pub overflow_mul-result : goal.overflow_mul-result
overflow_mul-result c =
    let s = c.before.before in
    let a = same c.wide.ensures (whole32 s.ranges.a) in
    let b = same c.wide-2.ensures (whole32 s.ranges.b) in
    does-fit (search machine depth 20) tt

pub returns : goal.returns
returns c =
    let s = c.before.before in
    let a = same c.wide.ensures (whole32 s.ranges.a) in
    let b = same c.wide-2.ensures (whole32 s.ranges.b) in
    reads_as (search machine depth 20) tt
