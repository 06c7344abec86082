-- `lattice::directions::apart`: the difference of two parts that are within ±2^25 fits. Assumes nothing.
use Prim.Native.Nat.{◌+◌, ◌*◌}
use native.Mathlib.Omega.{arith}
use Rattle.whole.specs.laws.Machine.{does-fit, reads_as}
use Rattle.lattice.proofs.Reading.{reading}
use Rattle.lattice.proofs.directions.apart.Goals as goal

pub overflow_sub-result : goal.overflow_sub-result
overflow_sub-result c =
    let s = c.before.before in
    let a = s.requires.0.at (2 * s.args.h + 1) (omega arith) (omega arith) in
    let b = s.requires.0.at (2 * s.args.h + 2) (omega arith) (omega arith) in
    does-fit (search reading depth 20) tt

pub returns : goal.returns
returns c =
    let s = c.before.before in
    let a = s.requires.0.at (2 * s.args.h + 1) (omega arith) (omega arith) in
    let b = s.requires.0.at (2 * s.args.h + 2) (omega arith) (omega arith) in
    reads_as (search reading depth 20) tt
