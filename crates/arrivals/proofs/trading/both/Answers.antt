-- `arrivals::trading::both`: two numbers of 32 bits and their sum fit 64. Assumes nothing.
use Prim.Native.Nat.{◌≤◌}
use native.Mathlib.Omega.{arith}
use Rattle.whole.specs.laws.Machine.{machine, does-fit, reads_as}
use Rattle.whole.specs.laws.Casts.{n64}
use Rattle.arrivals.proofs.trading.both.Goals as goal

pub overflow_add-result : goal.overflow_add-result
overflow_add-result c =
    let a : c.args.a ≤ 4294967295 = omega (arith, c.ranges.a) in
    let b : c.args.b ≤ 4294967295 = omega (arith, c.ranges.b) in
    does-fit (search (machine, n64) depth 20) tt

pub returns : goal.returns
returns c =
    let a : c.args.a ≤ 4294967295 = omega (arith, c.ranges.a) in
    let b : c.args.b ≤ 4294967295 = omega (arith, c.ranges.b) in
    reads_as (search (machine, n64) depth 20) tt
