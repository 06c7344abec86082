-- `conversion::birth::cut_mean`: the quotient is no larger than the sum, so that it fits 32 bits. Assumes nothing.
use Prim.Native.Nat.{◌<◌}
use native.Mathlib.Omega.{arith}
use mir.Syntax.{w64}
use Rattle.whole.specs.laws.Parts.{abs-parts, <-parts}
use Rattle.whole.specs.laws.Bounds.{divisor}
use Rattle.whole.specs.laws.Machine.{machine, any, w64-in, does-fit, reads_as}
use Rattle.conversion.proofs.birth.cut_mean.Goals as goal

pub nonzero_div-result : goal.nonzero_div-result
nonzero_div-result c =
    let n = any w64 c.args.n c.ranges.n.sfits in
    (divisor w64 c.args.n c.ranges.n (omega (arith, <-parts c.requires.0, abs-parts c.args.n)), does-fit (search (machine, w64-in) depth 20) tt)

pub overflow_cast-result : goal.overflow_cast-result
overflow_cast-result c = let n = any w64 c.args.n c.ranges.n.sfits in does-fit (search (machine, w64-in) depth 20) tt

pub returns : goal.returns
returns c = let n = any w64 c.args.n c.ranges.n.sfits in reads_as (search (machine, w64-in) depth 20) tt
