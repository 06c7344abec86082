-- `surface::excess::cut_share`: the product fits, and its cut quotient is no larger. Assumes nothing.
use native.Mathlib.Omega.{arith}
use mir.Syntax.{w64}
use Rattle.whole.specs.laws.Parts.{<-parts, abs-parts}
use Rattle.whole.specs.laws.Bounds.{divisor}
use Rattle.whole.specs.laws.Machine.{machine, any, within_by, does-fit, reads_as}
use Rattle.lattice.proofs.Reading.{inside}
use Rattle.surface.proofs.excess.cut_share.Goals as goal

pub overflow_mul-result : goal.overflow_mul-result
overflow_mul-result c = does-fit (search (machine, inside) depth 20) tt

pub nonzero_div-result : goal.nonzero_div-result
nonzero_div-result c =
    let t = any w64 c.args.t c.ranges.t.sfits in
    (divisor w64 c.args.t c.ranges.t (omega (arith, <-parts c.requires.2, abs-parts c.args.t)), does-fit (search (machine, inside) depth 20) tt)

pub returns : goal.returns
returns c =
    let t = any w64 c.args.t c.ranges.t.sfits in
    (reads_as (search (machine, inside) depth 20) tt, within_by (search (machine, inside) depth 20) tt)
