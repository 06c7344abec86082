-- `tally::listing::plus`: a sum with room takes one number of 32 bits more. Assumes nothing.
use mir.Syntax.{w32}
use Rattle.whole.specs.laws.Machine.{machine, any, same, w64-in, does-fit, reads_as}
use Rattle.tally.proofs.listing.plus.Goals as goal

pub overflow_add-result : goal.overflow_add-result
overflow_add-result c =
    let b = same c.wide.ensures (any w32 c.args.mass c.ranges.mass.sfits) in
    does-fit (search (machine, w64-in) depth 20) tt

pub returns : goal.returns
returns c =
    let b = same c.wide.ensures (any w32 c.args.mass c.ranges.mass.sfits) in
    reads_as (search (machine, w64-in) depth 20) tt
