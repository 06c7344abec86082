-- `conversion::birth::plus`: a sum with room takes one number of 32 bits more. Assumes nothing.
use mir.Syntax.{w32}
use Rattle.whole.specs.laws.Machine.{machine, any, same, w64-in, does-fit, reads_as}
use Rattle.conversion.proofs.birth.plus.Lts as lts
use Rattle.conversion.proofs.birth.plus.Reads as reads
use Rattle.conversion.proofs.birth.plus.Tie as tie
use Rattle.conversion.proofs.birth.plus.Goals as goal

abbrev At-Start : Type 0
At-Start = lts.Start tie.the-claims reads.Pre reads.Post

pub overflow_add-result : goal.overflow_add-result
overflow_add-result c =
    let start : At-Start = search in let b = same c.wide.ensures (any w32 start.args.b start.ranges.b.sfits) in
    does-fit (search (machine, w64-in) depth 20) tt

pub returns : goal.returns
returns c =
    let start : At-Start = search in let b = same c.wide.ensures (any w32 start.args.b start.ranges.b.sfits) in
    reads_as (search (machine, w64-in) depth 20) tt
