-- `arrivals::trading::difference`: a difference of two numbers of 32 bits fits 64. Assumes nothing.
use mir.Syntax.{w32}
use Rattle.whole.specs.laws.Machine.{machine, any, same, does-fit, reads_as}
use Rattle.arrivals.proofs.trading.difference.Lts as lts
use Rattle.arrivals.proofs.trading.difference.Reads as reads
use Rattle.arrivals.proofs.trading.difference.Tie as tie
use Rattle.arrivals.proofs.trading.difference.Goals as goal

abbrev At-After-wide : Type 0
At-After-wide = lts.After-wide tie.the-claims reads.Pre reads.Post

abbrev At-Start : Type 0
At-Start = lts.Start tie.the-claims reads.Pre reads.Post

pub overflow_sub-result : goal.overflow_sub-result
overflow_sub-result c =
    let after-wide : At-After-wide = search in let s : At-Start = search in
    let a = same after-wide.wide.ensures (any w32 s.args.a s.ranges.a.sfits) in
    let b = same c.wide-2.ensures (any w32 s.args.b s.ranges.b.sfits) in
    does-fit (search machine depth 20) tt

pub returns : goal.returns
returns c =
    let after-wide : At-After-wide = search in let s : At-Start = search in
    let a = same after-wide.wide.ensures (any w32 s.args.a s.ranges.a.sfits) in
    let b = same c.wide-2.ensures (any w32 s.args.b s.ranges.b.sfits) in
    reads_as (search machine depth 20) tt
