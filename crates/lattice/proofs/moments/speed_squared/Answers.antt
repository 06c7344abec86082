-- `lattice::moments::speed_squared`: the squares and their sums fit. Assumes nothing.
use Rattle.whole.specs.laws.Machine.{Val, machine, same, v*, v32, does-fit, reads_as}
use Rattle.lattice.proofs.Reading.{inside}
use Rattle.lattice.proofs.moments.speed_squared.Lts as lts
use Rattle.lattice.proofs.moments.speed_squared.Reads as reads
use Rattle.lattice.proofs.moments.speed_squared.Tie as tie
use Rattle.lattice.proofs.moments.speed_squared.Goals as goal

abbrev At-After-times : Type 0
At-After-times = lts.After-times tie.the-claims reads.Pre reads.Post

abbrev At-After-times-2 : Type 0
At-After-times-2 = lts.After-times2 tie.the-claims reads.Pre reads.Post

abbrev x-is : (c : At-After-times) → Val c.times.result
x-is c = let x = v32 (inside c.requires.0) in same c.times.ensures (v* x x)

abbrev y-is : (c : At-After-times-2) → Val c.times-2.result
y-is c = let y = v32 (inside c.requires.1) in same c.times-2.ensures (v* y y)

abbrev z-is : (c : goal.After-times-3) → Val c.times-3.result
z-is c = let z = v32 (inside c.requires.2) in same c.times-3.ensures (v* z z)

pub overflow_add-result : goal.overflow_add-result
overflow_add-result c = let x = x-is c.before.before.before.before in let y = y-is c.before in does-fit (search machine depth 20) tt

pub overflow_add-result-2 : goal.overflow_add-result-2
overflow_add-result-2 c = let x = x-is c.before.before.before.before.before.before in let y = y-is c.before.before.before in let z = z-is c in does-fit (search machine depth 20) tt

pub returns : goal.returns
returns c = let x = x-is c.before.before.before.before.before.before in let y = y-is c.before.before.before in let z = z-is c in reads_as (search machine depth 20) tt
