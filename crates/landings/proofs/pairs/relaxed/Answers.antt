-- `landings::pairs::relaxed`: every product fits, and the quotient by at least 73,728·294,912 is small. Assumes nothing.
use native.Mathlib.Omega.{arith}
use lib.IntN.{◌*ℤ◌}
use mir.Syntax.{w64}
use mir.Val.{to_z, of_z}
use Rattle.whole.specs.laws.Bounds.{abs-above, divisor}
use Rattle.whole.specs.laws.Machine.{Val, machine, same, v*, v32, w64-in, within_by, does-fit, reads_as}
use Rattle.lattice.proofs.Reading.{Least, reading, inside, at_least}
use Rattle.landings.proofs.pairs.relaxed.Lts as lts
use Rattle.landings.proofs.pairs.relaxed.Reads as reads
use Rattle.landings.proofs.pairs.relaxed.Tie as tie
use Rattle.landings.proofs.pairs.relaxed.Goals as goal

abbrev At-After-times : Type 0
At-After-times = lts.After-times tie.the-claims reads.Pre reads.Post

-- w·q − 72ρ·f, then times p over 73,728ρ
abbrev weighed-is : (c : goal.Start) → Val (to_z w64 (of_z w64 c.args.w) *ℤ to_z w64 (of_z w64 c.args.q))
weighed-is c = v* (w64-in c.ranges.w c.requires.2) (w64-in c.ranges.q c.requires.3)

abbrev own_is : (c : At-After-times) → Val c.times.result
own_is c =
    let s = c.before.before in
    same c.times.ensures (v* (v32 (inside s.requires.0.seventy)) (v32 (inside s.requires.1)))

abbrev p-is : (c : goal.Start) → Val c.args.k.p
p-is c = inside c.requires.0.p

abbrev den-is : (c : goal.Start) → Least (to_z w64 (of_z w64 c.args.k.den))
den-is c = at_least w64 c.args.k.den 86973087744 21743271936 c.requires.0.den (abs-above c.requires.0.low)

pub overflow_mul-result : goal.overflow_mul-result
overflow_mul-result c = does-fit (weighed-is c) tt

pub overflow_add-result : goal.overflow_add-result
overflow_add-result c = let w = weighed-is c.before.before.before in let t = own_is c.before in does-fit (search machine depth 20) tt

pub overflow_mul-result-2 : goal.overflow_mul-result-2
overflow_mul-result-2 c =
    let d = c.before.before.before in
    let s = d.before.before in
    let p = p-is s in
    let w = weighed-is s in
    let t = own_is d in
    does-fit (search machine depth 20) tt

pub nonzero_div-result : goal.nonzero_div-result
nonzero_div-result c =
    let d = c.before.before.before.before in
    let s = d.before.before in
    let p = p-is s in
    let w = weighed-is s in
    let t = own_is d in
    let k = den-is s in
    (divisor w64 s.args.k.den (record { sfits = c.struct_told-3-1.given.1.1.1.0.1 }) (omega (arith, abs-above s.requires.0.low)), does-fit (search reading depth 20) tt)

pub overflow_cast-result : goal.overflow_cast-result
overflow_cast-result c =
    let d = c.before.before.before.before in
    let s = d.before.before in
    let p = p-is s in
    let w = weighed-is s in
    let t = own_is d in
    let k = den-is s in
    does-fit (search reading depth 20) tt

pub overflow_add-result-2 : goal.overflow_add-result-2
overflow_add-result-2 c =
    let d = c.before.before.before.before in
    let s = d.before.before in
    let p = p-is s in
    let w = weighed-is s in
    let t = own_is d in
    let k = den-is s in
    let f = s.requires.1 in
    does-fit (search reading depth 20) tt

pub returns : goal.returns
returns c =
    let d = c.before.before.before.before in
    let s = d.before.before in
    let p = p-is s in
    let w = weighed-is s in
    let t = own_is d in
    let k = den-is s in
    let f = s.requires.1 in
    (reads_as (search reading depth 20) tt, within_by (search reading depth 20) tt)
