-- `landings::pairs::common_of`: every product fits for a tame flow. Assumes nothing.
use mathlib.Core.Path.{◌≡◌}
use lib.IntN.{pos, ◌*ℤ◌}
use mir.Syntax.{w64}
use mir.Val.{to_z, of_z}
use mir.Facts.{to_z-of_z}
use Rattle.whole.specs.laws.Machine.{Val, machine, same, v+, v*, v32, does-fit, reads_as}
use Rattle.lattice.proofs.Tame.{wider}
use Rattle.lattice.proofs.Reading.{reading, inside}
use Rattle.landings.proofs.pairs.common_of.Lts as lts
use Rattle.landings.proofs.pairs.common_of.Reads as reads
use Rattle.landings.proofs.pairs.common_of.Tie as tie
use Rattle.landings.proofs.pairs.common_of.Goals as goal

abbrev At-After-wide-den : Type 0
At-After-wide-den = lts.After-wide tie.the-claims reads.Pre reads.Post

abbrev At-After-times : Type 0
At-After-times = lts.After-times tie.the-claims reads.Pre reads.Post

abbrev At-After-speed_squared : Type 0
At-After-speed_squared = lts.After-speed_squared tie.the-claims reads.Pre reads.Post

-- what the calls give
abbrev wide_is : (c : At-After-wide-den) → Val c.wide-den.result
wide_is c = same c.wide-den.ensures (v32 (inside c.requires.0.rho))

abbrev square-is : (c : At-After-times) → Val c.times.result
square-is c = let r = v32 (inside c.requires.0.rho) in same c.times.ensures (v* r r)

abbrev speed-is : (c : At-After-speed_squared) → Val c.speed_squared.result
speed-is c =
    let t = c.requires.0 in
    let x = inside t.x in
    let y = inside t.y in
    let z = inside t.z in
    same c.speed_squared.ensures (v+ (v+ (v* x x) (v* y y)) (v* z z))

-- the divisor, as the machine holds it
den-is : (c : At-After-wide-den) → to_z w64 (of_z w64 (pos 73728 *ℤ to_z w64 (of_z w64 c.wide-den.result))) ≡ pos 73728 *ℤ c.args.v.rho
den-is c = let r = wide_is c in reads_as (search machine depth 20) tt

pub overflow_mul-den : goal.overflow_mul-den
overflow_mul-den c = let r = wide_is c.before in does-fit (search machine depth 20) tt

pub overflow_mul-result : goal.overflow_mul-result
overflow_mul-result c = let r = square-is c.before in does-fit (search machine depth 20) tt

pub speed_squared-requires : goal.speed_squared-requires
speed_squared-requires c = let t = c.requires.0 in (wider t.x, wider t.y, wider t.z)

pub overflow_mul-result-2 : goal.overflow_mul-result-2
overflow_mul-result-2 c = let q = speed-is c.before in does-fit (search machine depth 20) tt

pub overflow_sub-result : goal.overflow_sub-result
overflow_sub-result c = let r = square-is c.before.before in let q = speed-is c.before in does-fit (search machine depth 20) tt

pub overflow_mul-result-3 : goal.overflow_mul-result-3
overflow_mul-result-3 c = let h = c.requires.0.rho in does-fit (search reading depth 20) tt

pub overflow_mul-result-4 : goal.overflow_mul-result-4
overflow_mul-result-4 c =
    let h = c.requires.0.rho in
    does-fit (search reading depth 20) tt

pub returns : goal.returns
returns c =
    let e = c.before.before.before.before in
    let d = e.before.before.before.before in
    let s = d.before.before in
    let h = s.requires.0.rho in
    let w = wide_is d in
    let r = square-is e.before in
    let q = speed-is e in
    record {
      base = reads_as (search machine depth 20) tt;
      six = reads_as (search reading depth 20) tt;
      seventy = reads_as (search reading depth 20) tt;
      den = den-is d;
      p = to_z-of_z s.ranges.p;
    }
