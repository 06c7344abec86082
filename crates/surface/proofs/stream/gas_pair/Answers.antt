-- `surface::stream::gas_pair`: every product fits for a tame flow, and the density's square is not 0. Assumes nothing.
use mathlib.Core.Path.{sym, ◌∙◌, ap}
use Prim.Native.Nat.{◌<◌, ◌≤◌}
use native.Mathlib.Nat.{mul-le-mul}
use native.Mathlib.Omega.{arith}
use lib.IntN.{ℤ, pos, nat_abs, ◌+ℤ◌, ◌-ℤ◌, ◌*ℤ◌}
use lib.Signed.{quot_z, yes_non_neg, pos-nat_abs}
use mir.Syntax.{w64}
use mir.Val.{to_z, of_z}
use Rattle.whole.specs.laws.Bounds.{abs-above, abs-mul}
use Rattle.whole.specs.laws.Machine.{Val, machine, w64-in, same, v+, v*, v32, does-fit, reads_as, not-zero}
use Rattle.lattice.specs.declared.Flow.{Flow}
use Rattle.lattice.specs.Lattice.{dot}
use Rattle.lattice.specs.Cell.{gas_pair}
use Rattle.lattice.specs.inner.Held.{vec, Tame}
use Rattle.lattice.proofs.Tame.{wider}
use Rattle.lattice.proofs.Reading.{inside}
use Rattle.surface.proofs.stream.gas_pair.Lts as lts
use Rattle.surface.proofs.stream.gas_pair.Reads as reads
use Rattle.surface.proofs.stream.gas_pair.Tie as tie
use Rattle.surface.proofs.stream.gas_pair.Goals as goal

abbrev At-Start : Type 0
At-Start = lts.Start tie.the-claims reads.Pre reads.Post

abbrev At-After-times-r : Type 0
At-After-times-r = lts.After-times tie.the-claims reads.Pre reads.Post

abbrev At-After-times : Type 0
At-After-times = lts.After-times2 tie.the-claims reads.Pre reads.Post

square : (v : Flow) → Tame v → 0 < nat_abs (v.rho *ℤ v.rho)
square v t =
    let h : 1 ≤ nat_abs v.rho = omega (arith, abs-above t.low) in
    omega (arith, abs-mul v.rho v.rho, mul-le-mul h h)

-- the weight, and what the three calls give
abbrev w-is : (c : At-Start) → Val (to_z w64 (of_z w64 c.args.w))
w-is c = w64-in c.ranges.w c.requires.2

abbrev square-is : (c : At-After-times-r) → Val c.times-r.result
square-is c = let r = v32 (inside c.requires.0.rho) in same c.times-r.ensures (v* r r)

abbrev along-is : (c : At-After-times) → Val c.times.result
along-is c = let d = v32 (inside c.requires.3) in same c.times.ensures (v* d d)

abbrev speed-is : (c : goal.After-speed_squared) → Val c.speed_squared.result
speed-is c =
    let t = c.requires.0 in
    let x = inside t.x in
    let y = inside t.y in
    let z = inside t.z in
    same c.speed_squared.ensures (v+ (v+ (v* x x) (v* y y)) (v* z z))

pub overflow_mul-result : goal.overflow_mul-result
overflow_mul-result c = let w = w-is c.before.before.before.before in does-fit (search machine depth 20) tt

pub overflow_mul-result-2 : goal.overflow_mul-result-2
overflow_mul-result-2 c = let r = square-is c.before in does-fit (search machine depth 20) tt

pub overflow_mul-result-3 : goal.overflow_mul-result-3
overflow_mul-result-3 c = let d = along-is c.before in does-fit (search machine depth 20) tt

pub overflow_add-result : goal.overflow_add-result
overflow_add-result c = let r = square-is c.before.before in let d = along-is c.before in does-fit (search machine depth 20) tt

pub speed_squared-requires : goal.speed_squared-requires
speed_squared-requires c = let t = c.requires.0 in (wider t.x, wider t.y, wider t.z)

pub overflow_mul-result-4 : goal.overflow_mul-result-4
overflow_mul-result-4 c = let q = speed-is c in does-fit (search machine depth 20) tt

pub overflow_sub-result : goal.overflow_sub-result
overflow_sub-result c =
    let r = square-is c.before.before in
    let d = along-is c.before in
    let q = speed-is c in
    does-fit (search machine depth 20) tt

pub overflow_mul-result-5 : goal.overflow_mul-result-5
overflow_mul-result-5 c =
    let w = w-is c.before.before.before.before.before in
    let r = square-is c.before.before in
    let d = along-is c.before in
    let q = speed-is c in
    does-fit (search machine depth 20) tt

pub nonzero_div-result : goal.nonzero_div-result
nonzero_div-result c =
    let s = c.before.before.before.before.before in
    let w = w-is s in
    let r = square-is c.before.before in
    let d = along-is c.before in
    let q = speed-is c in
    (not-zero w64 r tt (square s.args.v s.requires.0), does-fit (search machine depth 20) tt)

pub returns : goal.returns
unfolding gas_pair
returns c =
    let s = c.before.before.before.before.before in
    let v = s.args.v in
    let w = w-is s in
    let r = square-is c.before.before in
    let d = along-is c.before in
    let q = speed-is c in
    reads_as (search machine depth 20) tt
    ∙ ap (λ (z : ℤ). quot_z (z *ℤ pos 16384 *ℤ (pos 2 *ℤ (v.rho *ℤ v.rho) +ℤ pos 9 *ℤ (s.args.d *ℤ s.args.d) -ℤ pos 3 *ℤ dot (vec v) (vec v))) (v.rho *ℤ v.rho))
    (sym (pos-nat_abs s.args.w (yes_non_neg s.requires.1)))
