-- `turbulence::stress::shared_of`: a flow that passes stage 3's test is tame, so every product fits and 6ρ is not 0. Assumes nothing.
use mathlib.Core.Path.{◌≡◌, ap}
use Prim.Native.Nat.{ℕ, ◌*◌, ◌<◌, ◌≤◌}
use native.Mathlib.Omega.{arith}
use lib.IntN.{nat_abs}
use mir.Syntax.{w32, w64}
use mir.Val.{to_z, of_z}
use Rattle.whole.specs.laws.Bounds.{abs-above}
use Rattle.whole.specs.laws.Casts.{index-asks}
use Rattle.whole.specs.laws.Order.{≤ℤ-trans}
use Rattle.whole.specs.laws.Machine.{Val, machine, same, v+, v*, v32, does-fit, reads_as}
use Rattle.lattice.specs.inner.Held.{Tame}
use Rattle.lattice.proofs.Reading.{inside}
use Rattle.lattice.proofs.Tame.{steady-tame, wider}
use Rattle.turbulence.proofs.Quotients.{inverse-low, inverse-high}
use Rattle.turbulence.proofs.stress.shared_of.Lts as lts
use Rattle.turbulence.proofs.stress.shared_of.Reads as reads
use Rattle.turbulence.proofs.stress.shared_of.Tie as tie
use Rattle.turbulence.proofs.stress.shared_of.Goals as goal

abbrev At-Start : Type 0
At-Start = lts.Start tie.the-claims reads.Pre reads.Post

abbrev At-After-times : Type 0
At-After-times = lts.After-times tie.the-claims reads.Pre reads.Post

module _ (s : At-Start) where
  tame : Tame s.args.v
  tame = steady-tame s.args.v s.requires

  abbrev rho-is : Val (to_z w32 (of_z w32 s.args.v.rho))
  rho-is = v32 (inside tame.rho)

  abbrev r : ℕ
  r = nat_abs s.args.v.rho

  r-low : 294912 ≤ r
  r-low = abs-above tame.low

  read : nat_abs (to_z w32 (of_z w32 s.args.v.rho)) ≡ r
  read = ap nat_abs (reads_as rho-is tt)

-- what the calls give
abbrev square-is : (c : At-After-times) → Val c.times.result
square-is c = let r = v32 (inside (tame c.before.before.before.before.before).rho) in same c.times.ensures (v* r r)

abbrev speed-is : (c : goal.After-speed_squared) → Val c.speed_squared.result
speed-is c =
    let t = tame c.before.before.before.before.before.before in
    let x = inside t.x in
    let y = inside t.y in
    let z = inside t.z in
    same c.speed_squared.ensures (v+ (v+ (v* x x) (v* y y)) (v* z z))

pub overflow_cast-den : goal.overflow_cast-den
overflow_cast-den c = let s = c.before.before.before in index-asks w64 (rho-is s) tt (≤ℤ-trans (record { le = tt }) (tame s).low)

pub overflow_mul-den : goal.overflow_mul-den
overflow_mul-den c = let s = c.before.before.before in record { fits = omega (arith, read s, (tame s).rho.abs) }

pub overflow_mul-result : goal.overflow_mul-result
overflow_mul-result c = let r = square-is c.before in does-fit (search machine depth 20) tt

pub speed_squared-requires : goal.speed_squared-requires
speed_squared-requires c = let t = tame c.before.before.before.before.before.before in (wider t.x, wider t.y, wider t.z)

pub overflow_mul-result-2 : goal.overflow_mul-result-2
overflow_mul-result-2 c = let q = speed-is c in does-fit (search machine depth 20) tt

pub overflow_sub-result : goal.overflow_sub-result
overflow_sub-result c = let r = square-is c.before in let q = speed-is c in does-fit (search machine depth 20) tt

pub nonzero_div-result : goal.nonzero_div-result
nonzero_div-result c = let s = c.before.before.before.before.before.before in omega (arith, read s, r-low s)

pub returns : goal.returns
returns c =
    let s = c.before.before.before.before.before.before in
    let a = square-is c.before in
    let q = speed-is c in
    let some : 0 < 6 * r s = omega (arith, r-low s) in
    record {
      base = reads_as (search machine depth 20) tt;
      den = ap (λ (n : ℕ). 6 * n) (read s);
      low = rw (read s) (inverse-low (6 * r s) some);
      high = rw (read s) (inverse-high (6 * r s) some);
    }
