-- `turbulence::relaxation::under`: every product fits. Assumes nothing.
use mathlib.Core.Path.{refl}
use Prim.Native.Nat.{◌*◌, ◌-◌, ◌≤◌}
use native.Mathlib.Nat.{mul-le-mul, mul-le-mul_left}
use native.Mathlib.Omega.{arith}
use Rattle.turbulence.specs.Turbulence.{under}
use Rattle.turbulence.proofs.Own.{under-most, under_some}
use Rattle.turbulence.proofs.relaxation.under.Goals as goal

pub overflow_mul-result : goal.overflow_mul-result
overflow_mul-result c = let a : 12800 * (2048 - c.args.p) ≤ 26201600 = omega arith in record { fits = omega (arith, mul-le-mul a a) }

pub overflow_mul-result-2 : goal.overflow_mul-result-2
overflow_mul-result-2 c = record { fits = omega (arith, mul-le-mul c.requires.1 c.requires.1) }

pub overflow_mul-result-3 : goal.overflow_mul-result-3
overflow_mul-result-3 c = record { fits = omega (arith, mul-le-mul c.requires.1 c.requires.1) }

pub overflow_mul-result-4 : goal.overflow_mul-result-4
overflow_mul-result-4 c = record { fits = omega (arith, mul-le-mul (mul-le-mul_left 162 (mul-le-mul c.requires.1 c.requires.1)) c.requires.2) }

pub overflow_add-result : goal.overflow_add-result
unfolding under
overflow_add-result c = let h = under-most c.args.p c.args.s c.requires.0 c.requires.1 c.requires.2 in record { fits = omega arith }

pub returns : goal.returns
unfolding under
returns c = (refl, under_some c.args.p c.args.s c.requires.1, under-most c.args.p c.args.s c.requires.0 c.requires.1 c.requires.2)
