-- `landings::landing::mixed`: the high word, the part's own share and their sum fit. Assumes nothing.
use mathlib.Core.Path.{ap₂}
use Prim.Native.Nat.{◌/◌, ◌≤◌}
use native.Mathlib.Nat.{mul-le-mul_right}
use native.Mathlib.Omega.{arith}
use lib.IntN.{pos, nat_abs, ◌+ℤ◌, ◌*ℤ◌}
use mir.Syntax.{w32}
use mir.Val.{to_z, of_z}
use Rattle.whole.specs.laws.Bounds.{abs-add, abs-mul}
use Rattle.whole.specs.laws.Casts.{n32}
use Rattle.whole.specs.laws.Machine.{Val, known, same, v*, v32, within_by, does-fit, reads_as}
use Rattle.lattice.proofs.Reading.{inside}
use Rattle.landings.specs.inner.Estimate.{mixed}
use Rattle.landings.proofs.landing.mixed.Goals as goal

module _ (c : goal.Start) where
  high-in : c.args.e / 4294967296 ≤ 2147483646
  high-in = omega (arith, c.requires.fit)

  abbrev own_is : Val (to_z w32 (of_z w32 c.args.c) *ℤ to_z w32 (of_z w32 c.args.f))
  own_is = v* (v32 (inside c.requires.own)) (v32 (inside c.requires.part))

  sum-in : nat_abs (mixed c.args.e c.args.f c.args.c) ≤ 2147483646
  sum-in =
      omega (
        arith,
        abs-add (pos (c.args.e / 4294967296)) (c.args.c *ℤ c.args.f),
        abs-mul c.args.c c.args.f,
        mul-le-mul_right (nat_abs c.args.f) c.requires.own.abs,
        c.requires.fit,
      )

  abbrev sum_is : Val (to_z w32 (c.args.e / 4294967296) +ℤ to_z w32 (of_z w32 (to_z w32 (of_z w32 c.args.c) *ℤ to_z w32 (of_z w32 c.args.f))))
  sum_is =
      same (ap₂ ◌+ℤ◌ (reads_as (n32 {n = c.args.e / 4294967296} {k = 2147483646} high-in) tt) (reads_as (v32 own_is) tt))
      (known (mixed c.args.e c.args.f c.args.c) 2147483646 sum-in)

pub overflow_cast-result : goal.overflow_cast-result
overflow_cast-result c = does-fit (known (pos (c.args.e / 4294967296)) 2147483646 (high-in c)) tt

pub overflow_mul-result : goal.overflow_mul-result
overflow_mul-result c = does-fit (own_is c) tt

pub overflow_add-result : goal.overflow_add-result
overflow_add-result c = does-fit (sum_is c) tt

pub returns : goal.returns
returns c = (reads_as (v32 (sum_is c)) tt, within_by (v32 (sum_is c)) tt)
