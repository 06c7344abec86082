use Prim.Native.Nat.{ℕ, zero, suc, ◌*◌, ◌<◌}
use native.Mathlib.Nat.{div-le_self, mul-le-mul}
use native.Mathlib.Omega.{arith}
use Rattle.turbulence.proofs.Roots.{root_by, step-above, step_less}
use Rattle.turbulence.proofs.root.root.Goals as goal

-- a number whose square is above another is above 0
some : (n r : ℕ) → n < r * r → 0 < r
some n zero h = absurd (omega arith)
some n (suc r) h = omega arith

pub returns-then-n-eq0 : goal.returns-then-n-eq0
returns-then-n-eq0 c = root_by c.args.n 0 (omega arith) (record { low = omega arith; high = omega arith })

pub overflow_mul-r : goal.overflow_mul-r
overflow_mul-r c = record { fits = omega (arith, mul-le-mul c.loop-r.invariant.1 c.loop-r.invariant.1) }

pub nonzero_div-r : goal.nonzero_div-r
nonzero_div-r c = some _ _ c.loop-r-test.true

pub overflow_add-r : goal.overflow_add-r
overflow_add-r c = record { fits = omega (arith, div-le_self c.args.n c.loop-r.r) }

pub loop-r-smaller : goal.loop-r-smaller
loop-r-smaller c = step_less _ _ c.loop-r-test.true

pub loop-r-preserved : goal.loop-r-preserved
loop-r-preserved c = (step-above _ _ (some _ _ c.loop-r-test.true), omega (arith, step_less _ _ c.loop-r-test.true))

pub returns : goal.returns
returns c = root_by _ _ (omega arith) (record { low = c.loop-r-test.false; high = c.loop-r.invariant.0 })
