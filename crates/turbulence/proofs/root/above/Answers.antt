-- `turbulence::root::above`: a step from any guess above 0 is not below the root. Assumes nothing.
use native.Mathlib.Nat.{div-le_self}
use native.Mathlib.Omega.{arith}
use Rattle.turbulence.proofs.Roots.{step-above}
use Rattle.turbulence.proofs.root.above.Goals as goal

pub overflow_add-r : goal.overflow_add-r
overflow_add-r c = record { fits = omega (arith, div-le_self c.args.n c.start-g.result) }

pub returns-then-r-lt1073741824 : goal.returns-then-r-lt1073741824
returns-then-r-lt1073741824 c = (step-above c.args.n c.start-g.result c.start-g.ensures.0, omega arith)
