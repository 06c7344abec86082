-- `turbulence::relaxation::divisor`: by its definition. Assumes nothing.
use mathlib.Core.Path.{refl}
use native.Mathlib.Omega.{arith}
use Rattle.turbulence.specs.Turbulence.{divisor}
use Rattle.turbulence.proofs.relaxation.divisor.Goals as goal

pub returns : goal.returns
unfolding divisor
returns c = (refl, omega arith, omega arith)
