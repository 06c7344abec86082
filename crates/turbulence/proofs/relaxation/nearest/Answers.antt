-- `turbulence::relaxation::nearest`: by its definition; the divisor is far above 0. Assumes nothing.
use mathlib.Core.Path.{refl}
use native.Mathlib.Omega.{arith}
use Rattle.turbulence.specs.Turbulence.{nearest}
use Rattle.turbulence.proofs.Own.{nearest-under}
use Rattle.turbulence.proofs.relaxation.nearest.Goals as goal

pub returns : goal.returns
unfolding nearest
returns c = (refl, omega (arith, nearest-under c.args.p c.args.d 4097 (omega arith) (omega arith)))
