-- `heights::header::units`: a cut quotient, which fits. Assumes nothing.
use mathlib.Core.Path.{ap, ◌∙◌}
use native.Mathlib.Omega.{arith}
use lib.IntN.{ℤ, pos}
use lib.Signed.{quot_z}
use mir.Facts.{to_z-of_z}
use Rattle.heights.proofs.Headers.{units-fit}
use Rattle.heights.proofs.header.units.Goals as goal

pub nonzero_div-result : goal.nonzero_div-result
nonzero_div-result c = (omega arith, rw (to_z-of_z c.ranges.v) (units-fit _ c.ranges.v))

pub returns : goal.returns
returns c = to_z-of_z (nonzero_div-result c).1 ∙ ap (λ (z : ℤ). quot_z z (pos 1000)) (to_z-of_z c.ranges.v)
