-- `heights::header::is_whole`: the remainder of the magnitude. Assumes nothing.
use mathlib.Core.Path.{ap, ◌∙◌}
use lib.IntN.{nat_abs}
use mir.Facts.{to_z-of_z}
use Prim.Native.Nat.{ℕ, ◌%◌}
use lib.Dec.{eqb}
use Rattle.heights.proofs.header.is_whole.Goals as goal

pub returns : goal.returns
returns c = ap (λ (m : ℕ). eqb (m % 1000) 0) (c.magnitude.ensures ∙ ap nat_abs (to_z-of_z c.ranges.v))
