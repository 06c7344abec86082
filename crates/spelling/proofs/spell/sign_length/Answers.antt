-- `spelling::spell::sign_length`: one for a minus. Assumes nothing.
use mathlib.Core.Path.{ap}
use lib.ListN.{length}
use mir.Facts.{to_z-of_z}
use Rattle.spelling.proofs.Putting.{sign-none, sign-minus}
use Rattle.spelling.proofs.spell.sign_length.Goals as goal

pub returns-then-z-ge0 : goal.returns-then-z-ge0
returns-then-z-ge0 c = ap length (sign-none _ (rw (to_z-of_z c.ranges.z) at c.if-z-ge0.true))

pub returns : goal.returns
returns c = ap length (sign-minus _ (rw (to_z-of_z c.ranges.z) at c.if-z-ge0.false))
