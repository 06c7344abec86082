-- `spelling::spell::put_sign`: a minus where the number is below 0. Assumes nothing.
use mathlib.Core.Path.{◌≡◌, ap}
use mathlib.Core.Bool.{false}
use native.Mathlib.Omega.{arith}
use lib.IntN.{pos}
use lib.ListN.{length}
use lib.Signed.{le_z}
use mir.Facts.{to_z-of_z}
use Rattle.spelling.proofs.Putting.{put-none, put_as, sign-none, sign-minus}
use Rattle.spelling.proofs.spell.put_sign.Lts as lts
use Rattle.spelling.proofs.spell.put_sign.Reads as reads
use Rattle.spelling.proofs.spell.put_sign.Tie as tie
use Rattle.spelling.proofs.spell.put_sign.Goals as goal

abbrev At-Else-z-ge0 : Type 0
At-Else-z-ge0 = lts.Else1 tie.the-claims reads.Pre reads.Post

below : (c : At-Else-z-ge0) → le_z (pos 0) c.args.z ≡ false
below c = rw (to_z-of_z c.ranges.z) at c.if-z-ge0.false

pub returns-then-z-ge0 : goal.returns-then-z-ge0
returns-then-z-ge0 c = put_as (put-none _ _) (sign-none _ (rw (to_z-of_z c.ranges.z) at c.if-z-ge0.true))

pub put_byte-requires : goal.put_byte-requires
put_byte-requires c = omega (arith, ap length (sign-minus c.args.z (below c.before)))

pub returns : goal.returns
returns c = put_as c.put_byte.ensures (sign-minus _ (below c.before.before.before.before.before))
