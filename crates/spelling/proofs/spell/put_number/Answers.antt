-- `spelling::spell::put_number`: as many digits as it has. Assumes nothing.
use native.Mathlib.Omega.{arith}
use Rattle.spelling.proofs.Putting.{put_as, spell-is, spell-long}
use Rattle.spelling.proofs.spell.put_number.Goals as goal

pub put_digits-requires : goal.put_digits-requires
put_digits-requires c = omega (arith, c.width-k.ensures, spell-long c.args.n)

pub returns : goal.returns
returns c = put_as c.put_digits.ensures (spell-is _ _ c.width-k.ensures)
