-- `calls::totals::put_carry`: the first of three numbers. Assumes nothing.
use mathlib.Core.Path.{ap, ◌∙◌}
use lib.IntN.{ℤ}
use lib.ListN.{set}
use mir.Facts.{to_z-of_z}
use Rattle.calls.proofs.ThreePut.{carry-put}
use Rattle.calls.proofs.totals.put_carry.Goals as goal

pub returns : goal.returns
returns c = ap (λ (z : ℤ). set c.args.totals.now 0 z) (to_z-of_z c.ranges.carry) ∙ carry-put c.args.totals.now c.args.carry c.requires
