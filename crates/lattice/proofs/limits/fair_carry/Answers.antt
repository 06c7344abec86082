-- `lattice::limits::fair_carry`: two tests are one of the absolute value. Assumes nothing.
use mir.Facts.{to_z-of_z}
use Rattle.lattice.proofs.Ranges.{between}
use Rattle.lattice.proofs.limits.fair_carry.Goals as goal

pub returns : goal.returns
returns c = rw (to_z-of_z c.ranges.k) (between 999999999999 c.args.k)
