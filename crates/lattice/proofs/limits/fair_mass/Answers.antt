-- `lattice::limits::fair_mass`: two tests are one of the absolute value. Assumes nothing.
use mir.Facts.{to_z-of_z}
use Rattle.lattice.proofs.Ranges.{between}
use Rattle.lattice.proofs.limits.fair_mass.Goals as goal

pub returns : goal.returns
returns c = rw (to_z-of_z c.ranges.m) (between 2359295 c.args.m)
