-- `lattice::limits::small`: two tests are one of the absolute value. Assumes nothing.
use mir.Facts.{to_z-of_z}
use Rattle.lattice.proofs.Ranges.{between}
use Rattle.lattice.proofs.limits.small.Goals as goal

pub returns : goal.returns
returns c = rw (to_z-of_z c.ranges.g) (between 1047 c.args.g)
