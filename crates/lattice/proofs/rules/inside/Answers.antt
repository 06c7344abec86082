-- `lattice::rules::inside`: two tests are one of the absolute value. Assumes nothing.
use mir.Facts.{to_z-of_z}
use Rattle.lattice.proofs.Ranges.{between}
use Rattle.lattice.proofs.rules.inside.Goals as goal

pub returns : goal.returns
returns c = rw (to_z-of_z c.ranges.v) (between 1179647 c.args.v)
