-- `invert::testing::set_fits` is both tests of lengths. Assumes nothing.
use mathlib.Core.Path.{ap₂}
use mathlib.Core.Bool.{◌&&◌}
use Rattle.invert.specs.Outcome.{set_fits}
use Rattle.invert.proofs.testing.set_fits.Goals as goal

pub returns : goal.returns
unfolding set_fits
returns c = ap₂ ◌&&◌ c.three_lengths-set.ensures c.good_lengths-index.ensures
