-- `flume::extent::good_sides` is test 1: both sides. Assumes nothing.
use mathlib.Core.Path.{ap₂}
use mathlib.Core.Bool.{Bool, ◌&&◌}
use Rattle.flume.specs.Flume.{flume_sides_good}
use Rattle.flume.proofs.extent.good_sides.Goals as goal

pub returns : goal.returns
unfolding flume_sides_good
returns c = ap₂ (λ (a b : Bool). a && b) c.good_side.ensures c.good_side-2.ensures
