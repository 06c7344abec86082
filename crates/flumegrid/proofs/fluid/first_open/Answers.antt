-- `flumegrid::fluid::first_open`: by the flume's offsets, test 5's place. Assumes nothing.
use mathlib.Core.Path.{◌∙◌}
use Rattle.flumegrid.proofs.Open.{open-flume, embedded}
use Rattle.flumegrid.proofs.fluid.first_open.Goals as goal

pub first_open_by-requires : goal.first_open_by-requires
first_open_by-requires c = embedded c.requires _ _ c.offsets-off.ensures c.low_of-low.ensures

pub returns : goal.returns
returns c = c.first_open_by.ensures ∙ open-flume c.requires _ _ c.offsets-off.ensures c.low_of-low.ensures
