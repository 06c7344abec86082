-- `flumemirroring::entry::good_axis` is x or z. Assumes nothing.
use borrow.Author.Rules.{rules}
use Rattle.flumemirroring.specs.Outcome.{flume_axis}
use Rattle.flumemirroring.proofs.entry.good_axis.Goals as goal

pub returns : goal.returns
unfolding flume_axis
returns c = search rules
