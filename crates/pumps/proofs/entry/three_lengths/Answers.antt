-- `pumps::entry::three_lengths` is test 2 by the five lengths. Assumes nothing.
use mathlib.Core.Path.{refl}
use Rattle.pumps.proofs.entry.three_lengths.Goals as goal

pub returns : goal.returns
returns c = refl
