-- `gridread::play` lends the parts of its room that the record asks for. Assumes nothing.
use mathlib.Core.Path.{sym}
use native.Mathlib.Omega.{arith}
use lib.Seq.{length-take-le}
use Rattle.gridread.proofs.play.Goals as goal

pub slice_bounds-play-end : goal.slice_bounds-play-end
slice_bounds-play-end g c = sym (length-take-le _ _ (omega arith))

pub slice_bounds-play-end-2 : goal.slice_bounds-play-end-2
slice_bounds-play-end-2 g c = sym (length-take-le _ _ (omega arith))

pub slice_bounds-play-end-3 : goal.slice_bounds-play-end-3
slice_bounds-play-end-3 g c = sym (length-take-le _ _ (omega arith))
