-- `gridrun::play` lends the parts of its room that the record asks for. Assumes nothing.
use mathlib.Core.Path.{sym}
use native.Mathlib.Omega.{arith}
use lib.Seq.{length-take-le}
use Rattle.gridrun.proofs.play.Goals as goal

pub slice_bounds-play-end : goal.slice_bounds-play-end
slice_bounds-play-end g c = sym (length-take-le _ _ (omega arith))

pub slice_bounds-play-end-2 : goal.slice_bounds-play-end-2
slice_bounds-play-end-2 g c = sym (length-take-le _ _ (omega arith))

pub slice_bounds-play-end-3 : goal.slice_bounds-play-end-3
slice_bounds-play-end-3 g c = sym (length-take-le _ _ (omega arith))

pub slice_bounds-play-end-4 : goal.slice_bounds-play-end-4
slice_bounds-play-end-4 g c = sym (length-take-le _ _ (omega arith))

pub slice_bounds-play-end-6 : goal.slice_bounds-play-end-6
slice_bounds-play-end-6 g c = sym (length-take-le _ _ (omega arith))

pub slice_bounds-play-end-7 : goal.slice_bounds-play-end-7
slice_bounds-play-end-7 g c = sym (length-take-le _ _ (omega arith))

pub slice_bounds-play-end-8 : goal.slice_bounds-play-end-8
slice_bounds-play-end-8 g c = sym (length-take-le _ _ (omega arith))

pub slice_bounds-play-end-9 : goal.slice_bounds-play-end-9
slice_bounds-play-end-9 g c = sym (length-take-le _ _ (omega arith))

pub slice_bounds-play-end-11 : goal.slice_bounds-play-end-11
slice_bounds-play-end-11 g c = sym (length-take-le _ _ (omega arith))
