-- `gridrun::playing::save` writes no more than the room holds. Assumes nothing.
use mathlib.Core.Path.{sym}
use native.Mathlib.Omega.{arith}
use lib.Seq.{length-take-le}
use Rattle.gridrun.proofs.playing.save.Goals as goal

pub slice_bounds-word-end-2 : goal.slice_bounds-word-end-2
slice_bounds-word-end-2 g c = sym (length-take-le _ _ (omega arith))
