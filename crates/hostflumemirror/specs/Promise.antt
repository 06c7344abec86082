-- What the flume's mirror promises as an exported call, for every input: number and place of the layer's outcome, 0 0 if accepted, and the second set.
-- Assumes nothing.
use Rattle.std.specs.Prelude.{◌≡◌, ℕ}
use Rattle.grid.specs.State.{Lent}
use Rattle.grid.specs.Outcome.{number_of, place_of}
use Rattle.flume.specs.declared.FlumeSides.{FlumeSides}
use Rattle.flumemirroring.specs.Outcome.{flume_mirror_answer, flume_mirror_second}

pub record FlumeMirrorTold (s : FlumeSides) (axis : ℕ) (a b : Lent) (number place : ℕ) (second : Lent) : Type 0 where
  pub number_is : number ≡ number_of (flume_mirror_answer s axis a b)
  pub place_is : place ≡ place_of (flume_mirror_answer s axis a b)
  pub second_is : second ≡ flume_mirror_second s axis a b
