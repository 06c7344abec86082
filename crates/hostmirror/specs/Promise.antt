-- What the mirror promises as an exported call, for every input: number and place of the layer's outcome, 0 0 if accepted, and the second set with its index.
-- Assumes nothing.
use Rattle.std.specs.Prelude.{◌≡◌, ℕ}
use Rattle.grid.specs.declared.Sides.{Sides}
use Rattle.grid.specs.State.{Lent}
use Rattle.grid.specs.Outcome.{number_of, place_of}
use Rattle.index.specs.Held.{Held}
use Rattle.mirroring.specs.Outcome.{mirror_answer, mirror_second}

pub record MirrorTold (s : Sides) (axis : ℕ) (a : Lent) (b : Held) (number place : ℕ) (second : Held) : Type 0 where
  pub number_is : number ≡ number_of (mirror_answer s axis a b)
  pub place_is : place ≡ place_of (mirror_answer s axis a b)
  pub second_is : second ≡ mirror_second s axis a b
