-- What the mirror promises of its answer and of every slice that it may write, refused or not. Assumes nothing.
use Rattle.std.specs.Prelude.{◌≡◌, ℕ}
use Rattle.grid.specs.declared.Sides.{Sides}
use Rattle.grid.specs.Answer.{Answer}
use Rattle.grid.specs.State.{Lent}
use Rattle.index.specs.Held.{Held}
use Rattle.mirroring.specs.Outcome.{mirror_answer, mirror_second}

pub record Mirrored (s : Sides) (axis : ℕ) (a : Lent) (b : Held) (answer : Answer) (second : Held) : Type 0 where
  pub answer-is : answer ≡ mirror_answer s axis a b
  pub second_is : second ≡ mirror_second s axis a b
