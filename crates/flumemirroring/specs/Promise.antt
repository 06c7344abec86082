-- What the flume's mirror promises of its answer and of every slice that it may write, refused or not. Assumes nothing.
use Rattle.std.specs.Prelude.{◌≡◌, ℕ}
use Rattle.grid.specs.Answer.{Answer}
use Rattle.grid.specs.State.{Lent}
use Rattle.flume.specs.declared.FlumeSides.{FlumeSides}
use Rattle.flumemirroring.specs.Outcome.{flume_mirror_answer, flume_mirror_second}

pub record FlumeMirrored (s : FlumeSides) (axis : ℕ) (a b : Lent) (answer : Answer) (second : Lent) : Type 0 where
  pub answer-is : answer ≡ flume_mirror_answer s axis a b
  pub second_is : second ≡ flume_mirror_second s axis a b
