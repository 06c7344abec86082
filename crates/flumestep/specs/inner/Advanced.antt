-- The step of a flume that passed tests 1 to 6: what its passes leave, before a refused step is copied and after it. Assumes nothing.
use Rattle.std.specs.Prelude.{◌≡◌, cond, List, ℕ, length, replicate}
use Rattle.grid.specs.Answer.{Answer}
use Rattle.grid.specs.Answer.{Done}
use Rattle.grid.specs.State.{Lent}
use Rattle.grid.specs.Outcome.{accepted, move_answer}
use Rattle.flume.specs.declared.FlumeSides.{FlumeSides}
use Rattle.flume.specs.declared.FlumeSettings.{FlumeSettings}
use Rattle.flume.specs.Flume.{flume_cells}
use Rattle.flume.specs.Outcome.{flume_scene, flume_next}
use Rattle.flumegrid.specs.inner.Ready.{FlumeSized}

-- tests 7 and 8 have answered: where both pass the next state is there, else only the lengths are known
pub record FlumeTried (s : FlumeSides) (g : FlumeSettings) (a : Lent) (answer : Answer) (second : Lent) (after : List ℕ) : Type 0 where
  pub answer-is : answer ≡ move_answer (flume_scene s g a)
  pub sized : FlumeSized (flume_cells s) second
  pub marks-kept : length after ≡ flume_cells s
  pub second_is : answer ≡ Done → second ≡ flume_next s g a
  pub marks-are : answer ≡ Done → after ≡ replicate (flume_cells s) 0

-- tests 7 and 8 answer; the next state, or after a refusal a copy of the first set; marks 0
pub record FlumeAdvanced (s : FlumeSides) (g : FlumeSettings) (a : Lent) (answer : Answer) (second : Lent) (after : List ℕ) : Type 0 where
  pub answer-is : answer ≡ move_answer (flume_scene s g a)
  pub second_is : second ≡ cond (accepted (move_answer (flume_scene s g a))) (flume_next s g a) a
  pub marks-are : after ≡ replicate (flume_cells s) 0
