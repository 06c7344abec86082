-- The end of a flume's step: what the conversion, the fills and test 8 ask together and leave. Assumes nothing.
use Rattle.std.specs.Prelude.{◌≡◌, Bool, List, ℕ, replicate}
use Rattle.grid.specs.Answer.{Answer}
use Rattle.grid.specs.State.{Lent}
use Rattle.grid.specs.Outcome.{move_answer}
use Rattle.passes.specs.inner.Flowed.{MovedTo}
use Rattle.flume.specs.declared.FlumeSides.{FlumeSides}
use Rattle.flume.specs.declared.FlumeSettings.{FlumeSettings}
use Rattle.flume.specs.Flume.{flume_cells, level_settings}
use Rattle.flume.specs.Outcome.{flume_scene, flume_next}
use Rattle.nine.specs.inner.Cells.{part_of9}
use Rattle.flumegrid.specs.inner.Ready.{FlumeSized, FlumeReady}
use Rattle.flumepasses.specs.inner.Flowed.{wide_scene}

-- stages 1 to 4 are made in the second set, whose slices are of their lengths
pub record FlumeFinishing (s : FlumeSides) (g : FlumeSettings) (a b : Lent) (marks : List ℕ) (fair calm : Bool) : Type 0 where
  pub ready : FlumeReady s g a
  pub moved : MovedTo (wide_scene s (level_settings g) a) (flume_cells s) (part_of9 b.parts) b.masses marks fair calm
  pub second : FlumeSized (flume_cells s) b

-- the next state, whether or not test 8 refuses it
pub record FlumeFinished (s : FlumeSides) (g : FlumeSettings) (a : Lent) (answer : Answer) (second : Lent) (after : List ℕ) : Type 0 where
  pub answer-is : answer ≡ move_answer (flume_scene s g a)
  pub second_is : second ≡ flume_next s g a
  pub marks-are : after ≡ replicate (flume_cells s) 0
