-- What the flume's step and run promise of their answer and of every lent slice, refused or not: each equals the outcome's definition. Assumes nothing.
use Rattle.std.specs.Prelude.{◌≡◌, List, ℕ}
use Rattle.grid.specs.Answer.{Answer}
use Rattle.grid.specs.State.{Lent}
use Rattle.flume.specs.declared.FlumeSides.{FlumeSides}
use Rattle.flume.specs.declared.FlumeSettings.{FlumeSettings}
use Rattle.flume.specs.Outcome.{flume_step, flume_second, flume_marks, flume_run_count, flume_run_answer, flume_run_first, flume_run_second, flume_run_marks}

-- the step: its answer, its second set and the marks
pub record FlumeStepped (s : FlumeSides) (g : FlumeSettings) (a b : Lent) (marks : List ℕ) (answer : Answer) (second : Lent) (after : List ℕ) : Type 0 where
  pub answer-is : answer ≡ flume_step s g a b marks
  pub second_is : second ≡ flume_second s g a b marks
  pub marks-are : after ≡ flume_marks s g a b marks

-- the run: its count, the refusal that stopped it, both sets and the marks
pub record FlumeRanTo (steps : ℕ) (s : FlumeSides) (g : FlumeSettings) (a b : Lent) (marks : List ℕ) (count : ℕ) (answer : Answer) (first second : Lent) (after : List ℕ) : Type 0 where
  pub count-is : count ≡ flume_run_count steps s g a b marks
  pub answer-is : answer ≡ flume_run_answer steps s g a b marks
  pub first-is : first ≡ flume_run_first steps s g a b marks
  pub second_is : second ≡ flume_run_second steps s g a b marks
  pub marks-are : after ≡ flume_run_marks steps s g a b marks
