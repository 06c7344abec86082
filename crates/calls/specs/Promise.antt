-- What the step promises of its answer and of every lent slice, refused or not: each equals the outcome's definition. Assumes nothing.
use Rattle.std.specs.Prelude.{◌≡◌, List, [], ◌∷◌, ℕ}
use Rattle.lattice.specs.declared.Settings.{Settings}
use Rattle.grid.specs.declared.Sides.{Sides}
use Rattle.grid.specs.Answer.{Answer}
use Rattle.index.specs.Held.{Held}
use Rattle.calls.specs.Outcome.{step_answer, step_second, step_marks}

-- the step: its answer, its second set with its index, and the marks
pub record Stepped (s : Sides) (g : Settings) (a b : Held) (marks : List ℕ) (answer : Answer) (second : Held) (after : List ℕ) : Type 0 where
  pub answer-is : answer ≡ step_answer s g a b marks
  pub second_is : second ≡ step_second s g a b marks
  pub marks-are : after ≡ step_marks s g a b marks
