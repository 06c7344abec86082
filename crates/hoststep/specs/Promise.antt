-- What step and run promise, for every input: number and place of the layer's outcome, and every lent slice. Assumes nothing.
use Rattle.std.specs.Prelude.{◌≡◌, List, ℕ}
use Rattle.lattice.specs.declared.Settings.{Settings}
use Rattle.grid.specs.declared.Sides.{Sides}
use Rattle.grid.specs.Outcome.{number_of, place_of}
use Rattle.index.specs.Held.{Held}
use Rattle.calls.specs.Outcome.{step_answer, step_second, step_marks}
use Rattle.runs.specs.Outcome.{run_count, run_answer, run_first, run_second, run_marks}

-- the step: number, place, its second set with its index, and the marks
pub record StepTold (s : Sides) (g : Settings) (a b : Held) (marks : List ℕ) (number place : ℕ) (second : Held) (after : List ℕ) : Type 0 where
  pub number_is : number ≡ number_of (step_answer s g a b marks)
  pub place_is : place ≡ place_of (step_answer s g a b marks)
  pub second_is : second ≡ step_second s g a b marks
  pub marks-are : after ≡ step_marks s g a b marks

-- the run: its count, number and place of the refusal that stopped it, both sets with their indexes, and the marks
pub record RunTold (steps : ℕ) (s : Sides) (g : Settings) (a b : Held) (marks : List ℕ) (count number place : ℕ) (first second : Held) (after : List ℕ) : Type 0 where
  pub count-is : count ≡ run_count steps s g a b marks
  pub number_is : number ≡ number_of (run_answer steps s g a b marks)
  pub place_is : place ≡ place_of (run_answer steps s g a b marks)
  pub first-is : first ≡ run_first steps s g a b marks
  pub second_is : second ≡ run_second steps s g a b marks
  pub marks-are : after ≡ run_marks steps s g a b marks
