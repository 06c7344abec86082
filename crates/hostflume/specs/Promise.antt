-- What the flume's check, step and run promise, for every input: number and place of the outcome, and every lent slice. Assumes nothing.
use Rattle.std.specs.Prelude.{◌≡◌, Bool, List, ℕ, ℤ}
use Rattle.grid.specs.State.{Lent}
use Rattle.grid.specs.Outcome.{number_of, place_of}
use Rattle.flume.specs.declared.FlumeSides.{FlumeSides}
use Rattle.flume.specs.declared.FlumeSettings.{FlumeSettings}
use Rattle.flume.specs.Outcome.{flume_check, flume_step, flume_second, flume_marks, flume_run_count, flume_run_answer, flume_run_first, flume_run_second, flume_run_marks}

-- what the flume takes, from the numbers that a call is given
abbrev pub flume_sides_of : ℕ → ℕ → FlumeSides
flume_sides_of nx nz = record { nx = nx; nz = nz }

abbrev pub flume_settings_in : Bool → ℤ → ℤ → ℤ → FlumeSettings
flume_settings_in turbulent p gx gz = record { p = p; gx = gx; gz = gz; turbulent = turbulent }

-- the check: number and place, 0 0 if accepted
pub record CheckTold (s : FlumeSides) (a : Lent) (number place : ℕ) : Type 0 where
  pub number_is : number ≡ number_of (flume_check s a)
  pub place_is : place ≡ place_of (flume_check s a)

-- the step: number, place, its second set, and the marks
pub record StepTold (s : FlumeSides) (g : FlumeSettings) (a b : Lent) (marks : List ℕ) (number place : ℕ) (second : Lent) (after : List ℕ) : Type 0 where
  pub number_is : number ≡ number_of (flume_step s g a b marks)
  pub place_is : place ≡ place_of (flume_step s g a b marks)
  pub second_is : second ≡ flume_second s g a b marks
  pub marks-are : after ≡ flume_marks s g a b marks

-- the run: its count, number and place of the refusal that stopped it, both sets, and the marks
pub record RunTold (steps : ℕ) (s : FlumeSides) (g : FlumeSettings) (a b : Lent) (marks : List ℕ) (count number place : ℕ) (first second : Lent) (after : List ℕ) : Type 0 where
  pub count-is : count ≡ flume_run_count steps s g a b marks
  pub number_is : number ≡ number_of (flume_run_answer steps s g a b marks)
  pub place_is : place ≡ place_of (flume_run_answer steps s g a b marks)
  pub first-is : first ≡ flume_run_first steps s g a b marks
  pub second_is : second ≡ flume_run_second steps s g a b marks
  pub marks-are : after ≡ flume_run_marks steps s g a b marks
