-- Document 01's outcomes are those of its ground: what is proved over any ground is proved of check, step and run in the box. Assumes nothing.
use mathlib.Core.Path.{◌≡◌, refl}
use mathlib.Core.List.{List}
use Prim.Native.Nat.{ℕ}
use Rattle.lattice.specs.declared.Settings.{Settings}
use Rattle.grid.specs.declared.Sides.{Sides}
use Rattle.grid.specs.State.{Lent}
use Rattle.grid.specs.Outcome.{check_answer, step_answer, step_second, step_marks, run_count, run_answer, run_first, run_second, run_marks, open-outcome}
use Rattle.grid.specs.Ground.{box_ground, check_on, step_on, second_on, marks_on, run_count_on, run_answer_on, run_first_on, run_second_on, run_marks_on}
use Rattle.grid.specs.Demands.{water_on, water_of}

module _ (s : Sides) where
  pub box-check : (a : Lent) → check_answer s a ≡ check_on (box_ground s) a
  unfolding open-outcome
  box-check a = refl

  pub box-water : (a : Lent) → water_of s a ≡ water_on (box_ground s) a
  unfolding water_of
  box-water a = refl

module _ (s : Sides) (g : Settings) (a b : Lent) (marks : List ℕ) where
  pub box-step : step_answer s g a b marks ≡ step_on (box_ground s) g a b marks
  unfolding open-outcome
  box-step = refl

  pub box-second : step_second s g a b marks ≡ second_on (box_ground s) g a b marks
  unfolding open-outcome
  box-second = refl

  pub box-marks : step_marks s g a b marks ≡ marks_on (box_ground s) g a b marks
  unfolding open-outcome
  box-marks = refl

  module _ (steps : ℕ) where
    pub box-count : run_count steps s g a b marks ≡ run_count_on (box_ground s) steps g a b marks
    unfolding open-outcome
    box-count = refl

    pub box-answer : run_answer steps s g a b marks ≡ run_answer_on (box_ground s) steps g a b marks
    unfolding open-outcome
    box-answer = refl

    pub box-run-first : run_first steps s g a b marks ≡ run_first_on (box_ground s) steps g a b marks
    unfolding open-outcome
    box-run-first = refl

    pub box-run-second : run_second steps s g a b marks ≡ run_second_on (box_ground s) steps g a b marks
    unfolding open-outcome
    box-run-second = refl

    pub box-run-marks : run_marks steps s g a b marks ≡ run_marks_on (box_ground s) steps g a b marks
    unfolding open-outcome
    box-run-marks = refl
