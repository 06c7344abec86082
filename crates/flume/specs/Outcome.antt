-- What the flume's check, step and run answer, and what each lent slice then holds, for every input: the outcomes over a ground, on the flume's. Assumes nothing.
use Rattle.std.specs.Prelude.{ℕ, List}
use Rattle.grid.specs.Answer.{Answer}
use Rattle.grid.specs.State.{Lent, Scene}
use Rattle.grid.specs.Ground.{check_on, scene_on, entry_on, step_on, next_on, second_on, marks_on, run_entry_on, run_count_on, run_answer_on, run_first_on, run_second_on, run_marks_on}
use Rattle.flume.specs.declared.FlumeSides.{FlumeSides}
use Rattle.flume.specs.declared.FlumeSettings.{FlumeSettings}
use Rattle.flume.specs.Flume.{level_settings, flume_ground}

-- ---- the check: tests 1, 2, 4, 5, 6 of one set
unfoldable pub flume_check : FlumeSides → Lent → Answer
flume_check s a = check_on (flume_ground s) a

-- ---- the step: what it reads; tests 1 to 6 and then `rest`; its answer, the next state as a set, the second set and the marks
unfoldable pub flume_scene : FlumeSides → FlumeSettings → Lent → Scene
flume_scene s g a = scene_on (flume_ground s) (level_settings g) a

unfoldable pub flume_entry : FlumeSides → FlumeSettings → Lent → Lent → List ℕ → Answer → Answer
flume_entry s g a b marks rest = entry_on (flume_ground s) (level_settings g) a b marks rest

unfoldable pub flume_step : FlumeSides → FlumeSettings → Lent → Lent → List ℕ → Answer
flume_step s g a b marks = step_on (flume_ground s) (level_settings g) a b marks

unfoldable pub flume_next : FlumeSides → FlumeSettings → Lent → Lent
flume_next s g a = next_on (flume_ground s) (level_settings g) a

unfoldable pub flume_second : FlumeSides → FlumeSettings → Lent → Lent → List ℕ → Lent
flume_second s g a b marks = second_on (flume_ground s) (level_settings g) a b marks

unfoldable pub flume_marks : FlumeSides → FlumeSettings → Lent → Lent → List ℕ → List ℕ
flume_marks s g a b marks = marks_on (flume_ground s) (level_settings g) a b marks

-- ---- the run: 9 first, then 1 to 6, then 7 and 8 of each step; its count, answer, both sets and the marks
unfoldable pub flume_run_entry : ℕ → FlumeSides → FlumeSettings → Lent → Lent → List ℕ → Answer
flume_run_entry steps s g a b marks = run_entry_on (flume_ground s) steps (level_settings g) a b marks

unfoldable pub flume_run_count : ℕ → FlumeSides → FlumeSettings → Lent → Lent → List ℕ → ℕ
flume_run_count steps s g a b marks = run_count_on (flume_ground s) steps (level_settings g) a b marks

unfoldable pub flume_run_answer : ℕ → FlumeSides → FlumeSettings → Lent → Lent → List ℕ → Answer
flume_run_answer steps s g a b marks = run_answer_on (flume_ground s) steps (level_settings g) a b marks

unfoldable pub flume_run_first : ℕ → FlumeSides → FlumeSettings → Lent → Lent → List ℕ → Lent
flume_run_first steps s g a b marks = run_first_on (flume_ground s) steps (level_settings g) a b marks

unfoldable pub flume_run_second : ℕ → FlumeSides → FlumeSettings → Lent → Lent → List ℕ → Lent
flume_run_second steps s g a b marks = run_second_on (flume_ground s) steps (level_settings g) a b marks

unfoldable pub flume_run_marks : ℕ → FlumeSides → FlumeSettings → Lent → Lent → List ℕ → List ℕ
flume_run_marks steps s g a b marks = run_marks_on (flume_ground s) steps (level_settings g) a b marks

-- names every definition of this file: whoever unfolds this computes with all of them
unfoldable pub open-outcome : Unit {0}
unfolding flume_check flume_scene flume_entry flume_step flume_next flume_second flume_marks flume_run_entry flume_run_count flume_run_answer flume_run_first flume_run_second flume_run_marks
open-outcome = tt
