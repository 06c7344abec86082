-- What is promised of the step over its outcome: the index stays true, and the set is what the step alone makes of it. Assumes nothing.
use Rattle.std.specs.Prelude.{◌≡◌, List, ℕ}
use Rattle.lattice.specs.declared.Settings.{Settings}
use Rattle.grid.specs.declared.Sides.{Sides}
use Rattle.grid.specs.Answer.{Done}
use Rattle.grid.specs.Outcome as base
use Rattle.pumps.specs.Three.{head_of}
use Rattle.index.specs.Held.{Held, Loads}
use Rattle.calls.specs.Outcome.{entry_answer, step_answer, step_second, step_marks}

-- a step that begins: whether it is made or refused with 7 or 8, the second set then loads with its index
abbrev pub StepKeeps : Sides → Settings → Held → Held → List ℕ → Type 0
StepKeeps s g a b marks = entry_answer s g a b marks Done ≡ Done → Loads s (step_second s g a b marks)

-- with good totals, indexes of their lengths and a true one beside the first set, the step's answer, second set and marks are those of the step without totals
-- and indexes, lent the carry alone
pub record AsBefore (s : Sides) (g : Settings) (a b : Held) (marks : List ℕ) : Type 0 where
  pub answer : step_answer s g a b marks ≡ base.step_answer s g (head_of a.set) (head_of b.set) marks
  pub second : head_of (step_second s g a b marks).set ≡ base.step_second s g (head_of a.set) (head_of b.set) marks
  pub marks-after : step_marks s g a b marks ≡ base.step_marks s g (head_of a.set) (head_of b.set) marks
