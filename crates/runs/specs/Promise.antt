-- What the run promises of its answer and of every lent slice, refused or not: each equals the outcome's definition. Assumes nothing.
use Rattle.std.specs.Prelude.{◌≡◌, List, ℕ}
use Rattle.lattice.specs.declared.Settings.{Settings}
use Rattle.grid.specs.declared.Sides.{Sides}
use Rattle.grid.specs.Answer.{Answer}
use Rattle.index.specs.Held.{Held}
use Rattle.runs.specs.Outcome.{run_count, run_answer, run_first, run_second, run_marks}

-- the run: its count, the refusal that stopped it, both sets with their indexes, and the marks
pub record RanTo (steps : ℕ) (s : Sides) (g : Settings) (a b : Held) (marks : List ℕ) (count : ℕ) (answer : Answer) (first second : Held) (after : List ℕ) : Type 0 where
  pub count-is : count ≡ run_count steps s g a b marks
  pub answer-is : answer ≡ run_answer steps s g a b marks
  pub first-is : first ≡ run_first steps s g a b marks
  pub second_is : second ≡ run_second steps s g a b marks
  pub marks-are : after ≡ run_marks steps s g a b marks
