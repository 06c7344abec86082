-- The end of a step: what the conversion, the fills and test 8 ask together and leave, and what is left before a refused step is copied. Assumes nothing.
use Rattle.std.specs.Prelude.{◌≡◌, Bool, List, ℕ, length, replicate}
use Rattle.lattice.specs.declared.Settings.{Settings}
use Rattle.grid.specs.declared.Sides.{Sides}
use Rattle.grid.specs.Answer.{Answer}
use Rattle.grid.specs.Answer.{Done}
use Rattle.grid.specs.Grid.{cells_of}
use Rattle.grid.specs.State.{Lent}
use Rattle.grid.specs.Outcome.{move_answer, scene_of, next_of}
use Rattle.grid.specs.inner.Between.{Ready}
use Rattle.grid.specs.inner.Halfway.{Alike, Moved}

-- stages 1 to 4 are made in the second set, and there is room for the rest
pub record Finishing (s : Sides) (g : Settings) (a b : Lent) (marks : List ℕ) (fair calm : Bool) : Type 0 where
  pub ready : Ready s g a
  pub moved : Moved (scene_of s g a) (cells_of s) b.parts b.masses marks fair calm
  pub flags-room : length b.flags ≡ cells_of s
  pub fills-room : length b.fills ≡ cells_of s
  pub carry-room : length b.carry ≡ 1

-- the next state, whether or not test 8 refuses it
pub record Finished (s : Sides) (g : Settings) (a : Lent) (answer : Answer) (second : Lent) (after : List ℕ) : Type 0 where
  pub answer-is : answer ≡ move_answer (scene_of s g a)
  pub second_is : second ≡ next_of s g a
  pub marks-are : after ≡ replicate (cells_of s) 0

-- tests 7 and 8 have answered: where both pass the next state is there, else only the lengths are known
pub record Tried (s : Sides) (g : Settings) (a : Lent) (answer : Answer) (second : Lent) (after : List ℕ) : Type 0 where
  pub answer-is : answer ≡ move_answer (scene_of s g a)
  pub alike : Alike a second
  pub marks-kept : length after ≡ cells_of s
  pub second_is : answer ≡ Done → second ≡ next_of s g a
  pub marks-are : answer ≡ Done → after ≡ replicate (cells_of s) 0
