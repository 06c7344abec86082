-- What join and part promise of their answer and of the slice that each may write, refused or not. Assumes nothing.
use Rattle.std.specs.Prelude.{◌≡◌, List, ℕ}
use Rattle.grid.specs.declared.Sides.{Sides}
use Rattle.grid.specs.Answer.{Answer}
use Rattle.grid.specs.State.{Lent}
use Rattle.schemes.specs.Outcome.{join_answer, join_grid, part_answer, part_own}

pub record Joined (s : Sides) (map : List ℕ) (a : Lent) (grid : List ℕ) (answer : Answer) (after : List ℕ) : Type 0 where
  pub answer-is : answer ≡ join_answer s map a grid
  pub grid-is : after ≡ join_grid s map a grid

pub record Parted (s : Sides) (grid own : List ℕ) (answer : Answer) (after : List ℕ) : Type 0 where
  pub answer-is : answer ≡ part_answer s grid own
  pub own_is : after ≡ part_own s grid own
