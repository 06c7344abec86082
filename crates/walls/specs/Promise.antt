-- What the two wall changes promise of their answer and of the map, refused or not. Assumes nothing.
use Rattle.std.specs.Prelude.{◌≡◌, Bool, List, ℕ}
use Rattle.grid.specs.declared.Sides.{Sides}
use Rattle.grid.specs.Answer.{Answer}
use Rattle.grid.specs.State.{Lent}
use Rattle.walls.specs.Outcome.{wall_answer, wall_map}

pub record Changed (s : Sides) (map : List ℕ) (a b : Lent) (add : Bool) (c : ℕ) (answer : Answer) (after : List ℕ) : Type 0 where
  pub answer-is : answer ≡ wall_answer s map a b add c
  pub map_is : after ≡ wall_map s map a b add c
