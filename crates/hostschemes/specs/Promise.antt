-- What join, part and the two wall changes promise as exported calls, for every input: number and place of the layer's outcome, 0 0 if accepted, and
-- the one slice that each may write. Assumes nothing.
use Rattle.std.specs.Prelude.{◌≡◌, Bool, List, ℕ}
use Rattle.grid.specs.declared.Sides.{Sides}
use Rattle.grid.specs.State.{Lent}
use Rattle.grid.specs.Outcome.{number_of, place_of}
use Rattle.schemes.specs.Outcome.{join_answer, join_grid, part_answer, part_own}
use Rattle.walls.specs.Outcome.{wall_answer, wall_map}

pub record JoinTold (s : Sides) (map : List ℕ) (a : Lent) (grid : List ℕ) (number place : ℕ) (after : List ℕ) : Type 0 where
  pub number_is : number ≡ number_of (join_answer s map a grid)
  pub place_is : place ≡ place_of (join_answer s map a grid)
  pub grid-is : after ≡ join_grid s map a grid

pub record PartTold (s : Sides) (grid own : List ℕ) (number place : ℕ) (after : List ℕ) : Type 0 where
  pub number_is : number ≡ number_of (part_answer s grid own)
  pub place_is : place ≡ place_of (part_answer s grid own)
  pub own_is : after ≡ part_own s grid own

-- a wall asked for (add is true), or taken out, in cell c: a is the asker's scheme, b the other's
pub record WallTold (add : Bool) (s : Sides) (c : ℕ) (map : List ℕ) (a b : Lent) (number place : ℕ) (after : List ℕ) : Type 0 where
  pub number_is : number ≡ number_of (wall_answer s map a b add c)
  pub place_is : place ≡ place_of (wall_answer s map a b add c)
  pub map_is : after ≡ wall_map s map a b add c
