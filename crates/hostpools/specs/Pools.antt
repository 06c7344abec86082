-- What the question "one pool or three?" promises as an exported call, for every input. Assumes nothing.
use Rattle.std.specs.Prelude.{◌≡◌, ℕ}
use Rattle.grid.specs.declared.Sides.{Sides}
use Rattle.grid.specs.State.{Lent}
use Rattle.pools.specs.Outcome.{Room, told_number, told_place, told_pools, pools_answer, pools_room}

-- number, place, how many pools there are, and the four lent slices
pub record PoolsTold (s : Sides) (a : Lent) (r : Room) (number place pools : ℕ) (after : Room) : Type 0 where
  pub number_is : number ≡ told_number (pools_answer s a r)
  pub place_is : place ≡ told_place (pools_answer s a r)
  pub pools-are : pools ≡ told_pools (pools_answer s a r)
  pub room-is : after ≡ pools_room s a r
