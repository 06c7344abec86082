-- What the depth map's writer promises a host, for every input: number and place of the layer's outcome, the text's length, and the room. Assumes nothing.
use Rattle.std.specs.Prelude.{◌≡◌, List, ℕ, ℤ}
use Rattle.grid.specs.declared.Sides.{Sides}
use Rattle.grid.specs.State.{Lent}
use Rattle.record.specs.Writing.{written_number, written_place, written_bytes}
use Rattle.depths.specs.declared.Corner.{Corner}
use Rattle.depths.specs.Outcome.{map_written, map_room}

abbrev pub corner_of : ℤ → ℤ → ℤ → Corner
corner_of edge x y = record { edge = edge; x = x; y = y }

pub record DepthsTold (s : Sides) (t : Corner) (a : Lent) (room : List ℕ) (number place bytes : ℕ) (after : List ℕ) : Type 0 where
  pub number_is : number ≡ written_number (map_written s t a room)
  pub place_is : place ≡ written_place (map_written s t a room)
  pub bytes-are : bytes ≡ written_bytes (map_written s t a room)
  pub room-is : after ≡ map_room s t a room
