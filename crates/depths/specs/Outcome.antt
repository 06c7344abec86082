-- What the writer of a depth map answers, and what the room then holds, for every input. Assumes nothing.
use Rattle.std.specs.Prelude.{◌≡◌, Bool, ◌&&◌, cond, List, ◌++◌, ℕ, leb, length, drop}
use Rattle.lattice.specs.Cell.{edge_good, coordinate_good}
use Rattle.grid.specs.declared.Sides.{Sides}
use Rattle.grid.specs.Answer.{Answer, Done}
use Rattle.grid.specs.Grid.{cells_of, sides_good}
use Rattle.grid.specs.State.{Lent}
use Rattle.grid.specs.Outcome.{accepted, or_refuse}
use Rattle.pumps.specs.Three.{three_lengths, three_good}
use Rattle.record.specs.Writing.{Written, written_on}
use Rattle.depths.specs.declared.Corner.{Corner}
use Rattle.depths.specs.Map.{map_text}
use Rattle.grid.specs.declared.refusals.Refusal.TheVariants.{BadLength, BadRoom, BadSetting, BadSides}

-- the map of a lent set
abbrev pub map_of : Sides → Corner → Lent → List ℕ
map_of s t a = map_text s t a.flags a.fills

-- test 3: edge, x and y of the origin
unfoldable pub corner_good : Corner → Bool
corner_good t = edge_good t.edge && coordinate_good t.x && coordinate_good t.y

-- tests 1 to 6, and 12 last, its place the text's length
unfoldable pub map_answer : Sides → Corner → Lent → List ℕ → Answer
map_answer s t a room =
    or_refuse (sides_good s) BadSides
    (or_refuse (three_lengths (cells_of s) a) BadLength
    (or_refuse (corner_good t) (BadSetting 0)
    (three_good s a
    (or_refuse (leb (length (map_of s t a)) (length room)) (BadRoom (length (map_of s t a))) Done))))

-- the text's length, or the refusal
unfoldable pub map_written : Sides → Corner → Lent → List ℕ → Written
map_written s t a room = written_on (map_answer s t a room) (length (map_of s t a))

-- the text, with room past it untouched; a refusal writes nothing
unfoldable pub map_room : Sides → Corner → Lent → List ℕ → List ℕ
map_room s t a room = cond (accepted (map_answer s t a room)) (map_of s t a ++ drop (length (map_of s t a)) room) room

pub record Wrote (s : Sides) (t : Corner) (a : Lent) (room : List ℕ) (answer : Written) (after : List ℕ) : Type 0 where
  pub answer-is : answer ≡ map_written s t a room
  pub room-is : after ≡ map_room s t a room

-- names every definition of this file: whoever unfolds this computes with all of them
unfoldable pub open-outcome : Unit {0}
unfolding corner_good map_answer map_written map_room
open-outcome = tt
