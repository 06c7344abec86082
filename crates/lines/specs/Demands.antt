-- What gridstep's room, its size test and a refused step come to, in the customer's words, over `record_answer` and `told_of`. Assumes nothing.
use Rattle.std.specs.Prelude.{◌≡◌, true, false, List, ℕ, ◌≤◌, ◌<◌, length}
use Rattle.grid.specs.Answer.{Done}
use Rattle.grid.specs.Grid.{sides_good}
use Rattle.grid.specs.State.{Lent}
use Rattle.grid.specs.Outcome.{accepted}
use Rattle.record.specs.Bytes.{Held}
use Rattle.record.specs.Reading.{sides_in, cells_in, slices_fit, read_answer}
use Rattle.console.specs.Room.{room_for}
use Rattle.lines.specs.Told.{record_answer, told_of}
use Rattle.grid.specs.declared.refusals.Refusal.TheVariants.{BadEnd, BadLength}
use Rattle.std.specs.Prelude.{Err}

-- more than 65,536 bytes are refused whatever they hold
abbrev pub TooLong : Type 0
TooLong = (r : List ℕ) → 65536 < length r → record_answer r ≡ Err (BadEnd 65536)

-- a record of more than 862 cells, whose section 1 is whole and whose sides are good, is refused with 2
abbrev pub TooMany : Type 0
TooMany = (r : List ℕ) → length r ≤ 65536 → Held r 0 3 4 → sides_good (sides_in r) ≡ true → 862 < cells_in r → record_answer r ≡ Err BadLength

-- any other is answered as the reader answers it in slices of its N
abbrev pub AsRead : Type 0
AsRead =
    (r : List ℕ) (a : Lent) → length r ≤ 65536 → cells_in r ≤ 862 → slices_fit (cells_in r) (length a.parts) (length a.masses) (length a.fills) (length a.carry) ≡ true
    → record_answer r ≡ read_answer r a

-- the room that the program takes for an accepted record is that record's N
abbrev pub RoomTaken : Type 0
RoomTaken = (r : List ℕ) → record_answer r ≡ Done → room_for r 862 ≡ cells_in r

-- after a refused step the last line is the first again
abbrev pub Repeated : Type 0
Repeated = (r : List ℕ) → accepted (told_of r).step ≡ false → (told_of r).after ≡ (told_of r).before
