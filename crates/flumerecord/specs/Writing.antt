-- What the flume's writer answers, and what the room then holds, for every input. Assumes nothing.
use Rattle.std.specs.Prelude.{List, ℕ}
use Rattle.lattice.specs.Lattice.{d2q9}
use Rattle.grid.specs.Answer.{Answer}
use Rattle.grid.specs.State.{Lent, state_of}
use Rattle.grid.specs.Outcome.{or_refuse, good_answer}
use Rattle.flume.specs.declared.FlumeSides.{FlumeSides}
use Rattle.flume.specs.declared.FlumeSettings.{FlumeSettings}
use Rattle.flume.specs.Flume.{flume_sides_good, flume_cells, flume_grid, flume_lengths}
use Rattle.record.specs.Writing.{Written, room_test, written_on, room_on}
use Rattle.flumerecord.specs.declared.FlumeSite.{FlumeSite}
use Rattle.flumerecord.specs.Layout.{flume_site_good, flume_record_of, flume_record_length}
use Rattle.grid.specs.declared.refusals.Refusal.TheVariants.{BadLength, BadSetting, BadSides}

-- tests 1 to 6, and then `rest`
abbrev pub flume_fits : FlumeSides → FlumeSettings → FlumeSite → Lent → Answer → Answer
flume_fits s g t a rest =
    or_refuse (flume_sides_good s) BadSides
    (or_refuse (flume_lengths (flume_cells s) a) BadLength
    (or_refuse (flume_site_good g t) (BadSetting 0)
    (good_answer d2q9 (flume_grid s) (state_of 8 a) rest)))

-- and 12 last, its place the bytes needed
unfoldable pub flume_write_answer : FlumeSides → FlumeSettings → FlumeSite → Lent → List ℕ → Answer
flume_write_answer s g t a room = flume_fits s g t a (room_test (flume_record_length s a) room)

-- the record's length, or the refusal; the record, with room past it untouched; a refusal writes nothing
unfoldable pub flume_written : FlumeSides → FlumeSettings → FlumeSite → Lent → List ℕ → Written
flume_written s g t a room = written_on (flume_write_answer s g t a room) (flume_record_length s a)

unfoldable pub flume_written_room : FlumeSides → FlumeSettings → FlumeSite → Lent → List ℕ → List ℕ
flume_written_room s g t a room = room_on (flume_write_answer s g t a room) (flume_record_of s g t a) (flume_record_length s a) room

-- names every definition of this file: whoever unfolds this computes with all of them
unfoldable pub open-writing : Unit {0}
unfolding flume_write_answer flume_written flume_written_room
open-writing = tt
