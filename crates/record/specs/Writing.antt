-- What the writer answers, and what the room then holds, for every input. Assumes nothing.
use Rattle.std.specs.Prelude.{ℕ, cond, List, ◌++◌, leb, length, drop, Result, Ok, Err}
use Rattle.lattice.specs.declared.Settings.{Settings}
use Rattle.grid.specs.declared.Sides.{Sides}
use Rattle.grid.specs.Answer.{Answer, Done, refusal_number, refusal_place}
use Rattle.grid.specs.declared.refusals.Refusal.{Refusal}
use Rattle.grid.specs.Grid.{cells_of, sides_good}
use Rattle.grid.specs.State.{Lent}
use Rattle.grid.specs.Outcome.{accepted, or_refuse}
use Rattle.pumps.specs.Three.{three_lengths, three_good}
use Rattle.record.specs.declared.Site.{Site}
use Rattle.record.specs.Layout.{site_good, record_of, record_length}
use Rattle.grid.specs.declared.refusals.Refusal.TheVariants.{BadLength, BadRoom, BadSetting, BadSides}

-- ---- how many bytes were written, or the refusal; the paper's number and place of each case, 0 0 if accepted, and the bytes, 0 beside a refusal

abbrev pub Written : Type 0
Written = Result ℕ Refusal

abbrev pub written_number : Written → ℕ
written_number (Ok bytes) = 0
written_number (Err refusal) = refusal_number refusal

abbrev pub written_place : Written → ℕ
written_place (Ok bytes) = 0
written_place (Err refusal) = refusal_place refusal

abbrev pub written_bytes : Written → ℕ
written_bytes (Ok bytes) = bytes
written_bytes (Err refusal) = 0

-- ---- over any record: test 12 last, its place the bytes needed; the record's length, or the refusal; the record, with room past it untouched, where a
-- refusal writes nothing
abbrev pub room_test : ℕ → List ℕ → Answer
room_test long room = or_refuse (leb long (length room)) (BadRoom long) Done

abbrev pub written_on : Answer → ℕ → Written
written_on (Ok _) long = Ok long
written_on (Err refusal) long = Err refusal

abbrev pub room_on : Answer → List ℕ → ℕ → List ℕ → List ℕ
room_on answer rec long room = cond (accepted answer) (rec ++ drop long room) room

-- ---- the grid record: tests 1 to 6, and 12
unfoldable pub write_answer : Sides → Settings → Site → Lent → List ℕ → Answer
write_answer s g t a room =
    or_refuse (sides_good s) BadSides
    (or_refuse (three_lengths (cells_of s) a) BadLength
    (or_refuse (site_good g t) (BadSetting 0)
    (three_good s a
    (room_test (record_length s a) room))))

unfoldable pub written : Sides → Settings → Site → Lent → List ℕ → Written
written s g t a room = written_on (write_answer s g t a room) (record_length s a)

unfoldable pub written_room : Sides → Settings → Site → Lent → List ℕ → List ℕ
written_room s g t a room = room_on (write_answer s g t a room) (record_of s g t a) (record_length s a) room

-- names every definition of this file: whoever unfolds this computes with all of them
unfoldable pub open-writing : Unit {0}
unfolding write_answer written written_room
open-writing = tt
