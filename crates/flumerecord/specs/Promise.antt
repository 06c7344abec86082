-- What the flume's reader and writer promise of their answer and of every lent slice, refused or not: each equals the outcome's definition. Assumes nothing.
use Rattle.std.specs.Prelude.{◌≡◌, List, ℕ, ◌+◌, ℤ}
use Rattle.std.specs.Borrow.{Bor}
use Rattle.grid.specs.State.{Lent}
use Rattle.flume.specs.declared.FlumeSides.{FlumeSides}
use Rattle.flume.specs.declared.FlumeSettings.{FlumeSettings}
use Rattle.flume.specs.Flume.{flume_sides_good, flume_cells}
use Rattle.record.specs.Writing.{Written}
use Rattle.record.specs.declared.Span.{Span}
use Rattle.record.specs.Promise.{span_by}
use Rattle.flumerecord.specs.declared.FlumeSite.{FlumeSite}
use Rattle.flumerecord.specs.declared.FlumeHead.{FlumeHead}
use Rattle.flumerecord.specs.Reading.{flume_flags_at, flume_flags_from, flume_read_head, flume_read_flags, flume_read_set}
use Rattle.flumerecord.specs.Writing.{flume_written, flume_written_room}

-- the reader: its answer with sides, settings and origin, and the four slices
pub record FlumeRead (r : List ℕ) (a : Lent) (head : FlumeHead) (parts masses : List ℤ) (fills : List ℕ) (carry : List ℤ) : Type 0 where
  pub head-is : head ≡ flume_read_head r a
  pub parts_are : parts ≡ (flume_read_set r a).parts
  pub masses-are : masses ≡ (flume_read_set r a).masses
  pub fills-are : fills ≡ (flume_read_set r a).fills
  pub carry-is : carry ≡ (flume_read_set r a).carry

-- where the flag section of a head stands in a record's bytes; the part that a refusal, or a head of another record, hands back is empty
abbrev pub flume_span_of : List ℕ → FlumeHead → Span
flume_span_of r h = span_by r h.answer (flume_sides_good h.sides) flume_flags_at (flume_cells h.sides)

-- the reader that hands the flags back: they are the record's flag section, empty beside a refusal, and stand in the memory of the record
pub record FlumeHanded (s : Bor (List ℕ)) (a : Lent) (flags : Bor (List ℕ)) : Type 0 where
  pub flags-are : flags.now ≡ flume_read_flags s.now a
  pub block : flags.ref_ptr.0 ≡ s.ref_ptr.0
  pub place : flags.ref_ptr.1 ≡ s.ref_ptr.1 + flume_flags_from s.now a

-- the writer: the record's length or the refusal, and the room
pub record FlumeWrote (s : FlumeSides) (g : FlumeSettings) (t : FlumeSite) (a : Lent) (room : List ℕ) (answer : Written) (after : List ℕ) : Type 0 where
  pub answer-is : answer ≡ flume_written s g t a room
  pub room-is : after ≡ flume_written_room s g t a room
