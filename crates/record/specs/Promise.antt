-- What reader and writer promise of their answer and of every lent slice, refused or not: each equals the outcome's definition. Assumes nothing.
use Rattle.std.specs.Prelude.{◌≡◌, Bool, ◌&&◌, cond, List, ℕ, ◌+◌, ◌-◌, leb, ℤ, length, take, drop}
use Rattle.std.specs.Borrow.{Bor}
use Rattle.lattice.specs.declared.Settings.{Settings}
use Rattle.grid.specs.declared.Sides.{Sides}
use Rattle.grid.specs.Grid.{sides_good, cells_of}
use Rattle.grid.specs.Answer.{Answer}
use Rattle.grid.specs.Outcome.{accepted}
use Rattle.grid.specs.State.{Lent}
use Rattle.record.specs.declared.Site.{Site}
use Rattle.record.specs.declared.Head.{Head}
use Rattle.record.specs.declared.Span.{Span}
use Rattle.record.specs.Reading.{flags_at, flags_from, read_head, read_flags, read_set}
use Rattle.record.specs.Writing.{Written, written, written_room}

-- the reader: its answer with sides, settings and origin, and the four slices; the set that it is lent lacks the flags
pub record Read (r : List ℕ) (a : Lent) (head : Head) (parts masses : List ℤ) (fills : List ℕ) (carry : List ℤ) : Type 0 where
  pub head-is : head ≡ read_head r a
  pub parts_are : parts ≡ (read_set r a).parts
  pub masses-are : masses ≡ (read_set r a).masses
  pub fills-are : fills ≡ (read_set r a).fills
  pub carry-is : carry ≡ (read_set r a).carry

-- where the flag section of a head stands in a record's bytes, by the record's own count of section 4; the part that a refusal, or a head of another
-- record, hands back is empty
abbrev pub span_by : List ℕ → Answer → Bool → ℕ → ℕ → Span
span_by r answer good at n = cond (accepted answer && good && leb (at + n) (length r)) (record { from = at; to = at + n }) (record { from = 0; to = 0 })

abbrev pub span_of : List ℕ → Head → Span
span_of r h = span_by r h.answer (sides_good h.sides) (flags_at r) (cells_of h.sides)

-- r is that part of the caller's bytes s, and no copy: it stands in the memory of s
pub record Own (s : Bor (List ℕ)) (p : Span) (r : Bor (List ℕ)) : Type 0 where
  pub bytes : r.now ≡ take (p.to - p.from) (drop p.from s.now)
  pub block : r.ref_ptr.0 ≡ s.ref_ptr.0
  pub place : r.ref_ptr.1 ≡ s.ref_ptr.1 + p.from

-- the reader that hands the flags back: they are the record's flag section, empty beside a refusal, and stand in the memory of the record
pub record Handed (s : Bor (List ℕ)) (a : Lent) (flags : Bor (List ℕ)) : Type 0 where
  pub flags-are : flags.now ≡ read_flags s.now a
  pub block : flags.ref_ptr.0 ≡ s.ref_ptr.0
  pub place : flags.ref_ptr.1 ≡ s.ref_ptr.1 + flags_from s.now a

-- the writer: the record's length or the refusal, and the room
pub record Wrote (s : Sides) (g : Settings) (t : Site) (a : Lent) (room : List ℕ) (answer : Written) (after : List ℕ) : Type 0 where
  pub answer-is : answer ≡ written s g t a room
  pub room-is : after ≡ written_room s g t a room
