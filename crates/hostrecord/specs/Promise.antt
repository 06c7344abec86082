-- What reader and writer promise, for every input: number and place of the layer's outcome, the values, and every lent slice. Assumes nothing.
use Rattle.std.specs.Prelude.{◌≡◌, List, ℕ, ◌+◌, ◌-◌, ℤ, length, take, drop}
use Rattle.lattice.specs.declared.Settings.{Settings}
use Rattle.grid.specs.declared.Sides.{Sides}
use Rattle.grid.specs.State.{Lent}
use Rattle.grid.specs.Outcome.{number_of, place_of}
use Rattle.record.specs.declared.Site.{Site}
use Rattle.record.specs.Layout.{recorded}
use Rattle.record.specs.Writing.{written_number, written_place, written_bytes, written, written_room}
use Rattle.index.specs.Index.{Index}
use Rattle.index.specs.Held.{Held}
use Rattle.intake.specs.Reading.{read_head, read_held, flags_from, read_flags}

abbrev pub site_of : ℤ → ℤ → ℤ → ℤ → Site
site_of edge x y z = record { edge = edge; x = x; y = y; z = z }

-- the reader: number, place, sides, settings, edge and origin, where the flag section stands in the caller's bytes, the four slices, and the index
pub record ReadTold (r : List ℕ) (a : Held) (number place : ℕ) (s : Sides) (g : Settings) (t : Site) (from to : ℕ) (parts masses : List ℤ) (fills : List ℕ) (carry : List ℤ) (index : Index) : Type 0 where
  pub number_is : number ≡ number_of (read_head r a).answer
  pub place_is : place ≡ place_of (read_head r a).answer
  pub sides-are : s ≡ (read_head r a).sides
  pub settings-are : g ≡ recorded (read_head r a).settings
  pub site-is : t ≡ (read_head r a).site
  pub from_is : from ≡ flags_from r a
  pub to_is : to ≡ flags_from r a + length (read_flags r a)
  pub flags-are : take (to - from) (drop from r) ≡ read_flags r a
  pub parts_are : parts ≡ (read_held r a).set.parts
  pub masses-are : masses ≡ (read_held r a).set.masses
  pub fills-are : fills ≡ (read_held r a).set.fills
  pub carry-is : carry ≡ (read_held r a).set.carry
  pub index_is : index ≡ (read_held r a).index

-- the writer: number, place, the record's length, and the room
pub record WriteTold (s : Sides) (g : Settings) (t : Site) (a : Lent) (room : List ℕ) (number place bytes : ℕ) (after : List ℕ) : Type 0 where
  pub number_is : number ≡ written_number (written s g t a room)
  pub place_is : place ≡ written_place (written s g t a room)
  pub bytes-are : bytes ≡ written_bytes (written s g t a room)
  pub room-is : after ≡ written_room s g t a room
