-- What the flume's reader and writer promise, for every input: number and place of the layer's outcome, the values, and every lent slice. Assumes nothing.
use Rattle.std.specs.Prelude.{◌≡◌, List, ℕ, ◌+◌, ◌-◌, false, ℤ, length, take, drop}
use Rattle.grid.specs.State.{Lent}
use Rattle.grid.specs.Outcome.{number_of, place_of}
use Rattle.flume.specs.declared.FlumeSides.{FlumeSides}
use Rattle.flume.specs.declared.FlumeSettings.{FlumeSettings}
use Rattle.flumerecord.specs.declared.FlumeSite.{FlumeSite}
use Rattle.flumerecord.specs.Reading.{flume_read_head, flume_read_set, flume_flags_from, flume_read_flags}
use Rattle.flumerecord.specs.Layout.{flume_recorded}
use Rattle.record.specs.Writing.{written_number, written_place, written_bytes}
use Rattle.flumerecord.specs.Writing.{flume_written, flume_written_room}

-- what the flume takes, from the numbers that a call is given
abbrev pub flume_sides_of : ℕ → ℕ → FlumeSides
flume_sides_of nx nz = record { nx = nx; nz = nz }

abbrev pub flume_settings_of : ℤ → ℤ → ℤ → FlumeSettings
flume_settings_of p gx gz = record { p = p; gx = gx; gz = gz; turbulent = false }

abbrev pub flume_site_of : ℤ → ℤ → ℤ → FlumeSite
flume_site_of edge x z = record { edge = edge; x = x; z = z }

-- the reader: number, place, sides, settings, edge and origin, where the flag section stands in the caller's bytes, and the four slices
pub record FlumeReadTold (r : List ℕ) (a : Lent) (number place : ℕ) (s : FlumeSides) (g : FlumeSettings) (t : FlumeSite) (from to : ℕ) (parts masses : List ℤ) (fills : List ℕ) (carry : List ℤ) : Type 0 where
  pub number_is : number ≡ number_of (flume_read_head r a).answer
  pub place_is : place ≡ place_of (flume_read_head r a).answer
  pub sides-are : s ≡ (flume_read_head r a).sides
  pub settings-are : g ≡ flume_recorded (flume_read_head r a).settings
  pub site-is : t ≡ (flume_read_head r a).site
  pub from_is : from ≡ flume_flags_from r a
  pub to_is : to ≡ flume_flags_from r a + length (flume_read_flags r a)
  pub flags-are : take (to - from) (drop from r) ≡ flume_read_flags r a
  pub parts_are : parts ≡ (flume_read_set r a).parts
  pub masses-are : masses ≡ (flume_read_set r a).masses
  pub fills-are : fills ≡ (flume_read_set r a).fills
  pub carry-is : carry ≡ (flume_read_set r a).carry

-- the writer: number, place, the record's length, and the room
pub record FlumeWriteTold (s : FlumeSides) (g : FlumeSettings) (t : FlumeSite) (a : Lent) (room : List ℕ) (number place bytes : ℕ) (after : List ℕ) : Type 0 where
  pub number_is : number ≡ written_number (flume_written s g t a room)
  pub place_is : place ≡ written_place (flume_written s g t a room)
  pub bytes-are : bytes ≡ written_bytes (flume_written s g t a room)
  pub room-is : after ≡ flume_written_room s g t a room
