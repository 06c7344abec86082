-- P8's demands on reader and writer together. Each is a type, proved in proofs/. Assumes nothing.
use Rattle.std.specs.Prelude.{◌≡◌, true, List, ℕ, ◌≤◌, ◌<◌, ℤ, pos, nat_abs, ◌*ℤ◌, take, Some}
use Rattle.lattice.specs.declared.Settings.{Settings}
use Rattle.grid.specs.declared.Sides.{Sides}
use Rattle.grid.specs.Answer.{Done}
use Rattle.grid.specs.Grid.{cells_of}
use Rattle.grid.specs.State.{Lent}
use Rattle.record.specs.declared.Site.{Site}
use Rattle.record.specs.Layout.{site_good}
use Rattle.record.specs.Writing.{written_bytes}
use Rattle.numerals.specs.Number.{number_of}
use Rattle.invert.specs.declared.testing.Lengths.{Lengths}
use Rattle.invert.specs.Outcome.{set_fits, given_answer, told_head, read_head}
use Rattle.spelling.specs.Spelling.{whole_of, metres_of}
use Rattle.depths.specs.declared.Corner.{Corner}
use Rattle.depths.specs.Outcome.{map_answer, map_written, map_room}

-- what the spelling of a number spells is that number, in thousandths: of a length within ±10^15 millimetres, and of a whole number within ±10^12
abbrev pub MetresBack : Type 0
MetresBack = (z : ℤ) → nat_abs z < 1000000000000000 → number_of (metres_of z) ≡ Some z

abbrev pub WholeBack : Type 0
WholeBack = (z : ℤ) → nat_abs z < 1000000000000 → number_of (whole_of z) ≡ Some (pos 1000 *ℤ z)

-- the text that the writer leaves in its room
abbrev pub text_in : Sides → Corner → Lent → List ℕ → List ℕ
text_in s t a room = take (written_bytes (map_written s t a room)) (map_room s t a room)

-- the grid that it stands for, with the height and the layers that a host gives
abbrev pub sides_with : Sides → ℕ → Sides
sides_with s nz = record { nx = s.nx; ny = s.ny; nz = nz }

abbrev pub site_with : Corner → ℤ → Site
site_with t oz = record { edge = t.edge; x = t.x; y = t.y; z = oz }

-- the reader refuses no such text by 19 or 20, and finds in it the nx, ny, edge and corner that were written: what is left are tests 1, 2 and 3 of what the
-- host gives
abbrev pub ReadBack : Type 0
ReadBack =
    (s : Sides) (t : Corner) (a : Lent) (room : List ℕ) → map_answer s t a room ≡ Done
    → (nz : ℕ) (oz : ℤ) (g : Settings) (l : Lengths)
    → read_head (text_in s t a room) nz oz g l ≡ told_head (given_answer (sides_with s nz) g (site_with t oz) l Done) (sides_with s nz) g (site_with t oz)

-- so with as many layers, settings in range and slices of their lengths it accepts
abbrev pub Accepted : Type 0
Accepted =
    (s : Sides) (t : Corner) (a : Lent) (room : List ℕ) → map_answer s t a room ≡ Done
    → (oz : ℤ) (g : Settings) (l : Lengths) → site_good g (site_with t oz) ≡ true → set_fits (cells_of s) l ≡ true
    → read_head (text_in s t a room) s.nz oz g l ≡ record { answer = Done; sides = s; settings = g; site = site_with t oz }

-- the longest depth map of any grid has 98,406 bytes: no text that the writer writes is longer
abbrev pub Longest : Type 0
Longest = (s : Sides) (t : Corner) (a : Lent) (room : List ℕ) → map_answer s t a room ≡ Done → written_bytes (map_written s t a room) ≤ 98406
