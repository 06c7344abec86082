-- The chainage profile: what each point of a list shows, which tests it passes, and which is the deepest. Placing and depth are used as they are
-- promised; no range and no fill is looked at here. Assumes nothing.
use Rattle.std.specs.Prelude.{Bool, false, ◌&&◌, ◌||◌, List, ℕ, zero, suc, ◌+◌, ◌*◌, ◌/◌, ◌%◌, eqb, leb, ltb, ℤ, pos, get_or, Ok, Err}
use Rattle.std.specs.Int.Signed.{le_z}
use Rattle.whole.specs.Fold.{first, all}
use Rattle.grid.specs.declared.Sides.{Sides}
use Rattle.tunnel.specs.declared.Point.{Point}
use Rattle.tunnel.specs.Place.{Placed, placing_of, placed_number}
use Rattle.tunnel.specs.Depth.{Reading, reading_number, reading_sum, depth_of}
use Rattle.profile.specs.declared.Frame.{Frame}

-- a grid and the coordinates of a list of survey points
pub record Survey : Type 0 where
  pub frame : Frame
  pub flags : List ℕ
  pub fills : List ℕ
  pub points : List ℤ

abbrev pub survey : Frame → List ℕ → List ℕ → List ℤ → Survey
survey frame flags fills points = record { frame = frame; flags = flags; fills = fills; points = points }

-- ---- one point

-- x, y, z of point i
abbrev pub point_at : List ℤ → ℕ → Point
point_at points i = record { x = get_or points (3 * i) (pos 0); y = get_or points (3 * i + 1) (pos 0); z = get_or points (3 * i + 2) (pos 0) }

-- what placing answers for it
unfoldable pub placed_at : Frame → List ℤ → ℕ → Placed
placed_at f points i = placing_of f.sides f.edge f.origin (point_at points i)

-- what depth answers for the column of cell c
unfoldable pub column_of : Sides → List ℕ → List ℕ → ℕ → Reading
column_of s flags fills c = depth_of s flags fills (c % s.nx) (c / s.nx % s.ny)

-- placing's refusal where it finds no cell
abbrev pub shown_by : Sides → List ℕ → List ℕ → Placed → Reading
shown_by s flags fills (Ok c) = column_of s flags fills c
shown_by s flags fills (Err refusal) = Err refusal

-- what point i shows. Where all tests have passed a refusal is placing's 13: the point is outside
unfoldable pub seen : Survey → ℕ → Reading
seen v i = shown_by v.frame.sides v.flags v.fills (placed_at v.frame v.points i)

-- its depth in 65,536ths, 0 unless it is deep
unfoldable pub depth_at : Survey → ℕ → ℕ
depth_at v i = reading_sum (seen v i)

-- ---- what a test of the list finds at point i

-- 23: its chainage is not above the one before
abbrev pub not_above : List ℤ → ℕ → Bool
not_above chainages zero = false
not_above chainages (suc i) = le_z (get_or chainages (suc i) (pos 0)) (get_or chainages i (pos 0))

-- 3: a coordinate is out of range
unfoldable pub far : Frame → List ℤ → ℕ → Bool
far f points i = eqb (placed_number (placed_at f points i)) 3

-- 4 and 6: its column does not pass depth's tests
unfoldable pub broken : Survey → ℕ → Bool
broken v i = eqb (reading_number (seen v i)) 4 || eqb (reading_number (seen v i)) 6

-- ---- the deepest point

-- point i of m is wet, and none is deeper
unfoldable pub is_deepest : Survey → ℕ → ℕ → Bool
is_deepest v m i = ltb 0 (depth_at v i) && all m (λ j. leb (depth_at v j) (depth_at v i))

-- the first such point, m if no point is wet
unfoldable pub deepest : Survey → ℕ → ℕ
deepest v m = first m (is_deepest v m)

-- names every definition of this file: whoever unfolds this computes with all of them
unfoldable pub open-profile : Unit {0}
unfolding placed_at column_of seen depth_at far broken is_deepest deepest
open-profile = tt
