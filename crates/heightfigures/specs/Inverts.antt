-- The invert of 5 columns and 4 rows, the same in other spelling, and the faults put into it: what the reader tells of each. Assumes nothing.
use Rattle.std.specs.Prelude.{true, false, cond, List, [], ◌∷◌, ◌++◌, ℕ, suc, ◌+◌, eqb, ℤ, pos, negsuc}
use Prim.Native.String.{String}
use Rattle.lattice.specs.declared.Settings.{Settings}
use Rattle.grid.specs.State.{lent}
use Rattle.grid.specs.Outcome.{number_of, place_of}
use Rattle.record.specs.declared.Head.{Head}
use Rattle.invert.specs.declared.testing.Lengths.{Lengths}
use Rattle.invert.specs.Outcome.{read_head, set_by}
use Rattle.heightfigures.specs.Texts.{bytes, Figure}

-- ---- what the host gives: nz 4, the origin's height 7 mm, p 1024 and gravity straight down; and slices for 80 cells
abbrev settings : Settings
settings = record { p = pos 1024; gx = pos 0; gy = pos 0; gz = negsuc 1023; turbulent = false }

abbrev room : ℕ → Lengths
room carry = record { flags = 80; parts = 1520; masses = 80; fills = 80; carry = carry; words = 2; count = 1 }

-- lines as a text
abbrev pub text : List String → List ℕ
text [] = []
text (l ∷ ls) = bytes l ++ 10 ∷ text ls

abbrev head : List ℕ → Head
head t = read_head t 4 (pos 7) settings (room 3)

-- number and place, then sides, edge and origin
abbrev told : Head → List ℤ
told h =
    pos (number_of h.answer) ∷ pos (place_of h.answer) ∷ pos h.sides.nx ∷ pos h.sides.ny ∷ pos h.sides.nz
    ∷ h.site.edge ∷ h.site.x ∷ h.site.y ∷ h.site.z ∷ []

-- ---- the grid of the figure
abbrev invert : List ℕ
invert = text (
    "ncols 5"
    ∷ "nrows 4"
    ∷ "xllcorner -0.050"
    ∷ "yllcorner 5200000.000"
    ∷ "cellsize 0.050"
    ∷ "NODATA_value -9999"
    ∷ "0 0 0 0 0"
    ∷ "0 75 76 125 0"
    ∷ "0 126 -9999 -40 0"
    ∷ "0 0 0 0 0"
    ∷ [])

-- CRLF, capitals, a tab, blanks, zeros behind the third decimal, and blank lines at the end
abbrev spelled : List ℕ
spelled = text (
    "NCOLS\t5.000\r"
    ∷ "nrows 4\r"
    ∷ "xllcorner -0.050\r"
    ∷ "yllcorner 5200000.000\r"
    ∷ "  CellSize  0.05000000 \r"
    ∷ "NODATA_value -9999\r"
    ∷ "0 0 0 0 0\r"
    ∷ "0 75 76 125 0\r"
    ∷ "0 126 -9999 -40 0\r"
    ∷ "0 0 0 0 0\r"
    ∷ " \r"
    ∷ ""
    ∷ [])

-- the cells, from i on, that a list of flags leaves empty; and how many are wall
abbrev empties : ℕ → List ℕ → List ℤ
empties i [] = []
empties i (f ∷ fs) = elim (eqb f 0) [ true ↦ pos i ∷ empties (suc i) fs | false ↦ empties (suc i) fs ]

abbrev walls : List ℕ → ℕ
walls [] = 0
walls (f ∷ fs) = cond (eqb f 3) 1 0 + walls fs

abbrev flags : List ℕ → List ℕ
flags t = (set_by (head t) t (lent [] [] [] [] [])).flags

-- centres lie at 75 and 125 mm: 75 leaves both cells, 76 takes one, 125 one, 126 both
abbrev pub grids : List Figure
grids =
    record { worked = told (head invert); said = pos 0 ∷ pos 0 ∷ pos 5 ∷ pos 4 ∷ pos 4 ∷ pos 50 ∷ negsuc 49 ∷ pos 5200000000 ∷ pos 7 ∷ [] }
    ∷ record { worked = told (head spelled); said = told (head invert) }
    ∷ record { worked = pos (walls (flags invert)) ∷ empties 0 (flags invert); said = pos 74 ∷ pos 28 ∷ pos 31 ∷ pos 48 ∷ pos 51 ∷ pos 52 ∷ pos 53 ∷ [] }
    ∷ record { worked = pos (walls (flags spelled)) ∷ empties 0 (flags spelled); said = pos 74 ∷ pos 28 ∷ pos 31 ∷ pos 48 ∷ pos 51 ∷ pos 52 ∷ pos 53 ∷ [] }
    ∷ []

-- ---- the faults: number and place, all else 0
abbrev refused_by : ℕ → ℕ → Head → Figure
refused_by number place h = record { worked = told h; said = pos number ∷ pos place ∷ pos 0 ∷ pos 0 ∷ pos 0 ∷ pos 0 ∷ pos 0 ∷ pos 0 ∷ pos 0 ∷ [] }

abbrev refused : ℕ → ℕ → List String → Figure
refused number place lines = refused_by number place (head (text lines))

-- the header's six lines, and the four rows
abbrev lines : String → String → String → String → String → String → List String → List String
lines a b c d e f rows = a ∷ b ∷ c ∷ d ∷ e ∷ f ∷ rows

abbrev good : List String
good = "0 0 0 0 0" ∷ "0 75 76 125 0" ∷ "0 126 -9999 -40 0" ∷ "0 0 0 0 0" ∷ []

abbrev bad : List String
bad = "0 0 0 0 0" ∷ "0 75 76.5 125 0" ∷ "0 126 -9999 -40 0" ∷ "0 0 0 0 0" ∷ []

abbrev pub faults : List Figure
faults =
    -- ncols five
    refused 19 1 (lines "ncols five" "nrows 4" "xllcorner -0.050" "yllcorner 5200000.000" "cellsize 0.050" "NODATA_value -9999" good)
    -- ncols 5 5
    ∷ refused 19 1 (lines "ncols 5 5" "nrows 4" "xllcorner -0.050" "yllcorner 5200000.000" "cellsize 0.050" "NODATA_value -9999" good)
    -- ncols 2
    ∷ refused 1 0 (lines "ncols 2" "nrows 4" "xllcorner -0.050" "yllcorner 5200000.000" "cellsize 0.050" "NODATA_value -9999" good)
    -- ncols -5
    ∷ refused 1 0 (lines "ncols -5" "nrows 4" "xllcorner -0.050" "yllcorner 5200000.000" "cellsize 0.050" "NODATA_value -9999" good)
    -- xllcenter
    ∷ refused 19 3 (lines "ncols 5" "nrows 4" "xllcenter -0.050" "yllcorner 5200000.000" "cellsize 0.050" "NODATA_value -9999" good)
    -- -0.0505
    ∷ refused 19 3 (lines "ncols 5" "nrows 4" "xllcorner -0.0505" "yllcorner 5200000.000" "cellsize 0.050" "NODATA_value -9999" good)
    -- cellsize 1.001, also where a row is bad
    ∷ refused 3 0 (lines "ncols 5" "nrows 4" "xllcorner -0.050" "yllcorner 5200000.000" "cellsize 1.001" "NODATA_value -9999" good)
    ∷ refused 3 0 (lines "ncols 5" "nrows 4" "xllcorner -0.050" "yllcorner 5200000.000" "cellsize 1.001" "NODATA_value -9999" bad)
    -- no cellsize line
    ∷ refused 19 5 ("ncols 5" ∷ "nrows 4" ∷ "xllcorner -0.050" ∷ "yllcorner 5200000.000" ∷ "NODATA_value -9999" ∷ good)
    -- NODATA_value -1
    ∷ refused 19 6 (lines "ncols 5" "nrows 4" "xllcorner -0.050" "yllcorner 5200000.000" "cellsize 0.050" "NODATA_value -1" good)
    -- row 8 with four values, with 76.5, or blank
    ∷ refused 20 8 (lines "ncols 5" "nrows 4" "xllcorner -0.050" "yllcorner 5200000.000" "cellsize 0.050" "NODATA_value -9999" ("0 0 0 0 0" ∷ "0 75 76 125" ∷ "0 126 -9999 -40 0" ∷ "0 0 0 0 0" ∷ []))
    ∷ refused 20 8 (lines "ncols 5" "nrows 4" "xllcorner -0.050" "yllcorner 5200000.000" "cellsize 0.050" "NODATA_value -9999" bad)
    ∷ refused 20 8 (lines "ncols 5" "nrows 4" "xllcorner -0.050" "yllcorner 5200000.000" "cellsize 0.050" "NODATA_value -9999" ("0 0 0 0 0" ∷ "" ∷ "0 126 -9999 -40 0" ∷ "0 0 0 0 0" ∷ []))
    -- row 8 left out
    ∷ refused 20 10 (lines "ncols 5" "nrows 4" "xllcorner -0.050" "yllcorner 5200000.000" "cellsize 0.050" "NODATA_value -9999" ("0 0 0 0 0" ∷ "0 126 -9999 -40 0" ∷ "0 0 0 0 0" ∷ []))
    -- a line x after the rows
    ∷ refused 20 11 (lines "ncols 5" "nrows 4" "xllcorner -0.050" "yllcorner 5200000.000" "cellsize 0.050" "NODATA_value -9999" ("0 0 0 0 0" ∷ "0 75 76 125 0" ∷ "0 126 -9999 -40 0" ∷ "0 0 0 0 0" ∷ "x" ∷ []))
    -- a carry of one number, also where a row is bad
    ∷ refused_by 2 0 (read_head (text (lines "ncols 5" "nrows 4" "xllcorner -0.050" "yllcorner 5200000.000" "cellsize 0.050" "NODATA_value -9999" bad)) 4 (pos 7) settings (room 1))
    ∷ []
