-- The text of a grid's depth map: six header lines, then a row a line, from the north. Assumes nothing.
use Rattle.std.specs.Prelude.{cond, List, [], ◌∷◌, ◌++◌, ℕ, zero, suc, ◌*◌, ◌/◌, ℤ, pos, negsuc, nat_abs}
use Rattle.whole.specs.Fold.{all, total}
use Rattle.grid.specs.declared.Sides.{Sides}
use Rattle.tunnel.specs.Depth.{is_wall, open_fill}
use Rattle.spelling.specs.Spelling.{spell_of, whole_of, metres_of}
use Rattle.depths.specs.declared.Corner.{Corner}

-- ---- the header

-- the keywords as document 02 spells them
abbrev pub ncols : List ℕ
ncols = 110 ∷ 99 ∷ 111 ∷ 108 ∷ 115 ∷ []

abbrev pub nrows : List ℕ
nrows = 110 ∷ 114 ∷ 111 ∷ 119 ∷ 115 ∷ []

abbrev pub xllcorner : List ℕ
xllcorner = 120 ∷ 108 ∷ 108 ∷ 99 ∷ 111 ∷ 114 ∷ 110 ∷ 101 ∷ 114 ∷ []

abbrev pub yllcorner : List ℕ
yllcorner = 121 ∷ 108 ∷ 108 ∷ 99 ∷ 111 ∷ 114 ∷ 110 ∷ 101 ∷ 114 ∷ []

abbrev pub cellsize : List ℕ
cellsize = 99 ∷ 101 ∷ 108 ∷ 108 ∷ 115 ∷ 105 ∷ 122 ∷ 101 ∷ []

abbrev pub NODATA-value : List ℕ
NODATA-value = 78 ∷ 79 ∷ 68 ∷ 65 ∷ 84 ∷ 65 ∷ 95 ∷ 118 ∷ 97 ∷ 108 ∷ 117 ∷ 101 ∷ []

-- -9999
abbrev pub no_data : List ℕ
no_data = 45 ∷ 57 ∷ 57 ∷ 57 ∷ 57 ∷ []

-- a line: a keyword, one space, a number, LF; then what follows it
abbrev pub line_text : List ℕ → List ℕ → List ℕ → List ℕ
line_text key number rest = key ++ 32 ∷ (number ++ 10 ∷ rest)

-- the six lines; corner and cell size in metres
unfoldable pub header_text : Sides → Corner → List ℕ → List ℕ
header_text s t rest =
    line_text ncols (spell_of s.nx)
    (line_text nrows (spell_of s.ny)
    (line_text xllcorner (metres_of t.x)
    (line_text yllcorner (metres_of t.y)
    (line_text cellsize (metres_of t.edge)
    (line_text NODATA-value no_data rest)))))

-- ---- the rows

-- -9999 if every cell of the column is wall, else floor(sum·edge/65,536), sum being the fills of the other cells
unfoldable pub depth_at : Sides → ℕ → List ℕ → List ℕ → ℕ → ℕ → ℤ
depth_at s edge flags fills x y = cond (all s.nz (is_wall s flags x y)) (negsuc 9998) (pos (total s.nz (open_fill s flags fills x y) * edge / 65536))

-- what stands behind a value when n more follow it in its row: LF behind the last, else one space
abbrev pub behind : ℕ → ℕ
behind zero = 10
behind (suc n) = 32

-- a row: n values, from x on
unfoldable pub row_text : (ℕ → ℤ) → ℕ → ℕ → List ℕ
row_text v x zero = []
row_text v x (suc n) = whole_of (v x) ++ behind n ∷ row_text v (suc x) n

-- m rows of n values, from y = m − 1 down
unfoldable pub rows_text : (ℕ → ℕ → ℤ) → ℕ → ℕ → List ℕ
rows_text v n zero = []
rows_text v n (suc m) = row_text (λ x. v x m) 0 n ++ rows_text v n m

-- ---- the map
unfoldable pub map_text : Sides → Corner → List ℕ → List ℕ → List ℕ
map_text s t flags fills = header_text s t (rows_text (depth_at s (nat_abs t.edge) flags fills) s.nx s.ny)

-- names every definition of this file: whoever unfolds this computes with all of them
unfoldable pub open-map : Unit {0}
unfolding header_text depth_at row_text rows_text map_text
open-map = tt
