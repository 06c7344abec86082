-- How many cells of each column an invert makes wall, from the lowest up: by column, by row, and for the layer of all columns. Assumes nothing.
use Rattle.std.specs.Prelude.{not, ◌||◌, cond, List, [], ◌∷◌, ◌++◌, ℕ, zero, suc, ◌*◌, ◌/◌, ◌%◌, ltb, ℤ, get_or}
use Rattle.whole.specs.Fold.{first}
use Rattle.grid.specs.declared.Sides.{Sides}
use Rattle.grid.specs.Grid.{grid_of}
use Rattle.numerals.specs.Text.{word, after_word, next_line}
use Rattle.numerals.specs.Number.{number_of}
use Rattle.solids.specs.Invert.{or_zero, solid_at}

unfoldable pub height_of : ℕ → ℕ → ℤ → ℕ
height_of edge nz v = first nz (λ z. not (solid_at v edge z))

unfoldable pub row_heights : ℕ → ℕ → ℕ → List ℕ → List ℕ
row_heights edge nz zero t = []
row_heights edge nz (suc n) t = height_of edge nz (or_zero (number_of (word t))) ∷ row_heights edge nz n (after_word t)

-- the first line is the highest y
unfoldable pub layer_of : ℕ → ℕ → ℕ → ℕ → List ℕ → List ℕ
layer_of edge nz n zero t = []
layer_of edge nz n (suc m) t = layer_of edge nz n m (next_line t) ++ row_heights edge nz n t

-- a cell's flag from the number of walls in its column: wall if it is outer or among them, else empty
unfoldable pub wall_of : Sides → ℕ → ℕ → ℕ
wall_of s c k = cond ((grid_of s).outer c || ltb (c / (s.nx * s.ny)) k) 3 0

-- the same from the layer of all columns
unfoldable pub wall_by : Sides → List ℕ → ℕ → ℕ
wall_by s layer c = wall_of s c (get_or layer (c % (s.nx * s.ny)) 0)
