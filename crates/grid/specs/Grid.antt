-- The grid: its sides, cell numbers, neighbours and outer layer. Assumes nothing.
use Rattle.std.specs.Prelude.{ℕ, suc, ◌+◌, ◌-◌, ◌*◌, ◌/◌, ◌%◌, Bool, ◌&&◌, ◌||◌, eqb, leb}
use Rattle.whole.specs.Fold.{up, down}
use Rattle.lattice.specs.Lattice.{Lattice, d3q19}
use Rattle.grid.specs.declared.Sides.{Sides}

-- cells 0 .. cells − 1; the neighbour of an inner cell in a direction; the outer layer
pub record Grid : Type 0 where
  pub cells : ℕ
  pub near : ℕ → ℕ → ℕ
  pub outer : ℕ → Bool

-- cell number c = x + nx(y + ny·z)
abbrev pub cell_at : ℕ → ℕ → ℕ → ℕ → ℕ → ℕ
cell_at nx ny x y z = x + nx * (y + ny * z)

-- a coordinate at either end of its side
abbrev pub at_end : ℕ → ℕ → Bool
at_end n x = eqb x 0 || eqb (suc x) n

-- the cell one step from c in direction i
unfoldable pub toward : Lattice → ℕ → ℕ → ℕ → ℕ → ℕ
toward L nx ny c i =
    c + cell_at nx ny (up (L.e i).x) (up (L.e i).y) (up (L.e i).z) - cell_at nx ny (down (L.e i).x) (down (L.e i).y) (down (L.e i).z)

-- a grid of nx by ny by nz cells, and document 02's flume of nx by nz
unfoldable pub box : Lattice → ℕ → ℕ → ℕ → Grid
box L nx ny nz = record {
  cells = nx * (ny * nz);
  near = toward L nx ny;
  outer = λ c. at_end nx (c % nx) || at_end ny (c / nx % ny) || at_end nz (c / (nx * ny));
}

unfoldable pub flume : Lattice → ℕ → ℕ → Grid
flume L nx nz = record {
  cells = nx * nz;
  near = toward L nx 1;
  outer = λ c. at_end nx (c % nx) || at_end nz (c / nx);
}

-- sides nx, ny, nz are 3 to 128, product N at most 262,144
abbrev pub side_good : ℕ → Bool
side_good n = leb 3 n && leb n 128

unfoldable pub cells_of : Sides → ℕ
cells_of s = s.nx * (s.ny * s.nz)

unfoldable pub sides_good : Sides → Bool
sides_good s = side_good s.nx && side_good s.ny && side_good s.nz && leb (cells_of s) 262144

-- the grid of document 01
unfoldable pub grid_of : Sides → Grid
grid_of s = box d3q19 s.nx s.ny s.nz

-- names every definition of this file: whoever unfolds this computes with all of them
unfoldable pub open-grid : Unit {0}
unfolding toward box flume cells_of sides_good grid_of
open-grid = tt
