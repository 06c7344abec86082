-- What the functions of the mirror ask and leave on the way. Assumes nothing.
use Rattle.std.specs.Prelude.{◌≡◌, List, ℕ, suc, ◌+◌, ◌*◌, ◌≤◌, ◌<◌, ℤ, pos, length, get_or}
use Rattle.lattice.specs.Lattice.{Lattice}
use Rattle.grid.specs.declared.Sides.{Sides}
use Rattle.grid.specs.Grid.{cells_of}
use Rattle.grid.specs.State.{Lent}
use Rattle.mirror.specs.Mirror.{Mirror, turned_dir, turned_cell}
use Rattle.mirroring.specs.Turned.{axes_of}

-- the reflected cell, and the reflected direction of a lattice
abbrev pub cell_in : Sides → ℕ → ℕ → ℕ
cell_in s axis c = turned_cell (axes_of axis) s.nx s.ny s.nz c

abbrev pub dir_in : Lattice → ℕ → ℕ → ℕ
dir_in L axis k = turned_dir L (axes_of axis) k

-- a reflection of a box's cells whose directions a table has
abbrev pub table_mirror : Sides → ℕ → List ℕ → Mirror
table_mirror s axis dirs = record { axes = axes_of axis; dir = λ k. get_or dirs k 0; cell = cell_in s axis }

-- the flags, parts, masses and fills of n cells of q + 1 parts
pub record Celled (q n : ℕ) (a : Lent) : Type 0 where
  pub flags : length a.flags ≡ n
  pub parts : length a.parts ≡ suc q * n
  pub masses : length a.masses ≡ n
  pub fills : length a.fills ≡ n

-- a table of directions: each of so many leads to one of so many
pub record Directed (width : ℕ) (dirs : List ℕ) : Type 0 where
  pub each : (k : ℕ) → k < width → get_or dirs k 0 < width

-- what the pass over all cells asks
pub record Turnable (s : Sides) (q : ℕ) (dirs : List ℕ) (a b : Lent) : Type 0 where
  pub few : cells_of s ≤ 262144
  pub narrow : q ≤ 18
  pub directed : Directed (suc q) dirs
  pub first : Celled q (cells_of s) a
  pub second : Celled q (cells_of s) b

-- so many numbers f from place `to` on, those before as they were
pub record Fetched (width to : ℕ) (f : ℕ → ℤ) (old new : List ℤ) : Type 0 where
  pub size : length new ≡ length old
  pub before : (j : ℕ) → j < to → get_or new j (pos 0) ≡ get_or old j (pos 0)
  pub here : (k : ℕ) → k < width → get_or new (to + k) (pos 0) ≡ f k
