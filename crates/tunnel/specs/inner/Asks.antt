-- What inner functions ask of their callers and tell them. No promise of a public function cites this file. Assumes nothing.
use Rattle.std.specs.Prelude.{◌≡◌, true, ℕ, ◌<◌}
use Rattle.grid.specs.declared.Sides.{Sides}
use Rattle.grid.specs.Grid.{sides_good, cells_of}

-- a cell of good sides
pub record Inside (s : Sides) (x y z : ℕ) : Type 0 where
  pub good : sides_good s ≡ true
  pub in-x : x < s.nx
  pub in-y : y < s.ny
  pub in-z : z < s.nz

-- a column of good sides, over a slice of N
pub record InColumn (s : Sides) (n x y : ℕ) : Type 0 where
  pub good : sides_good s ≡ true
  pub all : n ≡ cells_of s
  pub in-x : x < s.nx
  pub in-y : y < s.ny
