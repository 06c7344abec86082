-- What inner functions ask of their callers. No promise of a public function cites this file. Assumes nothing.
use Rattle.std.specs.Prelude.{◌≡◌, true, List, ℕ, ◌≤◌, ◌<◌, length, get_or}
use Rattle.grid.specs.declared.Sides.{Sides}
use Rattle.grid.specs.Grid.{sides_good, cells_of}

-- a grid whose columns can be measured
pub record Measured (s : Sides) (edge : ℕ) (flags fills : List ℕ) : Type 0 where
  pub good : sides_good s ≡ true
  pub short : edge ≤ 1000
  pub flags-all : length flags ≡ cells_of s
  pub fills-all : length fills ≡ cells_of s
  pub full : (c : ℕ) → c < cells_of s → get_or fills c 0 ≤ 65536
