-- Test 4 of a flume on the way, row by row, and the flags that passed it. Assumes nothing.
use Rattle.std.specs.Prelude.{◌≡◌, Bool, true, false, not, ◌||◌, List, ℕ, ◌+◌, ◌*◌, ◌<◌, ◌≤◌, length}
use Rattle.grid.specs.Grid.{at_end}
use Rattle.grid.specs.Good.{flag_good, bad_flag}
use Rattle.grid.specs.State.{flag_of}
use Rattle.flume.specs.declared.FlumeSides.{FlumeSides}
use Rattle.flume.specs.Flume.{flume_sides_good, flume_cells, flume_grid}

-- a cell of the flume stands at x, z
pub record Within (s : FlumeSides) (x z : ℕ) : Type 0 where
  pub along : x < s.nx
  pub high : z < s.nz

-- whether it is in the outer layer there
unfoldable pub edge : FlumeSides → ℕ → ℕ → Bool
edge s x z = at_end s.nx x || at_end s.nz z

-- a cell breaks test 4's rule
abbrev pub bad_at : FlumeSides → List ℕ → ℕ → Bool
bad_at s flags c = not (flag_good (flume_grid s) (flag_of flags) c)

-- row z begins at cell c
pub record Row (s : FlumeSides) (c z : ℕ) : Type 0 where
  pub starts : c ≡ s.nx * z
  pub high : z < s.nz

-- x is the first cell of the row at c that breaks test 4's rule, nx if none does
pub record FirstInRow (s : FlumeSides) (flags : List ℕ) (c x : ℕ) : Type 0 where
  pub most : x ≤ s.nx
  pub before : (k : ℕ) → k < x → bad_at s flags (c + k) ≡ false
  pub here : x < s.nx → bad_at s flags (c + x) ≡ true

-- flags that passed test 4
pub record FlumeFlagged (s : FlumeSides) (flags : List ℕ) : Type 0 where
  pub sides : flume_sides_good s ≡ true
  pub count : length flags ≡ flume_cells s
  pub tested : flume_cells s ≤ bad_flag (flume_grid s) (flag_of flags)
