-- What the passes of a scheme's tests ask and hold on the way, in terms of the definitions. Assumes nothing.
use Rattle.std.specs.Prelude.{◌≡◌, Bool, true, ◌&&◌, not, List, ℕ, ◌+◌, ◌≤◌, ◌<◌, eqb, length, get_or}
use Rattle.whole.specs.Fold.{any_dir, tab}
use Rattle.grid.specs.declared.Sides.{Sides}
use Rattle.grid.specs.Grid.{cells_of, sides_good, grid_of}
use Rattle.grid.specs.Good.{open_fluid}
use Rattle.grid.specs.inner.Passes.{low_of, offset_of}
use Rattle.grid.specs.State.{flag_of}
use Rattle.schemes.specs.Scheme.{joined_flags, bad_mark}

-- tests 1 and 2 have passed
pub record Measured (s : Sides) (map own : List ℕ) : Type 0 where
  pub sides : sides_good s ≡ true
  pub map-size : length map ≡ cells_of s
  pub own-size : length own ≡ cells_of s

-- and test 4
pub record Marked (s : Sides) (map own : List ℕ) : Type 0 where
  pub measured : Measured s map own
  pub marks : cells_of s ≤ bad_mark s map own

-- with the offsets of the neighbours and the lowest inner cell
pub record Looking (s : Sides) (map own off : List ℕ) (low : ℕ) : Type 0 where
  pub marked : Marked s map own
  pub table : off ≡ tab 19 (offset_of s)
  pub lowest : low ≡ low_of s

-- a neighbour, by offsets, that is neither wall nor liquid; k is c − low
unfoldable pub empty_at : List ℕ → List ℕ → List ℕ → ℕ → Bool
empty_at map own off k = any_dir 18 (λ i. not (eqb (get_or map (k + get_or off i 0) 0) 1) && eqb (get_or own (k + get_or off i 0) 0) 0)

-- every offset leads to a cell
pub record Within (map own off : List ℕ) (k : ℕ) : Type 0 where
  pub in_map : (i : ℕ) → i < 19 → k + get_or off i 0 < length map
  pub in-own : (i : ℕ) → i < 19 → k + get_or off i 0 < length own

-- test 5's rule broken at a cell of the joined grid
abbrev pub opened : Sides → List ℕ → List ℕ → ℕ → Bool
opened s map own c = open_fluid 18 (grid_of s) (flag_of (joined_flags s map own)) c

-- names every definition of this file: whoever unfolds this computes with all of them
unfoldable pub open-between : Unit {0}
unfolding empty_at
open-between = tt
