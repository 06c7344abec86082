-- What the passes of a step ask, and what they hold on the way, in terms of the stages' definitions. Assumes nothing.
use Rattle.std.specs.Prelude.{◌≡◌, true, cond, ℕ, ◌*◌, ◌<◌, ℤ, pos, ◌+ℤ◌, eqb, length}
use Rattle.lattice.specs.Lattice.{d3q19}
use Rattle.lattice.specs.Cell.{over, under}
use Rattle.lattice.specs.declared.Settings.{Settings}
use Rattle.grid.specs.declared.Sides.{Sides}
use Rattle.grid.specs.Answer.{Done}
use Rattle.grid.specs.Grid.{cells_of, sides_good, grid_of}
use Rattle.grid.specs.State.{Lent, Scene, by_flag, state_of}
use Rattle.grid.specs.Step.{flag_at, traded_mass, streamed_density, collided, filled, emptied, beside_filled, born, new_flag, received}
use Rattle.grid.specs.Good.{cell_good}
use Rattle.grid.specs.Outcome.{settings_good, good_answer}
use Rattle.grid.specs.Demands.{Walled, Closed}

-- a set's slices are of their exact lengths
pub record Sized (n : ℕ) (a : Lent) : Type 0 where
  pub flags : length a.flags ≡ n
  pub parts : length a.parts ≡ 19 * n
  pub masses : length a.masses ≡ n
  pub fills : length a.fills ≡ n
  pub carry : length a.carry ≡ 1

-- tests 1 to 6 have passed: what the passes ask of the first set
pub record Ready (s : Sides) (g : Settings) (a : Lent) : Type 0 where
  pub sides : sides_good s ≡ true
  pub sized : Sized (cells_of s) a
  pub settings : settings_good g ≡ true
  pub good : good_answer d3q19 (grid_of s) (state_of 18 a) Done ≡ Done

-- the same as Ready, cell by cell and without the carry: what a pass over all cells asks
pub record Poised (s : Sides) (g : Settings) (a : Lent) : Type 0 where
  pub sides : sides_good s ≡ true
  pub settings : settings_good g ≡ true
  pub flags : length a.flags ≡ cells_of s
  pub parts : length a.parts ≡ 19 * cells_of s
  pub masses : length a.masses ≡ cells_of s
  pub fills : length a.fills ≡ cells_of s
  pub flagged : (c : ℕ) → c < cells_of s → (state_of 18 a).flag c < 4
  pub walled : Walled (grid_of s) (state_of 18 a).flag
  pub closed : Closed 18 (grid_of s) (state_of 18 a).flag
  pub cells : (c : ℕ) → c < cells_of s → cell_good d3q19 (state_of 18 a) c ≡ true

-- ---- after stages 1 to 4: parts, masses, and marks that are 1 where a cell is filled and 2 where it would be emptied

unfoldable pub moved_part : Scene → ℕ → ℕ → ℤ
moved_part S c k = by_flag (flag_at S c) (pos 0) (collided S c k) (collided S c k) (pos 0)

unfoldable pub moved_mass : Scene → ℕ → ℤ
moved_mass S c = by_flag (flag_at S c) (pos 0) (traded_mass S c) (streamed_density S c) (pos 0)

unfoldable pub first_mark : Scene → ℕ → ℕ
first_mark S c = by_flag (flag_at S c) 0 (cond (over (traded_mass S c) (streamed_density S c)) 1 (cond (under (traded_mass S c) (streamed_density S c)) 2 0)) 0 0

-- ---- once the filled cells are known: 1 filled, 2 emptied

unfoldable pub settled_mark : Scene → ℕ → ℕ
settled_mark S c = cond (filled S c) 1 (cond (emptied S c) 2 0)

-- ---- once new interface cells have their parts, and once gifts are gathered

unfoldable pub born_part : Scene → ℕ → ℕ → ℤ
born_part S c k = by_flag (flag_at S c) (cond (beside_filled S c) (born S c k) (pos 0)) (collided S c k) (collided S c k) (pos 0)

unfoldable pub gathered_mass : Scene → ℕ → ℤ
gathered_mass S c = moved_mass S c +ℤ cond (eqb (new_flag S c) 1) (received S c) (pos 0)

-- names every definition of this file: whoever unfolds this computes with all of them
unfoldable pub open-between : Unit {0}
unfolding moved_part moved_mass first_mark settled_mark born_part gathered_mass
open-between = tt
